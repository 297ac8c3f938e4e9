-- Numbers and bytes put into room one after the other.
use Rattle.numbers.proofs.Kit.{◌≡◌, refl, sym, ap, ap₂, ◌∙◌, Bool, true, false, ◌||◌, List, [], ◌∷◌, ◌++◌, append_assoc, append-nil, ℕ, suc, ◌+◌, ◌≤◌, ◌<◌}
use Rattle.numbers.proofs.Kit.{arith, add-one, eqb, ltb, length, drop, get_or, set, length-append, drop_of_length-le, sets, sets-eq, drop-cons, eq-eqb}
use Rattle.numbers.proofs.Kit.{ne_eqb}
use Rattle.numbers_format.specs.Numbers.{encode, encode_all}
use Rattle.image.specs.Images.{Header, beyond, version}

-- bytes, then more behind them
pub sets-append : (a t room : List ℕ) (at : ℕ) → sets room at (a ++ t) ≡ sets (sets room at a) (at + length a) t
sets-append [] t room at = ap (λ (x : ℕ). sets room x t) (omega arith)
sets-append (b ∷ a) t room at = sets-append a t (set room at b) (suc at) ∙ ap (λ (x : ℕ). sets (sets (set room at b) (suc at) a) x t) (omega arith)

-- bytes at the front of the room, which stays as it was past them
pub sets-front : (image room : List ℕ) → length image ≤ length room → sets room 0 image ≡ image ++ drop (length image) room
sets-front image room h =
    let e : 0 + length image ≡ length image = omega arith in
    sets-eq image room 0 (omega arith) ∙ ap (λ (x : ℕ). image ++ drop x room) e

-- ---- several numbers

pub all_append : (ns : List ℕ) (t : List ℕ) → encode_all ns t ≡ encode_all ns [] ++ t
all_append [] t = refl
all_append (n ∷ ns) t = ap (λ (l : List ℕ). encode n ++ l) (all_append ns t) ∙ sym (append_assoc (encode n) (encode_all ns []) t)

-- and one more
pub all-last : (ns : List ℕ) (n : ℕ) (t : List ℕ) → encode_all (ns ++ (n ∷ [])) [] ++ t ≡ encode_all ns (encode n ++ t)
all-last [] n t = ap (λ (l : List ℕ). l ++ t) (append-nil (encode n))
all-last (k ∷ ns) n t = append_assoc (encode k) (encode_all (ns ++ (n ∷ [])) []) t ∙ ap (λ (l : List ℕ). encode k ++ l) (all-last ns n t)

module _ (ns : List ℕ) (i : ℕ) (h : i < length ns) where
  pub all_more : encode_all (drop i ns) [] ≡ encode (get_or ns i 0) ++ encode_all (drop (i + 1) ns) []
  all_more = ap (λ (l : List ℕ). encode_all l []) (drop-cons ns i 0 h) ∙ ap (λ (x : ℕ). encode (get_or ns i 0) ++ encode_all (drop x ns) []) (sym (add-one i))

  pub size-more : length (encode_all (drop i ns) []) ≡ length (encode (get_or ns i 0)) + length (encode_all (drop (i + 1) ns) [])
  size-more = ap length all_more ∙ length-append (encode (get_or ns i 0)) (encode_all (drop (i + 1) ns) [])

pub all_end : (ns : List ℕ) (i : ℕ) → length ns ≤ i → encode_all (drop i ns) [] ≡ []
all_end ns i h = ap (λ (l : List ℕ). encode_all l []) (drop_of_length-le ns {i = i} h)

-- one number put: the room, and where the others go
pub put-more : (ns room : List ℕ) (i at : ℕ) → i < length ns
    → sets room at (encode_all (drop i ns) []) ≡ sets (sets room at (encode (get_or ns i 0))) (at + length (encode (get_or ns i 0))) (encode_all (drop (i + 1) ns) [])
put-more ns room i at h = ap (sets room at) (all_more ns i h) ∙ sets-append (encode (get_or ns i 0)) (encode_all (drop (i + 1) ns) []) room at

-- three parts put, and what is left
pub put_three : (room a b d t room₁ room₂ room₃ : List ℕ) (at at₁ at₂ at₃ : ℕ)
    → room₁ ≡ sets room at a → at₁ ≡ at + length a → room₂ ≡ sets room₁ at₁ b → at₂ ≡ at₁ + length b → room₃ ≡ sets room₂ at₂ d → at₃ ≡ at₂ + length d
    → sets room at (a ++ (b ++ (d ++ t))) ≡ sets room₃ at₃ t
put_three room a b d t room₁ room₂ room₃ at at₁ at₂ at₃ r₁ e₁ r₂ e₂ r₃ e₃ =
    sets-append a (b ++ (d ++ t)) room at ∙ ap₂ (λ (x : List ℕ) (y : ℕ). sets x y (b ++ (d ++ t))) (sym r₁) (sym e₁)
    ∙ sets-append b (d ++ t) room₁ at₁ ∙ ap₂ (λ (x : List ℕ) (y : ℕ). sets x y (d ++ t)) (sym r₂) (sym e₂)
    ∙ sets-append d t room₂ at₂ ∙ ap₂ (λ (x : List ℕ) (y : ℕ). sets x y t) (sym r₃) (sym e₃)

-- ---- the version of an image, with what follows it

pub version-four : (h : Header) (e : ℕ) → e ≡ h.elen → ¬ (length h.seals ≡ 1) → 4 ∷ h.rule ∷ e ∷ [] ≡ version h
version-four h e q o = rw (ne_eqb (length h.seals) 1 o) (ap (λ (x : ℕ). 4 ∷ h.rule ∷ x ∷ []) q)

module _ (h : Header) (o : length h.seals ≡ 1) where
  pub version-three : (e : ℕ) → e ≡ h.elen → beyond h.elen h.rlen h.mlen ≡ true → 3 ∷ h.rule ∷ e ∷ [] ≡ version h
  version-three e q b = rw (eq-eqb (length h.seals) 1 o, b) (ap (λ (x : ℕ). 3 ∷ h.rule ∷ x ∷ []) q)

  pub version-two : beyond h.elen h.rlen h.mlen ≡ false → h.rule ≡ 1 → 2 ∷ 1 ∷ [] ≡ version h
  version-two b e = rw (eq-eqb (length h.seals) 1 o, b, eq-eqb h.rule 1 e)

  pub version-one : beyond h.elen h.rlen h.mlen ≡ false → ¬ (h.rule ≡ 1) → 1 ∷ [] ≡ version h
  version-one b d = rw (eq-eqb (length h.seals) 1 o, b, ne_eqb h.rule 1 d)

-- whether a machine is beyond the old bounds, test by test
pub beyond-by : (e r m : ℕ) (a b : Bool) → eqb e 6 ≡ a → ltb 9 r ≡ b → a || (b || ltb 12 m) ≡ beyond e r m
unfolding beyond
beyond-by e r m a b p q = rw (p, q)
