-- Laws of words and numbers, for the functions that read.
use Rattle.numbers.proofs.Kit.{◌≡◌, refl, sym, ap, ap₂, ◌∙◌, Bool, true, false, cond, List, [], ◌∷◌, ◌++◌, append_assoc, append-nil, map}
use Rattle.numbers.proofs.Kit.{Option, none, some, Option·map, ℕ, suc, ◌+◌, ◌*◌, ◌-◌, ◌≤◌, ◌<◌, min, arith, add-one, length, take}
use Rattle.numbers.proofs.Kit.{drop, get_or, set, length-append, length-take, take-append-drop, drop_of_length-le, drop-cons, drop-drop}
use Rattle.numbers.proofs.Kit.{drop-set-lt, length-take-le, take_all, take-append_seam, take-suc-set, ℤ}
use Rattle.numbers.proofs.Kit.{not, eqb, ne_eqb}
use Rattle.std.specs.Prelude.{Some, None}
use Rattle.std.specs.List.{filter, slice_split, onto_first}
use Rattle.std.proofs.lemmas.List.Splits.{length-slice_split}
use Rattle.product_text.specs.Text.{separator, keep, words_from, words, digit, value_from, number, numbers_of, before}
use Rattle.product_text.specs.Parts.{returned, held, at_front, front_of, put_front, onto, kept}

never : {A : Type 0} → ◌≡◌ {A = ℕ} 0 1 → A
never e = absurd (omega arith)

-- ---- words

-- a part between two separators is a word, unless it is empty
abbrev pub some_byte : List ℕ → Bool
some_byte w = not (eqb (length w) 0)

-- what was read of the first word stands before the first part
abbrev before_first : List ℕ → List (List ℕ) → List (List ℕ)
before_first w [] = []
before_first w (v ∷ vs) = (w ++ v) ∷ vs

keep-is : (w : List ℕ) (ws : List (List ℕ)) → keep w (filter some_byte ws) ≡ filter some_byte (w ∷ ws)
keep-is [] ws = refl
keep-is (b ∷ w) ws = rw (ne_eqb (suc (length w)) 0 (λ e. absurd (omega arith)))

before_none : (vs : List (List ℕ)) → before_first [] vs ≡ vs
before_none [] = refl
before_none (v ∷ vs) = refl

before-onto : (w : List ℕ) (b : ℕ) (vs : List (List ℕ)) → 0 < length vs → before_first w (onto_first b vs) ≡ before_first (w ++ (b ∷ [])) vs
before-onto w b [] h = absurd (omega arith)
before-onto w b (v ∷ vs) h = ap (λ (x : List ℕ). x ∷ vs) (sym (append_assoc w (b ∷ []) v))

words_from-is : (w t : List ℕ) → words_from w t ≡ filter some_byte (before_first w (slice_split separator t))
words_from-is w [] = keep-is w [] ∙ ap (λ (x : List ℕ). filter some_byte (x ∷ [])) (sym (append-nil w))
words_from-is w (b ∷ t) = go (words_from-is [] t) (words_from-is (w ++ (b ∷ [])) t) (separator b)
  where
    parts : List (List ℕ)
    parts = slice_split separator t

    go : words_from [] t ≡ filter some_byte (before_first [] parts) → words_from (w ++ (b ∷ [])) t ≡ filter some_byte (before_first (w ++ (b ∷ [])) parts)
        → (s : Bool) → cond s (keep w (words_from [] t)) (words_from (w ++ (b ∷ [])) t) ≡ filter some_byte (before_first w (cond s ([] ∷ parts) (onto_first b parts)))
    go here on true =
        ap (keep w) (here ∙ ap (filter some_byte) (before_none parts)) ∙ keep-is w parts ∙ ap (λ (x : List ℕ). filter some_byte (x ∷ parts)) (sym (append-nil w))
    go here on false = on ∙ ap (filter some_byte) (sym (before-onto w b parts (omega (arith, length-slice_split separator t))))

pub words-are : (t : List ℕ) → filter some_byte (slice_split separator t) ≡ words t
words-are t = sym (words_from-is [] t ∙ ap (filter some_byte) (before_none (slice_split separator t)))

-- ---- digits

-- keeping a number to 2^32 at each digit keeps it to 2^32 at the end
kept-digits : (t : List ℕ) (v : ℕ) → kept (value_from (min v 0x1_0000_0000) t) ≡ kept (value_from v t)
kept-digits [] v = ap some (omega arith)
kept-digits (d ∷ t) v = go (kept-digits t) (digit d)
  where
    same : min (10 * min v 0x1_0000_0000 + (d - 48)) 0x1_0000_0000 ≡ min (10 * v + (d - 48)) 0x1_0000_0000
    same = omega arith

    go : ((x : ℕ) → kept (value_from (min x 0x1_0000_0000) t) ≡ kept (value_from x t)) → (b : Bool)
        → kept (cond b (value_from (10 * min v 0x1_0000_0000 + (d - 48)) t) none) ≡ kept (cond b (value_from (10 * v + (d - 48)) t) none)
    go ih true = sym (ih (10 * min v 0x1_0000_0000 + (d - 48))) ∙ ap (λ (x : ℕ). kept (value_from x t)) same ∙ ih (10 * v + (d - 48))
    go ih false = refl

pub digits_more : (s : List ℕ) (i v : ℕ) → i < length s → digit (get_or s i 0) ≡ true
    → kept (value_from v (drop i s)) ≡ kept (value_from (min (10 * v + (get_or s i 0 - 48)) 0x1_0000_0000) (drop (i + 1) s))
digits_more s i v h e = rw (add-one, drop-cons s i 0 h, e) (sym (kept-digits (drop (suc i) s) (10 * v + (get_or s i 0 - 48))))

-- ---- the numbers of words

-- as the code holds them
abbrev pub held_of : List (List ℕ) → Option (List ℕ)
held_of ws = Option·map (map held) (numbers_of ws)

-- a number more
value_before : (o : Option ℤ) (zs : Option (List ℤ)) (l : List ℕ) (x : ℕ) → returned (Option·map held o) ≡ Some x
    → (Option·map (map held) (before o zs) ≡ onto (x ∷ []) (Option·map (map held) zs)) × (at_front o l ≡ x ∷ l)
value_before none zs l x e = never (cc)
value_before (some z) none l x e = let h : held z ≡ x = cc in (refl, ap (λ (y : ℕ). y ∷ l) h)
value_before (some z) (some zs) l x e = let h : held z ≡ x = cc in (ap (λ (y : ℕ). some (y ∷ map held zs)) h, ap (λ (y : ℕ). y ∷ l) h)

-- a word that is no number
other-before : (o : Option ℤ) (zs : Option (List ℤ)) (l : List ℕ) → returned (Option·map held o) ≡ None → (Option·map (map held) (before o zs) ≡ none) × (at_front o l ≡ [])
other-before none zs l e = (refl, refl)
other-before (some z) zs l e = never (cc)

module _ (ws : List (List ℕ)) (i : ℕ) (w : List ℕ) (next : (i < length ws) × (w ≡ get_or ws i w)) where
  ahead : drop i ws ≡ w ∷ drop (i + 1) ws
  ahead = let h = next.0 in rw (add-one, drop-cons ws i w h) (ap (λ (v : List ℕ). v ∷ drop (suc i) ws) (sym next.1))

  pub value-ahead : (x : ℕ) → returned (Option·map held (number w)) ≡ Some x
      → (held_of (drop i ws) ≡ onto (x ∷ []) (held_of (drop (i + 1) ws))) × (front_of (drop i ws) ≡ x ∷ front_of (drop (i + 1) ws))
  value-ahead x e = rw ahead (value_before (number w) (numbers_of (drop (i + 1) ws)) (front_of (drop (i + 1) ws)) x e)

  pub other-ahead : returned (Option·map held (number w)) ≡ None → (held_of (drop i ws) ≡ none) × (front_of (drop i ws) ≡ [])
  other-ahead e = rw ahead (other-before (number w) (numbers_of (drop (i + 1) ws)) (front_of (drop (i + 1) ws)) e)

pub none-ahead : (ws : List (List ℕ)) (i : ℕ) → length ws ≤ i → (held_of (drop i ws) ≡ some []) × (front_of (drop i ws) ≡ [])
none-ahead ws i h = rw (drop_of_length-le ws h) (refl, refl)

-- ---- reading all: those read stand in `out`, and the others are ahead

onto-onto : (a b : List ℕ) (o : Option (List ℕ)) → onto a (onto b o) ≡ onto (a ++ b) o
onto-onto a b none = refl
onto-onto a b (some l) = ap some (sym (append_assoc a b l))

module _ (all here : Option (List ℕ)) (out : List ℕ) (n : ℕ) (e : all ≡ onto (take n out) here) where
  pub read-end : here ≡ some [] → all ≡ some (take n out)
  read-end f = e ∙ ap (onto (take n out)) f ∙ ap some (append-nil (take n out))

  pub read-bad : here ≡ none → (l : List ℕ) → all ≡ some l → length out < length l
  read-bad f l g = let k : none ≡ some l = sym (e ∙ ap (onto (take n out)) f) ∙ g in never (cc)

  module _ (next : Option (List ℕ)) (x : ℕ) (f : here ≡ onto (x ∷ []) next) where
    -- a number more
    pub read_more : n < length out → all ≡ onto (take (n + 1) (set out n x)) next
    read_more h =
        let t : take (n + 1) (set out n x) ≡ take n out ++ (x ∷ []) = rw add-one (take-suc-set out n x h) in
        e ∙ ap (onto (take n out)) f ∙ onto-onto (take n out) (x ∷ []) next ∙ ap (λ (l : List ℕ). onto l next) (sym t)

    pub read-many : n ≡ length out → (l : List ℕ) → all ≡ some l → length out < length l
    read-many h l g = longer next (sym (e ∙ ap (onto (take n out)) f) ∙ g)
      where
        longer : (o : Option (List ℕ)) → onto (take n out) (onto (x ∷ []) o) ≡ some l → length out < length l
        longer none k = never (cc)
        longer (some t) k =
            let j : take n out ++ (x ∷ t) ≡ l = cc in
            omega (arith, simp (length-append, length-take) at (ap length j))

-- ---- the buffer: what is read so far stands at its start, and the rest is as it was

module _ (all here out out₀ : List ℕ) (n : ℕ) (fits : n ≤ length out) (same : length out ≡ length out₀) (e : all ≡ take n out ++ here) (rest : drop n out ≡ drop n out₀) where
  pub put-more : (next : List ℕ) (x : ℕ) → here ≡ x ∷ next → n < length out → (all ≡ take (n + 1) (set out n x) ++ next) × (drop (n + 1) (set out n x) ≡ drop (n + 1) out₀)
  put-more next x f h =
      let t : take (n + 1) (set out n x) ≡ take n out ++ (x ∷ []) = rw add-one (take-suc-set out n x h) in (
        e ∙ ap (λ (l : List ℕ). take n out ++ l) f ∙ sym (append_assoc (take n out) (x ∷ []) next) ∙ ap (λ (l : List ℕ). l ++ next) (sym t),
        drop-set-lt (n + 1) out n x (omega arith) ∙ sym (drop-drop 1 n out) ∙ ap (drop 1) rest ∙ drop-drop 1 n out₀,
      )

  -- no number more
  pub put_last : here ≡ [] → out ≡ put_front all out₀
  put_last f =
      let a : all ≡ take n out = e ∙ ap (λ (l : List ℕ). take n out ++ l) f ∙ append-nil (take n out) in
      let k : length (take n out) ≡ n = length-take-le n out fits in
      sym (take-append-drop n out)
      ∙ ap₂ (λ (l r : List ℕ). l ++ r) (sym (take_all (length out₀) (take n out) (omega arith))) (rest ∙ ap (λ (i : ℕ). drop i out₀) (sym k))
      ∙ ap (λ (l : List ℕ). put_front l out₀) (sym a)

  -- no room for more
  pub put_full : n ≡ length out → out ≡ put_front all out₀
  put_full h =
      let t : take n out ≡ out = take_all n out (omega arith) in
      let a : all ≡ out ++ here = e ∙ ap (λ (l : List ℕ). l ++ here) t in
      let p : take (length out₀) all ≡ out = ap₂ take (sym same) a ∙ take-append_seam out here in
      let d : drop (length all) out₀ ≡ [] = drop_of_length-le out₀ {i = length all} (omega (arith, ap length a, length-append out here)) in
      sym (append-nil out) ∙ ap₂ (λ (l r : List ℕ). l ++ r) (sym p) (sym d)
