-- 02, One: which words get 10, 11, 1 and 12, and that nothing else moved.
use Rattle.numbers.proofs.Kit.{◌≡◌, refl, sym, ap, ap₂, ◌∙◌, subst, ◌↔◌, ◌⊎◌, inl, inr, Bool, true, false, cond, not, ◌&&◌, ◌||◌, List, [], ◌∷◌, List-as-Memᴰ}
use Rattle.numbers.proofs.Kit.{List·Memᴰ·head, List·Memᴰ·tail, List·Memᴰ·cases-cons, List·Memᴰ·not-nil, ℕ, arith, eqb, eq-eqb, eqb-true, eqb-false, Err}
use Rattle.machine.specs.declared.Refusal.TheVariants.{IllegalWord, BadArguments, WrongOpcode, LeftOutWord, WrongRegister}
use Rattle.machine.specs.declared.Wrong.{Wrong}
use Rattle.machine.specs.declared.Wrong.TheVariants.{Opcode, LeftOut, Unlisted, Register}
use Rattle.machine.specs.declared.Instruction.{Instruction}
use Rattle.machine.specs.declared.Instruction.TheVariants.{Illegal, SetTypeImmediate, SetType, SetTileImmediate, SetTile, Load, Store, Multiply, Combine, Scale, ScaleImmediate, FloatMultiply, MoveOut, MoveIn}
use Rattle.machine.specs.Tests.{is_in}
use Rattle.machine.specs.Answers.{reply, Check, ◌otherwise◌, verdict, is_done, number, Answer}
use Rattle.machine.specs.Geometry.{sealed, Parameters, parameters, State, Bench}
use Rattle.machine.specs.Listing.{bits, Fixed, Code, Row, listing, others, has, listed, look_up, not_ours, in_range, ranged, decode}
use Rattle.machine.specs.Operation.{Operation, operation_in}
use Rattle.machine.specs.Vectors.{Vectors, vectors_fit}
use Rattle.machine.specs.declared.Form.TheVariants.{Plain, Transposed}
use Rattle.machine.specs.Refusals.{word_answer}
use Rattle.machine.specs.Meanings.{checks}
use Rattle.machine.specs.Faults.{sound_bench, thirty_two}
use Rattle.machine.specs.Step
use Rattle.machine.specs.Step.{Outcome, VectorOutcome, beside, outcome_in, vectors_in, stepped_in, step_with, checks_in}
use Rattle.machine.specs.WordTheorems.{Faultless, RightOpcode, EveryBit, IsOther, IsOurs, group_fits, OutOfRange, RefusedAs, WordRefusals, is_added, listing_before, decode_before, number_before, OnlyNumberMoved, IsAdded, NothingElseMoved, AddedGotOne}
use Rattle.machine.proofs.TestLaws.{and-true, and_left, and_right, or-not, false-true}
use Rattle.machine.proofs.ListingLaws.{clash, clash_all, codes, pairwise, one-row-each, clash-apart}

-- ---- the bits of an entry

has-bits : (word : ℕ) (fs : List Fixed) → has word fs ≡ true → (f : Fixed) → List-as-Memᴰ f fs → bits f.high f.low word ≡ f.value
has-bits word [] h f m = absurd (List·Memᴰ·not-nil m)
has-bits word (g ∷ gs) h f m =
    let here : bits g.high g.low word ≡ g.value = eqb-true (bits g.high g.low word) g.value (and_left (eqb (bits g.high g.low word) g.value) (has word gs) h) in
    elim (List·Memᴰ·cases-cons m) [
      | inl e ↦ subst (λ (x : Fixed). bits x.high x.low word ≡ x.value) (sym e) here
      | inr n ↦ has-bits word gs (and_right (eqb (bits g.high g.low word) g.value) (has word gs) h) f n
    ]

pub bits-has : (word : ℕ) (fs : List Fixed) → ((f : Fixed) → List-as-Memᴰ f fs → bits f.high f.low word ≡ f.value) → has word fs ≡ true
bits-has word [] h = refl
bits-has word (g ∷ gs) h =
    and-true (eqb (bits g.high g.low word) g.value) (has word gs)
    (eq-eqb (bits g.high g.low word) g.value (h g (List·Memᴰ·head refl))) (bits-has word gs (λ f m. h f (List·Memᴰ·tail m)))

-- one of a list passes, or none does
search-in : {A : Type 0} (p : A → Bool) (ys : List A) → ((a : A) × List-as-Memᴰ a ys × (p a ≡ true)) ⊎ ((a : A) → List-as-Memᴰ a ys → ¬ (p a ≡ true))
search-in p [] = inr (λ a m. absurd (List·Memᴰ·not-nil m))
search-in {A} p (b ∷ bs) = go (p b) refl (search-in p bs)
  where
    go : (t : Bool) → p b ≡ t → ((a : A) × List-as-Memᴰ a bs × (p a ≡ true)) ⊎ ((a : A) → List-as-Memᴰ a bs → ¬ (p a ≡ true))
        → ((a : A) × List-as-Memᴰ a (b ∷ bs) × (p a ≡ true)) ⊎ ((a : A) → List-as-Memᴰ a (b ∷ bs) → ¬ (p a ≡ true))
    go true e later = inl (b, List·Memᴰ·head refl, e)
    go false e (inl x) = inl (x.0, List·Memᴰ·tail x.1, x.2)
    go false e (inr n) = inr (λ a m h.
        elim (List·Memᴰ·cases-cons m) [ inl s ↦ false-true (sym e ∙ subst (λ (x : A). p x ≡ true) s h) | inr l ↦ n a l h ])

-- ---- the look-ups

listed-one : (word : ℕ) (cs : List Code) (c : Code) → List-as-Memᴰ c cs → has word c.fixed ≡ true → listed word cs ≡ true
listed-one word [] c m h = absurd (List·Memᴰ·not-nil m)
listed-one word (d ∷ ds) c m h =
    elim (List·Memᴰ·cases-cons m) [
      | inl e ↦ ap (λ (b : Bool). b || listed word ds) (subst (λ (x : Code). has word x.fixed ≡ true) e h)
      | inr n ↦ go (has word d.fixed) (listed-one word ds c n h)
    ]
  where
    go : (t : Bool) → listed word ds ≡ true → t || listed word ds ≡ true
    go true l = refl
    go false l = l

listed-none : (word : ℕ) (cs : List Code) → ((c : Code) → List-as-Memᴰ c cs → ¬ (has word c.fixed ≡ true)) → listed word cs ≡ false
listed-none word [] n = refl
listed-none word (d ∷ ds) n = ap₂ ◌||◌ (untrue (has word d.fixed) (n d (List·Memᴰ·head refl))) (listed-none word ds (λ c m. n c (List·Memᴰ·tail m)))
  where
    untrue : (t : Bool) → ¬ (t ≡ true) → t ≡ false
    untrue true h = absurd (h refl)
    untrue false h = refl

clash-row : (c : Code) (rs : List Row) → clash_all c (codes rs) ≡ true → (r : Row) → List-as-Memᴰ r rs → clash c.fixed r.code.fixed ≡ true
clash-row c [] h r m = absurd (List·Memᴰ·not-nil m)
clash-row c (s ∷ rs) h r m =
    elim (List·Memᴰ·cases-cons m) [
      | inl e ↦ subst (λ (x : Row). clash c.fixed x.code.fixed ≡ true) (sym e) (and_left (clash c.fixed s.code.fixed) (clash_all c (codes rs)) h)
      | inr n ↦ clash-row c rs (and_right (clash c.fixed s.code.fixed) (clash_all c (codes rs)) h) r n
    ]

-- a row whose bits the word has is the one that is found
look-up-one : (word : ℕ) (none : Instruction) (rs : List Row) → pairwise (codes rs) ≡ true
    → (r : Row) → List-as-Memᴰ r rs → has word r.code.fixed ≡ true → look_up word none rs ≡ r.means word
look-up-one word none [] p r m h = absurd (List·Memᴰ·not-nil m)
look-up-one word none (s ∷ rs) p r m h =
    elim (List·Memᴰ·cases-cons m) [
      | inl e ↦ ap (λ (t : Bool). cond t (s.means word) (look_up word none rs)) (subst (λ (x : Row). has word x.code.fixed ≡ true) e h) ∙ ap (λ (x : Row). x.means word) (sym e)
      | inr n ↦ go (has word s.code.fixed) refl (clash-row s.code rs (and_left (clash_all s.code (codes rs)) (pairwise (codes rs)) p) r n)
          (look-up-one word none rs (and_right (clash_all s.code (codes rs)) (pairwise (codes rs)) p) r n h)
    ]
  where
    go : (t : Bool) → has word s.code.fixed ≡ t → clash s.code.fixed r.code.fixed ≡ true → look_up word none rs ≡ r.means word
        → cond t (s.means word) (look_up word none rs) ≡ r.means word
    go true e k ih = absurd (clash-apart word s.code.fixed r.code.fixed k e h)
    go false e k ih = ih

look-up-none : (word : ℕ) (none : Instruction) (rs : List Row) → ((r : Row) → List-as-Memᴰ r rs → ¬ (has word r.code.fixed ≡ true)) → look_up word none rs ≡ none
look-up-none word none [] n = refl
look-up-none word none (s ∷ rs) n = go (has word s.code.fixed) (n s (List·Memᴰ·head refl)) (look-up-none word none rs (λ r m. n r (List·Memᴰ·tail m)))
  where
    go : (t : Bool) → ¬ (t ≡ true) → look_up word none rs ≡ none → cond t (s.means word) (look_up word none rs) ≡ none
    go true h ih = absurd (h refl)
    go false h ih = ih

-- the entries that were ours before: they are entries of ours, and all but those added
before-ours : (rs : List Row) (r : Row) → List-as-Memᴰ r (listing_before rs) → List-as-Memᴰ r rs
before-ours [] r m = m
before-ours (s ∷ rs) r m = go (is_added s) (before-ours rs r) m
  where
    go : (t : Bool) → (List-as-Memᴰ r (listing_before rs) → List-as-Memᴰ r rs) → List-as-Memᴰ r (cond t (listing_before rs) (s ∷ listing_before rs)) → List-as-Memᴰ r (s ∷ rs)
    go true later m = List·Memᴰ·tail (later m)
    go false later m = elim (List·Memᴰ·cases-cons m) [ inl e ↦ List·Memᴰ·head e | inr n ↦ List·Memᴰ·tail (later n) ]

before-one : (word : ℕ) (none : Instruction) (rs : List Row) → pairwise (codes rs) ≡ true
    → (r : Row) → List-as-Memᴰ r rs → has word r.code.fixed ≡ true → look_up word none (listing_before rs) ≡ cond (is_added r) none (r.means word)
before-one word none [] p r m h = absurd (List·Memᴰ·not-nil m)
before-one word none (s ∷ rs) p r m h =
    elim (List·Memᴰ·cases-cons m) [
      | inl e ↦ subst (λ (x : Row). look_up word none (listing_before (s ∷ rs)) ≡ cond (is_added x) none (x.means word)) (sym e)
          (here (is_added s) (subst (λ (x : Row). has word x.code.fixed ≡ true) e h))
      | inr n ↦ there (is_added s) (has word s.code.fixed) refl (clash-row s.code rs (and_left (clash_all s.code (codes rs)) (pairwise (codes rs)) p) r n)
          (before-one word none rs (and_right (clash_all s.code (codes rs)) (pairwise (codes rs)) p) r n h)
    ]
  where
    here : (t : Bool) → has word s.code.fixed ≡ true → look_up word none (cond t (listing_before rs) (s ∷ listing_before rs)) ≡ cond t none (s.means word)
    here true g = look-up-none word none (listing_before rs) (λ q n k.
        clash-apart word s.code.fixed q.code.fixed (clash-row s.code rs (and_left (clash_all s.code (codes rs)) (pairwise (codes rs)) p) q (before-ours rs q n)) g k)
    here false g = ap (λ (t : Bool). cond t (s.means word) (look_up word none (listing_before rs))) g

    there : (t u : Bool) → has word s.code.fixed ≡ u → clash s.code.fixed r.code.fixed ≡ true
        → look_up word none (listing_before rs) ≡ cond (is_added r) none (r.means word)
        → look_up word none (cond t (listing_before rs) (s ∷ listing_before rs)) ≡ cond (is_added r) none (r.means word)
    there true u e k ih = ih
    there false true e k ih = absurd (clash-apart word s.code.fixed r.code.fixed k e h)
    there false false e k ih = ap (λ (t : Bool). cond t (s.means word) (look_up word none (listing_before rs))) e ∙ ih

before-none : (word : ℕ) (none : Instruction) → ((r : Row) → List-as-Memᴰ r listing → ¬ (has word r.code.fixed ≡ true)) → look_up word none (listing_before listing) ≡ none
before-none word none n = look-up-none word none (listing_before listing) (λ r m. n r (before-ours listing r m))

-- whether a word is one of ours
pub ours-or-not : (word : ℕ) → IsOurs word ⊎ ¬ IsOurs word
ours-or-not word =
    elim (search-in (λ (r : Row). has word r.code.fixed) listing) [
      | inl r ↦ inl (r.0, r.1, has-bits word r.0.code.fixed r.2)
      | inr n ↦ inr (λ r. n r.0 r.1 (bits-has word r.0.code.fixed r.2))
    ]

-- ---- the kinds of words, and what each decodes to, now and before

abbrev before : Row → ℕ → Instruction
before r word =
    let i : Instruction = cond (is_added r) (Illegal Unlisted) (r.means word) in
    cond (in_range i) i (Illegal Unlisted)

data Kind (word : ℕ) : Type 0 where
  wrong-opcode : ¬ RightOpcode word → decode word ≡ Illegal Opcode → decode_before word ≡ Illegal Unlisted → Kind word
  ours : RightOpcode word → (r : Row) → List-as-Memᴰ r listing → EveryBit word r.code
      → decode word ≡ ranged (r.means word) → decode_before word ≡ before r word → Kind word
  left_out : RightOpcode word → IsOther word → ¬ IsOurs word → decode word ≡ Illegal LeftOut → decode_before word ≡ Illegal Unlisted → Kind word
  unlisted : RightOpcode word → ¬ IsOther word → ¬ IsOurs word → decode word ≡ Illegal Unlisted → decode_before word ≡ Illegal Unlisted → Kind word

module _ (word : ℕ) where
  abbrev by : Bool → Instruction → Instruction
  by t i = cond t (ranged i) (Illegal Opcode)

  abbrev by_before : Bool → Instruction → Instruction
  by_before t i = cond t (cond (in_range i) i (Illegal Unlisted)) (Illegal Unlisted)

  decodes : (t : Bool) (i : Instruction) → eqb (bits 6 0 word) 0b1110111 ≡ t → look_up word (not_ours word) listing ≡ i → decode word ≡ by t i
  unfolding decode
  decodes t i e l = ap₂ by e l

  decoded-before : (t : Bool) (i : Instruction) → eqb (bits 6 0 word) 0b1110111 ≡ t → look_up word (Illegal Unlisted) (listing_before listing) ≡ i → decode_before word ≡ by_before t i
  decoded-before t i e l = ap₂ by_before e l

  kind : Kind word
  kind = go (eqb (bits 6 0 word) 0b1110111) refl (search-in (λ (r : Row). has word r.code.fixed) listing) (search-in (λ (c : Code). has word c.fixed) others)
    where
      go : (t : Bool) → eqb (bits 6 0 word) 0b1110111 ≡ t
          → ((r : Row) × List-as-Memᴰ r listing × (has word r.code.fixed ≡ true)) ⊎ ((r : Row) → List-as-Memᴰ r listing → ¬ (has word r.code.fixed ≡ true))
          → ((c : Code) × List-as-Memᴰ c others × (has word c.fixed ≡ true)) ⊎ ((c : Code) → List-as-Memᴰ c others → ¬ (has word c.fixed ≡ true)) → Kind word
      go false e rs cs =
          wrong-opcode (eqb-false (bits 6 0 word) 0b1110111 e) (decodes false (look_up word (not_ours word) listing) e refl) (decoded-before false (look_up word (Illegal Unlisted) (listing_before listing)) e refl)
      go true e (inl r) cs =
          ours (eqb-true (bits 6 0 word) 0b1110111 e) r.0 r.1 (has-bits word r.0.code.fixed r.2)
          (decodes true (r.0.means word) e (look-up-one word (not_ours word) listing one-row-each r.0 r.1 r.2))
          (decoded-before true (cond (is_added r.0) (Illegal Unlisted) (r.0.means word)) e (before-one word (Illegal Unlisted) listing one-row-each r.0 r.1 r.2))
      go true e (inr n) (inl c) =
          left_out (eqb-true (bits 6 0 word) 0b1110111 e) (c.0, c.1, has-bits word c.0.fixed c.2) (λ r. n r.0 r.1 (bits-has word r.0.code.fixed r.2))
          (decodes true (Illegal LeftOut) e (look-up-none word (not_ours word) listing n ∙ ap (λ (b : Bool). Illegal (cond b LeftOut Unlisted)) (listed-one word others c.0 c.1 c.2)))
          (decoded-before true (Illegal Unlisted) e (before-none word (Illegal Unlisted) n))
      go true e (inr n) (inr m) =
          unlisted (eqb-true (bits 6 0 word) 0b1110111 e) (λ c. m c.0 c.1 (bits-has word c.0.fixed c.2)) (λ r. n r.0 r.1 (bits-has word r.0.code.fixed r.2))
          (decodes true (Illegal Unlisted) e (look-up-none word (not_ours word) listing n ∙ ap (λ (b : Bool). Illegal (cond b LeftOut Unlisted)) (listed-none word others m)))
          (decoded-before true (Illegal Unlisted) e (before-none word (Illegal Unlisted) n))

-- ---- an instruction of ours gets none of the four numbers

abbrev four : List ℕ
four = 1 ∷ 10 ∷ 11 ∷ 12 ∷ []

abbrev elsewhere : ℕ → Bool
elsewhere n = not (is_in n four)

abbrev all_elsewhere : List Check → Bool
all_elsewhere [] = true
all_elsewhere (c ∷ cs) = elsewhere (number (Err c.answer)) && all_elsewhere cs

verdict-elsewhere : (cs : List Check) → all_elsewhere cs ≡ true → elsewhere (number (verdict cs)) ≡ true
verdict-elsewhere [] h = refl
verdict-elsewhere (c ∷ cs) h = go c.holds (and_left (elsewhere (number (Err c.answer))) (all_elsewhere cs) h) (verdict-elsewhere cs (and_right (elsewhere (number (Err c.answer))) (all_elsewhere cs) h))
  where
    go : (t : Bool) → elsewhere (number (Err c.answer)) ≡ true → elsewhere (number (verdict cs)) ≡ true → elsewhere (number (cond t (verdict cs) (Err c.answer))) ≡ true
    go true h ih = ih
    go false h ih = h

abbrev is_ours : Instruction → Bool
is_ours (Illegal wrong) = false
is_ours (SetTypeImmediate rd immediate) = true
is_ours (SetType rd rs1) = true
is_ours (SetTileImmediate dimension rd immediate) = true
is_ours (SetTile dimension rd rs1) = true
is_ours (Load form matrix width md rs1 rs2) = true
is_ours (Store form matrix width ms3 rs1 rs2) = true
is_ours (Multiply factor md ms1 ms2) = true
is_ours (Combine sum factor md ms1) = true
is_ours (Scale factor md ms1 rs2) = true
is_ours (ScaleImmediate factor md ms1 immediate) = true
is_ours (FloatMultiply md ms1 ms2) = true
is_ours (MoveOut form vd ms1 rs2) = true
is_ours (MoveIn form md vs1 rs2) = true

module _ (W : Vectors) (M : Parameters) (isSealed : ℕ → Bool) (st : State) (xs mem : List ℕ) where
  abbrev Elsewhere : Operation → Type 0
  Elsewhere o = all_elsewhere (checks M isSealed o st mem) ≡ true

  either-elsewhere : (t : Bool) (o p : Operation) → Elsewhere o → Elsewhere p → Elsewhere (cond t o p)
  either-elsewhere true o p h g = h
  either-elsewhere false o p h g = g

  checks-elsewhere : (i : Instruction) → is_ours i ≡ true → group_fits W i ≡ true → Elsewhere (operation_in W M st xs i)
  checks-elsewhere (Illegal wrong) h g = absurd (false-true h)
  checks-elsewhere (SetTypeImmediate rd immediate) h g = refl
  checks-elsewhere (SetType rd rs1) h g = refl
  checks-elsewhere (SetTileImmediate dimension rd immediate) h g = refl
  checks-elsewhere (SetTile dimension rd rs1) h g = either-elsewhere (eqb rs1 0) _ _ (either-elsewhere (eqb rd 0) _ _ refl refl) refl
  checks-elsewhere (Load form matrix width md rs1 rs2) h g = refl
  checks-elsewhere (Store form matrix width ms3 rs1 rs2) h g = refl
  checks-elsewhere (Multiply factor md ms1 ms2) h g = refl
  checks-elsewhere (Combine sum factor md ms1) h g = refl
  checks-elsewhere (Scale factor md ms1 rs2) h g = refl
  checks-elsewhere (ScaleImmediate factor md ms1 immediate) h g = refl
  checks-elsewhere (FloatMultiply md ms1 ms2) h g = refl
  checks-elsewhere (MoveOut Plain vd ms1 rs2) h g = rw g
  checks-elsewhere (MoveOut Transposed vd ms1 rs2) h g = rw g
  checks-elsewhere (MoveIn form md vs1 rs2) h g = rw g

  -- a misaligned group is a register out of range
  misaligned : (i : Instruction) → group_fits W i ≡ false → operation_in W M st xs i ≡ Operation.illegal Register
  misaligned (Illegal wrong) g = absurd (false-true (sym g))
  misaligned (SetTypeImmediate rd immediate) g = absurd (false-true (sym g))
  misaligned (SetType rd rs1) g = absurd (false-true (sym g))
  misaligned (SetTileImmediate dimension rd immediate) g = absurd (false-true (sym g))
  misaligned (SetTile dimension rd rs1) g = absurd (false-true (sym g))
  misaligned (Load form matrix width md rs1 rs2) g = absurd (false-true (sym g))
  misaligned (Store form matrix width ms3 rs1 rs2) g = absurd (false-true (sym g))
  misaligned (Multiply factor md ms1 ms2) g = absurd (false-true (sym g))
  misaligned (Combine sum factor md ms1) g = absurd (false-true (sym g))
  misaligned (Scale factor md ms1 rs2) g = absurd (false-true (sym g))
  misaligned (ScaleImmediate factor md ms1 immediate) g = absurd (false-true (sym g))
  misaligned (FloatMultiply md ms1 ms2) g = absurd (false-true (sym g))
  misaligned (MoveOut form vd ms1 rs2) g = rw g
  misaligned (MoveIn form md vs1 rs2) g = rw g

module _ (W : Vectors) (M : Parameters) (xs : List ℕ) (B : Bench) where
  -- the number of an answer is that of the first check that fails
  number_is : (i : Instruction) → (outcome_in W M i xs B).answer.number ≡ number (verdict (checks_in W M i xs B))
  number_is i = go (is_done (verdict (checks_in W M i xs B))) refl
    where
      go : (t : Bool) → is_done (verdict (checks_in W M i xs B)) ≡ t
          → (cond t (Step.carried_in W M i xs B) (Step.refused_in W M i xs B (verdict (checks_in W M i xs B)))).answer.number ≡ number (verdict (checks_in W M i xs B))
      go true e = sym (eqb-true (number (verdict (checks_in W M i xs B))) 0 e)
      go false e = refl

  ours-elsewhere : (i : Instruction) → is_ours i ≡ true → group_fits W i ≡ true → elsewhere (outcome_in W M i xs B).answer.number ≡ true
  ours-elsewhere i h g =
      subst (λ (n : ℕ). elsewhere n ≡ true) (sym (number_is i)) (verdict-elsewhere (checks_in W M i xs B) (checks-elsewhere W M (sealed B.seals) (Step.given_in W M i xs B) xs B.memory i h g))

  -- ---- a word that is refused for what it is

  abbrev refusal : Answer → Outcome
  refusal a = record { answer = reply a; bench = B; scalars = xs }

  abbrev told : Bool → Bool → Wrong → Answer
  told s t w = cond s (cond t (Err (word_answer w)) (Err BadArguments)) (Err BadArguments)

  illegal-told : (w : Wrong) → outcome_in W M (Illegal w) xs B ≡ refusal (told (sound_bench B) (thirty_two xs) w)
  illegal-told w = go (sound_bench B) (thirty_two xs) w
    where
      go : (s t : Bool) (w : Wrong) → cond (is_done (told s t w)) (Step.carried_in W M (Illegal w) xs B) (refusal (told s t w)) ≡ refusal (told s t w)
      go false t w = refl
      go true false w = refl
      go true true Opcode = refl
      go true true LeftOut = refl
      go true true Unlisted = refl
      go true true Register = refl

  illegal-file : (w : Wrong) → vectors_in W M (Illegal w) xs B ≡ W.file
  illegal-file w = go (is_done (verdict (checks_in W M (Illegal w) xs B)))
    where
      go : (t : Bool) → cond t W.file W.file ≡ W.file
      go true = refl
      go false = refl

  misaligned-told : (i : Instruction) → group_fits W i ≡ false → (outcome_in W M i xs B).answer.number ≡ number (told (sound_bench B) (thirty_two xs) Register)
  misaligned-told i g =
      number_is i
      ∙ ap (λ (o : Operation). number (verdict ((sound_bench B otherwise BadArguments) ∷ (thirty_two xs otherwise BadArguments) ∷ checks M (sealed B.seals) o (Step.given_in W M i xs B) B.memory)))
      (misaligned W M (sealed B.seals) (Step.given_in W M i xs B) xs B.memory i g)

-- our rows mean instructions of ours
all_ours : ℕ → List Row → Bool
all_ours word [] = true
all_ours word (r ∷ rs) = is_ours (r.means word) && all_ours word rs

listing-ours : (word : ℕ) → all_ours word listing ≡ true
unfolding all_ours listing
listing-ours word = refl

row-ours : (word : ℕ) (rs : List Row) → all_ours word rs ≡ true → (r : Row) → List-as-Memᴰ r rs → is_ours (r.means word) ≡ true
unfolding all_ours
row-ours word [] h r m = absurd (List·Memᴰ·not-nil m)
row-ours word (s ∷ rs) h r m =
    elim (List·Memᴰ·cases-cons m) [
      | inl e ↦ subst (λ (x : Row). is_ours (x.means word) ≡ true) (sym e) (and_left (is_ours (s.means word)) (all_ours word rs) h)
      | inr n ↦ row-ours word rs (and_right (is_ours (s.means word)) (all_ours word rs) h) r n
    ]

-- and but for the moves, which were added, they name no group
all_grouped : Vectors → ℕ → List Row → Bool
all_grouped W word [] = true
all_grouped W word (r ∷ rs) = (is_added r || group_fits W (r.means word)) && all_grouped W word rs

listing-grouped : (W : Vectors) (word : ℕ) → all_grouped W word listing ≡ true
unfolding all_grouped listing
listing-grouped W word = refl

row-grouped : (W : Vectors) (word : ℕ) (rs : List Row) → all_grouped W word rs ≡ true → (r : Row) → List-as-Memᴰ r rs → is_added r ≡ false → group_fits W (r.means word) ≡ true
unfolding all_grouped
row-grouped W word [] h r m e = absurd (List·Memᴰ·not-nil m)
row-grouped W word (s ∷ rs) h r m e =
    elim (List·Memᴰ·cases-cons m) [
      | inl x ↦ or-not (is_added r) (group_fits W (r.means word)) (subst (λ (x : Row). is_added x || group_fits W (x.means word) ≡ true) (sym x) (and_left (is_added s || group_fits W (s.means word)) (all_grouped W word rs) h)) e
      | inr n ↦ row-grouped W word rs (and_right (is_added s || group_fits W (s.means word)) (all_grouped W word rs) h) r n e
    ]

-- ---- nothing else moved

number-kept : (n : ℕ) → not (is_in n four) ≡ true → number_before n ≡ n
number-kept n h = go (eqb n 1) (is_in n (10 ∷ 11 ∷ 12 ∷ [])) h
  where
    go : (a b : Bool) → not (a || b) ≡ true → cond b 1 n ≡ n
    go true b h = absurd (false-true h)
    go false true h = absurd (false-true h)
    go false false h = refl

module _ (W : Vectors) (M : Parameters) (xs : List ℕ) (B : Bench) where
  abbrev Moved : Instruction → Instruction → Type 0
  Moved i j = OnlyNumberMoved (stepped_in W M i xs B) (stepped_in W M j xs B)

  alike : (a b : Answer) → number_before (number a) ≡ number b → (reply a).row ≡ (reply b).row → (reply a).column ≡ (reply b).column
      → OnlyNumberMoved (beside W.file (refusal W M xs B a)) (beside W.file (refusal W M xs B b))
  alike a b n r c = record { same_number = n; same_row = r; same-column = c; same-bench = refl; same-scalars = refl; same-vectors = refl }

  -- where the vector file is bad, every word gets 8
  lifted : (i j : Instruction) → OnlyNumberMoved (beside (vectors_in W M i xs B) (outcome_in W M i xs B)) (beside (vectors_in W M j xs B) (outcome_in W M j xs B)) → Moved i j
  lifted i j h = go (vectors_fit W)
    where
      go : (t : Bool) → OnlyNumberMoved (cond t (beside (vectors_in W M i xs B) (outcome_in W M i xs B)) (beside W.file (refusal W M xs B (Err BadArguments))))
          (cond t (beside (vectors_in W M j xs B) (outcome_in W M j xs B)) (beside W.file (refusal W M xs B (Err BadArguments))))
      go true = h
      go false = alike (Err BadArguments) (Err BadArguments) refl refl refl

  illegal-is : (w : Wrong) → beside (vectors_in W M (Illegal w) xs B) (outcome_in W M (Illegal w) xs B) ≡ beside W.file (refusal W M xs B (told W M xs B (sound_bench B) (thirty_two xs) w))
  illegal-is w = ap₂ beside (illegal-file W M xs B w) (illegal-told W M xs B w)

  illegal-moved : (w : Wrong) → Moved (Illegal w) (Illegal Unlisted)
  illegal-moved w =
      lifted (Illegal w) (Illegal Unlisted)
      (subst (λ (o : VectorOutcome). OnlyNumberMoved o (beside (vectors_in W M (Illegal Unlisted) xs B) (outcome_in W M (Illegal Unlisted) xs B))) (sym (illegal-is w))
      (subst (λ (o : VectorOutcome). OnlyNumberMoved (beside W.file (refusal W M xs B (told W M xs B (sound_bench B) (thirty_two xs) w))) o) (sym (illegal-is Unlisted))
      (go (sound_bench B) (thirty_two xs) w)))
    where
      go : (s t : Bool) (w : Wrong) → OnlyNumberMoved (beside W.file (refusal W M xs B (told W M xs B s t w))) (beside W.file (refusal W M xs B (told W M xs B s t Unlisted)))
      go false t w = alike (Err BadArguments) (Err BadArguments) refl refl refl
      go true false w = alike (Err BadArguments) (Err BadArguments) refl refl refl
      go true true Opcode = alike (Err WrongOpcode) (Err IllegalWord) refl refl refl
      go true true LeftOut = alike (Err LeftOutWord) (Err IllegalWord) refl refl refl
      go true true Unlisted = alike (Err IllegalWord) (Err IllegalWord) refl refl refl
      go true true Register = alike (Err WrongRegister) (Err IllegalWord) refl refl refl

  ours-moved : (i : Instruction) → is_ours i ≡ true → group_fits W i ≡ true → Moved i i
  ours-moved i h g =
      lifted i i (record { same_number = number-kept (outcome_in W M i xs B).answer.number (ours-elsewhere W M xs B i h g); same_row = refl; same-column = refl; same-bench = refl; same-scalars = refl; same-vectors = refl })

  ranged-moved : (i : Instruction) (t : Bool) → is_ours i ≡ true → group_fits W i ≡ true → Moved (cond t i (Illegal Register)) (cond t i (Illegal Unlisted))
  ranged-moved i true h g = ours-moved i h g
  ranged-moved i false h g = illegal-moved Register

  moved_by : (word : ℕ) (i j : Instruction) → decode word ≡ i → decode_before word ≡ j → Moved i j → Moved (decode word) (decode_before word)
  moved_by word i j d b m = subst (λ (x : Instruction). Moved x (decode_before word)) (sym d) (subst (λ (x : Instruction). Moved i x) (sym b) m)

  word_moved : (word : ℕ) → ¬ IsAdded word → Kind word → Moved (decode word) (decode_before word)
  word_moved word a (wrong-opcode o d b) = moved_by word (Illegal Opcode) (Illegal Unlisted) d b (illegal-moved Opcode)
  word_moved word a (left_out o c n d b) = moved_by word (Illegal LeftOut) (Illegal Unlisted) d b (illegal-moved LeftOut)
  word_moved word a (unlisted o c n d b) = moved_by word (Illegal Unlisted) (Illegal Unlisted) d b (illegal-moved Unlisted)
  word_moved word a (ours o r m h d b) = go (is_added r) refl
    where
      same : is_added r ≡ false → Moved (ranged (r.means word)) (cond (in_range (r.means word)) (r.means word) (Illegal Unlisted))
      same e = ranged-moved (r.means word) (in_range (r.means word)) (row-ours word listing (listing-ours word) r m) (row-grouped W word listing (listing-grouped W word) r m e)

      stays : is_added r ≡ false → before r word ≡ cond (in_range (r.means word)) (r.means word) (Illegal Unlisted)
      stays e = ap (λ (t : Bool). let i : Instruction = cond t (Illegal Unlisted) (r.means word) in cond (in_range i) i (Illegal Unlisted)) e

      go : (t : Bool) → is_added r ≡ t → Moved (decode word) (decode_before word)
      go true e = absurd (a (o, (r, m, h, e)))
      go false e = moved_by word (ranged (r.means word)) (cond (in_range (r.means word)) (r.means word) (Illegal Unlisted)) d (b ∙ stays e) (same e)

  added-one : (word : ℕ) → Faultless xs W B → Kind word → IsAdded word → (stepped_in W M (decode_before word) xs B).answer.number ≡ 1
  added-one word f k a =
      ap (λ (i : Instruction). (stepped_in W M i xs B).answer.number) (unlisted-before k)
      ∙ ap (λ (t : Bool). (cond t (beside (vectors_in W M (Illegal Unlisted) xs B) (outcome_in W M (Illegal Unlisted) xs B)) (beside W.file (refusal W M xs B (Err BadArguments)))).answer.number) f.2
      ∙ ap (λ (o : Outcome). o.answer.number) (illegal-told W M xs B Unlisted) ∙ rw (f.0, f.1)
    where
      unlisted-before : Kind word → decode_before word ≡ Illegal Unlisted
      unlisted-before (wrong-opcode o d b) = b
      unlisted-before (left_out o c n d b) = b
      unlisted-before (unlisted o c n d b) = b
      unlisted-before (ours o r m h d b) =
          let found = before-one word (Illegal Unlisted) listing one-row-each a.1.0 a.1.1 (bits-has word a.1.0.code.fixed a.1.2) in
          decoded-before word true (Illegal Unlisted) (eq-eqb (bits 6 0 word) 0b1110111 a.0)
          (found ∙ ap (λ (t : Bool). cond t (Illegal Unlisted) (a.1.0.means word)) a.1.3)

pub nothing-else-moved : NothingElseMoved
unfolding step_with
nothing-else-moved grant word xs W B a = word_moved W (parameters grant B.machine) xs B word a (kind word)

pub added-got-one : AddedGotOne
added-got-one grant word xs W B f a = added-one W (parameters grant B.machine) xs B word f (kind word) a

-- ---- which words get which number

holds : {X Y : Type 0} → X → Y → X ↔ Y
holds x y = (λ _. y, λ _. x)

fails : {X Y : Type 0} → ¬ X → ¬ Y → X ↔ Y
fails f g = (λ x. absurd (f x), λ y. absurd (g y))

not-four : (n k : ℕ) → not (is_in n four) ≡ true → is_in k four ≡ true → ¬ (n ≡ k)
not-four n k h i e = false-true (sym (ap not (subst (λ (x : ℕ). is_in x four ≡ true) (sym e) i)) ∙ h)

module _ (word : ℕ) (xs : List ℕ) (W : Vectors) (B : Bench) where
  abbrev Refused : ℕ → Type 0
  Refused n = RefusedAs n word xs W B

  at-fault : (n : ℕ) → not (is_in n four) ≡ true → ¬ Faultless xs W B → Refused n
  at-fault n h f = record {
    ten = fails (not-four n 10 h refl) (λ y. f y.0);
    eleven = fails (not-four n 11 h refl) (λ y. f y.0);
    one = fails (not-four n 1 h refl) (λ y. f y.0);
    twelve = fails (not-four n 12 h refl) (λ y. f y.0);
  }

  in-range : (n : ℕ) → not (is_in n four) ≡ true → RightOpcode word → IsOurs word → ¬ OutOfRange W word → Refused n
  in-range n h o r i = record {
    ten = fails (not-four n 10 h refl) (λ y. y.1 o);
    eleven = fails (not-four n 11 h refl) (λ y. y.3 r);
    one = fails (not-four n 1 h refl) (λ y. y.3 r);
    twelve = fails (not-four n 12 h refl) (λ y. i y.2);
  }

  module _ (f : Faultless xs W B) where
    as-ten : ¬ RightOpcode word → Refused 10
    as-ten o = record { ten = holds refl (f, o); eleven = fails (λ e. omega arith) (λ y. o y.1); one = fails (λ e. omega arith) (λ y. o y.1); twelve = fails (λ e. omega arith) (λ y. o y.1) }

    as-eleven : RightOpcode word → IsOther word → ¬ IsOurs word → Refused 11
    as-eleven o c n = record {
      ten = fails (λ e. omega arith) (λ y. y.1 o);
      eleven = holds refl (f, o, c, n);
      one = fails (λ e. omega arith) (λ y. y.2 c);
      twelve = fails (λ e. omega arith) (λ y. n (y.2.0, y.2.1, y.2.2));
    }

    as_one : RightOpcode word → ¬ IsOther word → ¬ IsOurs word → Refused 1
    as_one o c n = record {
      ten = fails (λ e. omega arith) (λ y. y.1 o);
      eleven = fails (λ e. omega arith) (λ y. c y.2);
      one = holds refl (f, o, c, n);
      twelve = fails (λ e. omega arith) (λ y. n (y.2.0, y.2.1, y.2.2));
    }

    as-twelve : RightOpcode word → IsOurs word → OutOfRange W word → Refused 12
    as-twelve o r i = record {
      ten = fails (λ e. omega arith) (λ y. y.1 o);
      eleven = fails (λ e. omega arith) (λ y. y.3 r);
      one = fails (λ e. omega arith) (λ y. y.3 r);
      twelve = holds refl (f, o, i);
    }

  module _ (M : Parameters) (fit : vectors_fit W ≡ true) where
    abbrev Answered : Instruction → Type 0
    Answered i = Refused (outcome_in W M i xs B).answer.number

    told-answered : (w : Wrong) → (Faultless xs W B → Refused (number (Err (word_answer w)))) → Refused (number (told W M xs B (sound_bench B) (thirty_two xs) w))
    told-answered w k = go (sound_bench B) refl (thirty_two xs) refl
      where
        go : (s : Bool) → sound_bench B ≡ s → (t : Bool) → thirty_two xs ≡ t → Refused (number (told W M xs B s t w))
        go false s t e = at-fault 8 refl (λ f. false-true (sym s ∙ f.0))
        go true s false e = at-fault 8 refl (λ f. false-true (sym e ∙ f.1))
        go true s true e = k (s, e, fit)

    illegal-answered : (w : Wrong) → (Faultless xs W B → Refused (number (Err (word_answer w)))) → Answered (Illegal w)
    illegal-answered w k = subst (λ (o : Outcome). Refused o.answer.number) (sym (illegal-told W M xs B w)) (told-answered w k)

    found : (r : Row) → List-as-Memᴰ r listing → EveryBit word r.code → look_up word (not_ours word) listing ≡ r.means word
    found r m h = look-up-one word (not_ours word) listing one-row-each r m (bits-has word r.code.fixed h)

    ours-answered : RightOpcode word → (r : Row) → List-as-Memᴰ r listing → EveryBit word r.code → (t : Bool) → in_range (r.means word) ≡ t
        → Answered (cond t (r.means word) (Illegal Register))
    ours-answered o r m h false e = illegal-answered Register (λ f. as-twelve f o (r, m, h) (r, m, h, ap (λ (t : Bool). t && group_fits W (r.means word)) e))
    ours-answered o r m h true e = go (group_fits W (r.means word)) refl
      where
        go : (u : Bool) → group_fits W (r.means word) ≡ u → Answered (r.means word)
        go false g =
            subst Refused (sym (misaligned-told W M xs B (r.means word) g))
            (told-answered Register (λ f. as-twelve f o (r, m, h) (r, m, h, ap₂ ◌&&◌ e g)))
        go true g =
            in-range (outcome_in W M (r.means word) xs B).answer.number (ours-elsewhere W M xs B (r.means word) (row-ours word listing (listing-ours word) r m) g) o (r, m, h)
            (λ y. false-true (sym y.3 ∙ ap (λ (i : Instruction). in_range i && group_fits W i) (sym (found y.0 y.1 y.2) ∙ found r m h) ∙ ap₂ ◌&&◌ e g))

    word-answered : Kind word → Answered (decode word)
    word-answered (wrong-opcode o d b) = subst Answered (sym d) (illegal-answered Opcode (λ f. as-ten f o))
    word-answered (left_out o c n d b) = subst Answered (sym d) (illegal-answered LeftOut (λ f. as-eleven f o c n))
    word-answered (unlisted o c n d b) = subst Answered (sym d) (illegal-answered Unlisted (λ f. as_one f o c n))
    word-answered (ours o r m h d b) = subst Answered (sym d) (ours-answered o r m h (in_range (r.means word)) refl)

pub word-refusals : WordRefusals
unfolding step_with
word-refusals grant word xs W B = go (vectors_fit W) refl
  where
    M : Parameters
    M = parameters grant B.machine

    go : (t : Bool) → vectors_fit W ≡ t
        → RefusedAs (cond t (beside (vectors_in W M (decode word) xs B) (outcome_in W M (decode word) xs B)) (beside W.file (Step.refused_in W M (decode word) xs B (Err BadArguments)))).answer.number word xs W B
    go true e = word-answered word xs W B M e (kind word)
    go false e = at-fault word xs W B 8 refl (λ f. false-true (sym e ∙ f.2))
