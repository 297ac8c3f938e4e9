-- The words handed out one at a time are the words of the nested loops, in their order and number.
use Rattle.numbers.proofs.Kit.{◌≡◌, refl, sym, ap, ◌∙◌, Bool, true, false, cond, List, [], ◌∷◌, ◌++◌, append_assoc, Option, none, some, ℕ, zero, suc, ◌+◌}
use Rattle.numbers.proofs.Kit.{◌*◌, ◌-◌, ◌<◌, zero-mul, arith, add-one, ltb, length, length-append, drop, drop-drop, ltb-true, ltb-false}
use Rattle.numbers.specs.Blocks.{Grants, count, chunks}
use Rattle.numbers.proofs.BlockLaws.{chunks-end, chunks-next, length-chunks}
use Rattle.run.specs.declared.Place.{Place}
use Rattle.run.specs.declared.Place.TheVariants.{AtType, AtM, AtN, AtClear, AtK, AtA, AtB, AtMultiply, AtStore, AtEnd}
use Rattle.run.specs.Words.{Op, set_type, set_m, set_k, set_n, clear, load_a, load_b, multiply, store, Shape, size_m, size_n, size_k, flat, block_k, from_k, block_n, from_n, block_m, from_m, words, steps}
use Rattle.run.specs.Places.{head_m, head_n, head_k, next, word_at}

-- the words after the block
abbrev pub after_m : Shape → ℕ → List Op
after_m S i = from_m S (i + size_m S i)

abbrev pub after_n : Shape → ℕ → ℕ → List Op
after_n S i j = from_n S i (j + size_n S j) ++ after_m S i

abbrev pub after_k : Shape → ℕ → ℕ → ℕ → List Op
after_k S i j s = from_k S i j (s + size_k S s) ++ store i j ∷ after_n S i j

-- the words still to come
abbrev pub rest : Shape → Place → List Op
rest S AtType = words S
rest S (AtM i) = set_m (S.m - i) ∷ from_n S i 0 ++ after_m S i
rest S (AtN i j) = set_n (S.n - j) ∷ clear ∷ from_k S i j 0 ++ store i j ∷ after_n S i j
rest S (AtClear i j) = clear ∷ from_k S i j 0 ++ store i j ∷ after_n S i j
rest S (AtK i j s) = set_k (S.k - s) ∷ load_a i s ∷ load_b s j ∷ multiply ∷ after_k S i j s
rest S (AtA i j s) = load_a i s ∷ load_b s j ∷ multiply ∷ after_k S i j s
rest S (AtB i j s) = load_b s j ∷ multiply ∷ after_k S i j s
rest S (AtMultiply i j s) = multiply ∷ after_k S i j s
rest S (AtStore i j) = store i j ∷ after_n S i j
rest S AtEnd = []

-- a word, if there is one, before others
abbrev pub before : Option Op → List Op → List Op
before none os = os
before (some o) os = o ∷ os

-- the maxima are at least 1, and the rule keeps the draft's constraints
pub record Sound (S : Shape) : Type 0 where
  pub grants : Grants S.grant
  pub 0<tm : zero < S.tm
  pub 0<tk : zero < S.tk
  pub 0<tn : zero < S.tn

module _ (S : Shape) (G : Sound S) where
  rest-head_m : (i : ℕ) → rest S (head_m S i) ≡ from_m S i
  rest-head_m i = go (ltb i S.m) refl
    where
      go : (t : Bool) → ltb i S.m ≡ t → rest S (cond t (AtM i) AtEnd) ≡ from_m S i
      go true e = rw (chunks-next S.grant G.grants S.tm G.0<tm S.m i (ltb-true i S.m e))
      go false e = rw (chunks-end S.grant G.grants S.tm G.0<tm S.m i (ltb-false i S.m e))

  rest-head_n : (i j : ℕ) → rest S (head_n S i j) ≡ from_n S i j ++ after_m S i
  rest-head_n i j = go (ltb j S.n) refl
    where
      go : (t : Bool) → ltb j S.n ≡ t → rest S (cond t (AtN i j) (head_m S (i + size_m S i))) ≡ from_n S i j ++ after_m S i
      go true e = rw (chunks-next S.grant G.grants S.tn G.0<tn S.n j (ltb-true j S.n e)) (simp append_assoc)
      go false e = rw (chunks-end S.grant G.grants S.tn G.0<tn S.n j (ltb-false j S.n e)) (rest-head_m (i + size_m S i))

  rest-head_k : (i j s : ℕ) → rest S (head_k S i j s) ≡ from_k S i j s ++ store i j ∷ after_n S i j
  rest-head_k i j s = go (ltb s S.k) refl
    where
      go : (t : Bool) → ltb s S.k ≡ t → rest S (cond t (AtK i j s) (AtStore i j)) ≡ from_k S i j s ++ store i j ∷ after_n S i j
      go true e = rw (chunks-next S.grant G.grants S.tk G.0<tk S.k s (ltb-true s S.k e))
      go false e = rw (chunks-end S.grant G.grants S.tk G.0<tk S.k s (ltb-false s S.k e))

  -- a turn hands out the first of the words still to come
  pub rest-next : (p : Place) → rest S p ≡ before (word_at S p) (rest S (next S p))
  rest-next AtType = ap (λ (l : List Op). set_type ∷ l) (sym (rest-head_m 0))
  rest-next (AtM i) = ap (λ (l : List Op). set_m (S.m - i) ∷ l) (sym (rest-head_n i 0))
  rest-next (AtN i j) = refl
  rest-next (AtClear i j) = ap (λ (l : List Op). clear ∷ l) (sym (rest-head_k i j 0))
  rest-next (AtK i j s) = refl
  rest-next (AtA i j s) = refl
  rest-next (AtB i j s) = refl
  rest-next (AtMultiply i j s) = ap (λ (l : List Op). multiply ∷ l) (sym (rest-head_k i j (s + size_k S s)))
  rest-next (AtStore i j) = ap (λ (l : List Op). store i j ∷ l) (sym (rest-head_n i (j + size_n S j)))
  rest-next AtEnd = refl

-- the place after t turns
abbrev pub place_after : Shape → ℕ → Place
place_after S zero = AtType
place_after S (suc t) = next S (place_after S t)

module _ (S : Shape) (G : Sound S) where
  one_less : (p : Place) → drop 1 (before (word_at S p) (rest S (next S p))) ≡ rest S (next S p)
  one_less AtType = refl
  one_less (AtM i) = refl
  one_less (AtN i j) = refl
  one_less (AtClear i j) = refl
  one_less (AtK i j s) = refl
  one_less (AtA i j s) = refl
  one_less (AtB i j s) = refl
  one_less (AtMultiply i j s) = refl
  one_less (AtStore i j) = refl
  one_less AtEnd = refl

  -- after t turns the words still to come are all but the first t
  pub rest-after : (t : ℕ) → rest S (place_after S t) ≡ drop t (words S)
  rest-after zero = refl
  rest-after (suc t) =
      sym (one_less (place_after S t))
      ∙ ap (λ (l : List Op). drop 1 l) (sym (rest-next S G (place_after S t)) ∙ rest-after t)
      ∙ drop-drop 1 t (words S) ∙ ap (λ (c : ℕ). drop c (words S)) (add-one t)

-- ---- how many words

pub length-flat : (f : ℕ → List Op) (c : ℕ) (ss : List ℕ) → ((s : ℕ) → length (f s) ≡ c) → length (flat f ss) ≡ length ss * c
length-flat f c [] h = sym (zero-mul c)
length-flat f c (s ∷ ss) h = length-append (f s) (flat f ss) ∙ omega (arith, h s, length-flat f c ss h)

pub length-words : (S : Shape) → Sound S → length (words S) ≡ steps S
length-words S G = omega (arith, length-flat (block_m S) (1 + N * (3 + 4 * K)) (chunks S.grant S.tm S.m 0) per-m, ap (λ (c : ℕ). c * (1 + N * (3 + 4 * K))) (length-chunks S.grant G.grants S.tm G.0<tm S.m))
  where
    K : ℕ
    K = count S.tk S.k

    N : ℕ
    N = count S.tn S.n

    per-k : (i j : ℕ) → length (from_k S i j 0) ≡ K * 4
    per-k i j = length-flat (block_k S i j) 4 (chunks S.grant S.tk S.k 0) (λ s. refl) ∙ ap (λ (c : ℕ). c * 4) (length-chunks S.grant G.grants S.tk G.0<tk S.k)

    per-n : (i j : ℕ) → length (block_n S i j) ≡ 3 + 4 * K
    per-n i j = omega (arith, length-append (from_k S i j 0) (store i j ∷ []), per-k i j)

    per-m : (i : ℕ) → length (block_m S i) ≡ 1 + N * (3 + 4 * K)
    per-m i = omega (arith, length-flat (block_n S i) (3 + 4 * K) (chunks S.grant S.tn S.n 0) (per-n i), ap (λ (c : ℕ). c * (3 + 4 * K)) (length-chunks S.grant G.grants S.tn G.0<tn S.n))
