-- Laws of the blocks: what is read back of what was written, and that a block written over with its own numbers stays.
use Rattle.numbers.proofs.Kit.{◌≡◌, refl, sym, ap, ap₂, ◌∙◌, ◌⊎◌, inl, inr, Bool, true, false, cond, List, [], ◌∷◌, ℕ, zero, suc, ◌+◌, ◌-◌, ◌*◌, ◌/◌, ◌%◌}
use Rattle.numbers.proofs.Kit.{◌^◌, ◌≤◌, ◌<◌, div-add-mod', zero-add, mod-eq_of_lt, eq-or-lt_of_le, le_of_suc-le-suc, not-suc-le-zero, arith, length, get_or}
use Rattle.numbers.proofs.Kit.{length-append, List·getD-append, List·getD-eq-default, get_or_at, Err}
use Rattle.numbers.specs.Blocks.{Choice}
use Rattle.numbers.specs.Upto.{upto}
use Rattle.numbers.specs.Tile.{get_le, put_le, put_row, In}
use Rattle.numbers.proofs.UptoLaws.{upto-cong}
use Rattle.numbers.proofs.PutLaws.{upto_add}
use Rattle.numbers.proofs.TileLaws.{le-cong, length-put_row, put_row-out}
use Rattle.numbers.proofs.WordLaws.{le-put_row, put_row-same}
use Rattle.machine.specs.declared.Machine.{Machine}
use Rattle.machine.specs.declared.Reply.{Reply}
use Rattle.machine.specs.declared.Refusal.TheVariants.{BadArguments}
use Rattle.machine.specs.Answers.{reply, done, verdict, is_done, Done}
use Rattle.machine.specs.Geometry.{Range, range, Parameters, parameters, Bench}
use Rattle.machine.specs.Starting.{ranges}
use Rattle.machine.proofs.StartLaws.{ranges-count}
use Rattle.machine.specs.Listing.{decode}
use Rattle.machine.specs.Vectors.{Vectors, vectors_fit, idle}
use Rattle.machine.specs.Step.{checks_in, carried_in, refused_in, outcome_in, vectors_in, beside, step_with, outcome, step_by}
use Rattle.unit_ranges.specs.Ranges.{seals_in, put_range, put_seals}
use Rattle.unit_ranges.proofs.RangeLaws.{seals-same}
use Rattle.unit_ranges.proofs.PutLaws.{put_seals-out}
use Rattle.c_blocks.specs.Blocks.{Bytes, machine_bytes, machine_of, put_machine, SameMachine, first_values, values_of, put_values, packed}

-- ---- values of eight bytes, one after another

length-first_values : (n : ℕ) (b : List ℕ) → length (first_values n b) ≡ n
length-first_values zero b = refl
length-first_values (suc n) b = length-append (first_values n b) (get_le b (n * 8) 8 ∷ []) ∙ omega (arith, length-first_values n b)

pub value-at : (n : ℕ) (b : List ℕ) (s : ℕ) → s < n → get_or (first_values n b) s 0 ≡ get_le b (s * 8) 8
value-at zero b s l = absurd (omega arith)
value-at (suc n) b s l = elim (eq-or-lt_of_le (le_of_suc-le-suc l)) [
  | inl e ↦
      get_or_at (first_values n b) (get_le b (n * 8) 8) [] 0 s (length-first_values n b ∙ sym e) ∙ ap (λ (k : ℕ). get_le b (k * 8) 8) (sym e)
  | inr k ↦
      List·getD-append (first_values n b) (get_le b (n * 8) 8 ∷ []) 0 s (rw (length-first_values n b) k) ∙ value-at n b s k
]

-- written over the bytes they were read of
pub put_same : (n : ℕ) (b : List ℕ) → Bytes b → put_row 0 n 8 (λ s. get_or (first_values n b) s 0) b ≡ b
put_same n b small =
    put_row-same b small 0 n 8 (λ s. get_or (first_values n b) s 0) (λ s l. value-at n b s l ∙ ap (λ (p : ℕ). get_le b p 8) (sym (zero-add (s * 8))))

-- ---- values in the middle of others

module _ (f : ℕ → ℕ) (xs : List ℕ) where
  first_then : (a b : ℕ) → put_row 0 (a + b) 8 f xs ≡ put_row (a * 8) b 8 (λ j. f (a + j)) (put_row 0 a 8 f xs)
  unfolding put_row
  first_then a b =
      upto_add a b (λ j ys. put_le (0 + j * 8) 8 (f j) ys) xs
      ∙ upto-cong b (λ j ys. put_le (0 + (a + j) * 8) 8 (f (a + j)) ys) (λ j ys. put_le (a * 8 + j * 8) 8 (f (a + j)) ys) (put_row 0 a 8 f xs)
      (λ j l ys. ap (λ (p : ℕ). put_le p 8 (f (a + j)) ys) (omega arith))

  -- a values before them and c behind them stand in the block already
  pub put-middle : (ys : List ℕ) (a b c : ℕ) → Bytes xs → Bytes ys → ys ≡ put_row (a * 8) b 8 (λ j. f (a + j)) xs
      → ((j : ℕ) → j < a → f j ≡ get_le xs (j * 8) 8) → ((j : ℕ) → j < c → f (a + b + j) ≡ get_le xs ((a + b + j) * 8) 8) → ys ≡ put_row 0 (a + b + c) 8 f xs
  put-middle ys a b c small small' e before behind =
      sym (first_then (a + b) c
      ∙ ap (put_row ((a + b) * 8) c 8 (λ j. f (a + b + j))) first
      ∙ put_row-same ys small' ((a + b) * 8) c 8 (λ j. f (a + b + j)) (λ j l. behind j l ∙ sym (kept j)))
    where
      first : put_row 0 (a + b) 8 f xs ≡ ys
      first =
          first_then a b
          ∙ ap (put_row (a * 8) b 8 (λ j. f (a + j))) (put_row-same xs small 0 a 8 f (λ j l. before j l ∙ ap (λ (p : ℕ). get_le xs p 8) (sym (zero-add (j * 8)))))
          ∙ sym e

      kept : (j : ℕ) → get_le ys ((a + b) * 8 + j * 8) 8 ≡ get_le xs ((a + b + j) * 8) 8
      kept j =
          ap (λ (l : List ℕ). get_le l ((a + b) * 8 + j * 8) 8) e
          ∙ le-cong (put_row (a * 8) b 8 (λ j. f (a + j)) xs) xs ((a + b) * 8 + j * 8) ((a + b + j) * 8) 8
          (λ i l. put_row-out (a * 8) b 8 (λ j. f (a + j)) xs ((a + b) * 8 + j * 8 + i) (λ h. omega (arith, h.1)) ∙ ap (λ (p : ℕ). get_or xs p 0) (omega arith))

-- ---- the machine's block

-- the numbers before the first range, and those behind it
abbrev front_of : Machine → List ℕ
front_of m = m.rlen ∷ m.mlen ∷ m.mtype ∷ m.tile_m ∷ m.tile_k ∷ m.tile_n ∷ []

abbrev back_of : Machine → List ℕ
back_of m = m.rule ∷ m.elen ∷ []

abbrev front : Machine → List ℕ → List ℕ
front m b = put_row 0 6 8 (λ j. get_or (front_of m) j 0) b

put_machine-rows : (m : Machine) (b : List ℕ) → put_machine m b ≡ put_row 64 2 8 (λ j. get_or (back_of m) j 0) (front m b)
unfolding put_machine put_row
put_machine-rows m b = refl

-- a byte that is none of these numbers'
pub put_machine-out : (m : Machine) (b : List ℕ) (q : ℕ) → ¬ In 0 48 q → ¬ In 64 16 q → get_or (put_machine m b) q 0 ≡ get_or b q 0
put_machine-out m b q h g =
    ap (λ (x : List ℕ). get_or x q 0) (put_machine-rows m b)
    ∙ put_row-out 64 2 8 (λ j. get_or (back_of m) j 0) (front m b) q g ∙ put_row-out 0 6 8 (λ j. get_or (front_of m) j 0) b q h

pub length-put_machine : (m : Machine) (b : List ℕ) → length (put_machine m b) ≡ length b
length-put_machine m b =
    ap length (put_machine-rows m b) ∙ length-put_row 64 2 8 (λ j. get_or (back_of m) j 0) (front m b) ∙ length-put_row 0 6 8 (λ j. get_or (front_of m) j 0) b

-- and so the ranges stay
pub put_machine-seals : (m : Machine) (b : List ℕ) → seals_in (put_machine m b) ≡ seals_in b
put_machine-seals m b = seals-same (put_machine m b) b (length-put_machine m b) (λ q l g. put_machine-out m b q (λ h. omega (arith, h.1)) g)

-- numbers of 64 bits
pub record Words (m : Machine) : Type 0 where
  pub rlen : m.rlen < 2 ^ 64
  pub mlen : m.mlen < 2 ^ 64
  pub mtype : m.mtype < 2 ^ 64
  pub tile-m : m.tile_m < 2 ^ 64
  pub tile-k : m.tile_k < 2 ^ 64
  pub tile-n : m.tile_n < 2 ^ 64
  pub rule : m.rule < 2 ^ 64
  pub elen : m.elen < 2 ^ 64

-- the machine that was written is read back
pub machine_of-put_machine : (m : Machine) (b : List ℕ) → Words m → length b ≡ machine_bytes → machine_of (put_machine m b) ≡ m
unfolding machine_of
machine_of-put_machine m b w h =
    rw (
      at 0 m.rlen (omega arith) refl w.rlen,
      at 1 m.mlen (omega arith) refl w.mlen,
      at 2 m.mtype (omega arith) refl w.mtype,
      at 3 m.tile_m (omega arith) refl w.tile-m,
      at 4 m.tile_k (omega arith) refl w.tile-k,
      at 5 m.tile_n (omega arith) refl w.tile-n,
      behind 0 m.rule (omega arith) refl w.rule,
      behind 1 m.elen (omega arith) refl w.elen,
    )
  where
    at : (j v : ℕ) → j < 6 → get_or (front_of m) j 0 ≡ v → v < 2 ^ 64 → get_le (put_machine m b) (0 + j * 8) 8 ≡ v
    at j v l e f =
        ap (λ (x : List ℕ). get_le x (0 + j * 8) 8) (put_machine-rows m b)
        ∙ le-cong (put_row 64 2 8 (λ j. get_or (back_of m) j 0) (front m b)) (front m b) (0 + j * 8) (0 + j * 8) 8
        (λ i n. put_row-out 64 2 8 (λ j. get_or (back_of m) j 0) (front m b) (0 + j * 8 + i) (λ x. omega (arith, x.0)))
        ∙ le-put_row 0 6 8 (λ j. get_or (front_of m) j 0) b (omega arith) j l
        ∙ ap (λ (x : ℕ). x % 256 ^ 8) e ∙ mod-eq_of_lt f

    behind : (j v : ℕ) → j < 2 → get_or (back_of m) j 0 ≡ v → v < 2 ^ 64 → get_le (put_machine m b) (64 + j * 8) 8 ≡ v
    behind j v l e f =
        ap (λ (x : List ℕ). get_le x (64 + j * 8) 8) (put_machine-rows m b)
        ∙ le-put_row 64 2 8 (λ j. get_or (back_of m) j 0) (front m b) (omega (arith, length-put_row 0 6 8 (λ j. get_or (front_of m) j 0) b)) j l
        ∙ ap (λ (x : ℕ). x % 256 ^ 8) e ∙ mod-eq_of_lt f

-- the numbers as the block has them
module _ (b : List ℕ) where
  front_at : (j : ℕ) → j < 6 → get_or (front_of (machine_of b)) j 0 ≡ get_le b (0 + j * 8) 8
  unfolding machine_of
  front_at zero l = refl
  front_at (suc zero) l = refl
  front_at (suc (suc zero)) l = refl
  front_at (suc (suc (suc zero))) l = refl
  front_at (suc (suc (suc (suc zero)))) l = refl
  front_at (suc (suc (suc (suc (suc zero))))) l = refl
  front_at (suc (suc (suc (suc (suc (suc j)))))) l = absurd (omega arith)

  back_at : (j : ℕ) → j < 2 → get_or (back_of (machine_of b)) j 0 ≡ get_le b (64 + j * 8) 8
  unfolding machine_of
  back_at zero l = refl
  back_at (suc zero) l = refl
  back_at (suc (suc j)) l = absurd (omega arith)

-- a block written over with its own numbers stays
pub put_machine-same : (b : List ℕ) → Bytes b → put_machine (machine_of b) b ≡ b
put_machine-same b small =
    put_machine-rows (machine_of b) b
    ∙ ap (put_row 64 2 8 (λ j. get_or (back_of (machine_of b)) j 0)) (put_row-same b small 0 6 8 (λ j. get_or (front_of (machine_of b)) j 0) (front_at b))
    ∙ put_row-same b small 64 2 8 (λ j. get_or (back_of (machine_of b)) j 0) (back_at b)

-- a machine that keeps what no step changes: its other numbers are enough
pub put-state-is : (m : Machine) (xs ys : List ℕ) → Bytes xs → Bytes ys → SameMachine m (machine_of xs)
    → ys ≡ put_le 40 8 m.tile_n (put_le 32 8 m.tile_k (put_le 24 8 m.tile_m (put_le 16 8 m.mtype xs))) → ys ≡ put_machine m xs
unfolding machine_of put_row
put-state-is m xs ys small small' k e =
    sym (put_row-same ys small' 64 2 8 (λ j. get_or (back_of m) j 0) behind)
    ∙ ap (put_row 64 2 8 (λ j. get_or (back_of m) j 0)) (put-middle (λ j. get_or (front_of m) j 0) xs ys 2 4 0 small small' e before (λ j l. absurd (omega arith)))
    ∙ sym (put_machine-rows m xs)
  where
    before : (j : ℕ) → j < 2 → get_or (front_of m) j 0 ≡ get_le xs (j * 8) 8
    before zero l = k.rlen
    before (suc zero) l = k.mlen
    before (suc (suc j)) l = absurd (omega arith)

    kept : (j : ℕ) → get_le ys (64 + j * 8) 8 ≡ get_le xs (64 + j * 8) 8
    kept j =
        ap (λ (l : List ℕ). get_le l (64 + j * 8) 8) e
        ∙ le-cong (put_row 16 4 8 (λ j. get_or (front_of m) (2 + j) 0) xs) xs (64 + j * 8) (64 + j * 8) 8
        (λ i l. put_row-out 16 4 8 (λ j. get_or (front_of m) (2 + j) 0) xs (64 + j * 8 + i) (λ h. omega (arith, h.1)))

    behind : (j : ℕ) → j < 2 → get_or (back_of m) j 0 ≡ get_le ys (64 + j * 8) 8
    behind zero l = k.rule ∙ sym (kept 0)
    behind (suc zero) l = k.elen ∙ sym (kept 1)
    behind (suc (suc j)) l = absurd (omega arith)

-- ---- the ranges in it

-- ranges that are written leave the machine's numbers
pub machine_of-put_seals : (rs : List Range) (b : List ℕ) → machine_of (put_seals rs b) ≡ machine_of b
unfolding machine_of
machine_of-put_seals rs b =
    rw (
      at 0 (inl (omega arith)),
      at 8 (inl (omega arith)),
      at 16 (inl (omega arith)),
      at 24 (inl (omega arith)),
      at 32 (inl (omega arith)),
      at 40 (inl (omega arith)),
      at 64 (inr (omega arith, omega arith)),
      at 72 (inr (omega arith, omega arith)),
    )
  where
    at : (p : ℕ) → (p + 8 ≤ 48) ⊎ ((64 ≤ p) × (p + 8 ≤ 80)) → get_le (put_seals rs b) p 8 ≡ get_le b p 8
    at p (inl h) = le-cong (put_seals rs b) b p p 8 (λ k l. put_seals-out rs b (p + k) (inl (omega arith)))
    at p (inr h) = le-cong (put_seals rs b) b p p 8 (λ k l. put_seals-out rs b (p + k) (inr (omega (arith, h.0), omega (arith, h.1))))

-- the ranges that a start is given, by their numbers
pub ranges-at : (xs : List ℕ) (i : ℕ) → 2 * i + 1 < length xs → get_or (ranges xs) i (range 0 0) ≡ range (get_or xs (2 * i) 0) (get_or xs (2 * i + 1) 0)
ranges-at [] i l = absurd (not-suc-le-zero l)
ranges-at (x ∷ []) i l = absurd (omega arith)
ranges-at (x ∷ y ∷ xs) zero l = refl
ranges-at (x ∷ y ∷ xs) (suc i) l =
    ranges-at xs i (omega arith)
    ∙ ap₂ (λ (a b : ℕ). range (get_or (x ∷ y ∷ xs) a 0) (get_or (x ∷ y ∷ xs) b 0)) (twice i) (odd i)
  where
    twice : (i : ℕ) → suc (suc (2 * i)) ≡ 2 * suc i
    twice i = omega arith

    odd : (i : ℕ) → suc (suc (2 * i + 1)) ≡ 2 * suc i + 1
    odd i = omega arith

-- all of them, and zeros behind them
pub put-seals-is : (xs b : List ℕ) (n : ℕ) → n ≡ length xs / 2 → length xs ≤ 16
    → upto (8 - n) (λ i. put_range (n + i) (range 0 0)) (upto n (λ i. put_range i (get_or (ranges xs) i (range 0 0))) (put_le 80 8 n b)) ≡ put_seals (ranges xs) b
unfolding put_seals
put-seals-is xs b n e l =
    let m : length (ranges xs) ≡ n = ranges-count xs ∙ sym e in
    upto-cong (8 - n) (λ i. put_range (n + i) (range 0 0)) (λ i. put_range (n + i) (at (n + i))) (upto n (λ i. put_range i (at i)) (put_le 80 8 n b))
    (λ i k ys. ap (λ (r : Range). put_range (n + i) r ys) (sym (List·getD-eq-default (ranges xs) (range 0 0) (omega (arith, m)))))
    ∙ sym (upto_add n (8 - n) (λ i. put_range i (at i)) (put_le 80 8 n b))
    ∙ ap (λ (k : ℕ). upto k (λ i. put_range i (at i)) (put_le 80 8 n b)) {x = n + (8 - n)} {y = 8} (omega (arith, e, div-add-mod' (length xs) 2))
    ∙ ap (λ (k : ℕ). upto 8 (λ i. put_range i (at i)) (put_le 80 8 k b)) (sym m)
  where
    at : ℕ → Range
    at i = get_or (ranges xs) i (range 0 0)

-- a step keeps them
module _ (grant : Choice) (word : ℕ) (xs : List ℕ) (B : Bench) where
  abbrev M : Parameters
  M = parameters grant B.machine

  outcome-kept : (W : Vectors) → SameMachine (outcome_in W M (decode word) xs B).bench.machine B.machine
  outcome-kept W = go (is_done (verdict (checks_in W M (decode word) xs B)))
    where
      go : (t : Bool) → SameMachine (cond t (carried_in W M (decode word) xs B) (refused_in W M (decode word) xs B (verdict (checks_in W M (decode word) xs B)))).bench.machine B.machine
      go true = record { rlen = refl; mlen = refl; rule = refl; elen = refl }
      go false = record { rlen = refl; mlen = refl; rule = refl; elen = refl }

  pub step-with-kept : (W : Vectors) → SameMachine (step_with grant word xs W B).bench.machine B.machine
  unfolding step_with
  step-with-kept W = go (vectors_fit W)
    where
      go : (t : Bool) → SameMachine (cond t (beside (vectors_in W M (decode word) xs B) (outcome_in W M (decode word) xs B)) (beside W.file (refused_in W M (decode word) xs B (Err BadArguments)))).bench.machine B.machine
      go true = outcome-kept W
      go false = record { rlen = refl; mlen = refl; rule = refl; elen = refl }

  pub step_kept : SameMachine (step_by grant word xs B).bench.machine B.machine
  unfolding step_by outcome
  step_kept = outcome-kept idle

-- ---- the scalars' block

pub length-values : (b : List ℕ) → length (values_of b) ≡ 32
unfolding values_of
length-values b = length-first_values 32 b

pub values-at : (b : List ℕ) (s : ℕ) → s < 32 → get_or (values_of b) s 0 ≡ get_le b (s * 8) 8
unfolding values_of
values-at b s l = value-at 32 b s l

-- a block written over with its own values stays
pub put_values-same : (b : List ℕ) → Bytes b → put_values (values_of b) b ≡ b
unfolding put_values values_of
put_values-same b small = put_same 32 b small

-- ---- an answer as one number

-- an answer that is as `Done`'s where its number is 0, and whose result is not 0
pub packed-refused : (a : Reply) → (done a ≡ true → a ≡ reply Done) → ¬ (packed a ≡ 0) → done a ≡ false
packed-refused a zero_is d = go (done a) refl
  where
    go : (t : Bool) → done a ≡ t → t ≡ false
    go true e = absurd (d (ap packed (zero_is e)))
    go false e = refl
