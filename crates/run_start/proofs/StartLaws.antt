-- For the start of a run: what a plan's numbers bound, and what its tests and checks decide, one after another.
use Rattle.numbers.proofs.Kit.{◌≡◌, ap, ap₂, ◌∙◌, Bool, true, false, cond, List, [], ◌∷◌, ℕ, ◌*◌, ◌/◌, ◌≤◌, mul-le-mul, arith, leb, length, leb-true}
use Rattle.machine.specs.declared.Refusal.TheVariants.{BadArguments, OutsideMemory, Overlap}
use Rattle.machine.specs.Answers.{reply, Check, ◌otherwise◌, verdict, is_done}
use Rattle.machine.specs.Geometry.{Bench, sealed}
use Rattle.machine.specs.Memory.{inside, distinct, rows_miss}
use Rattle.machine.specs.Faults.{sound_bench}
use Rattle.machine.specs.Setting.{chosen}
use Rattle.machine.proofs.TestLaws.{Each, every-each, fails, last}
use Rattle.run.specs.declared.Plan.{Plan}
use Rattle.run.specs.Plan.{narrow, wide, a_at, b_at, c_at, form_of, a_rows, a_columns}
use Rattle.run.proofs.FormLaws.{most-in}
use Rattle.run.specs.Start.{format, kind_fit, planned, lying, apart, separate, RunStart, start_run, fresh_run, no_run}
use Rattle.run_plan.proofs.PlanLaws.{plan-small, wide-small}
use Rattle.numbers.specs.Bounds.{most_elen}

-- ---- the numbers of a plan

module _ (P : Plan) (ok : planned most_elen P ≡ true) where
  numbers : Each (format most_elen P.sew P.factor ∷ leb P.m 1024 ∷ leb P.k 1024 ∷ leb P.n 1024 ∷ kind_fit P ∷ [])
  unfolding planned
  numbers = every-each (format most_elen P.sew P.factor ∷ leb P.m 1024 ∷ leb P.k 1024 ∷ leb P.n 1024 ∷ kind_fit P ∷ []) ok

  pub plan-sizes : (P.m ≤ 1024) × (P.k ≤ 1024) × (P.n ≤ 1024)
  plan-sizes = (leb-true P.m 1024 numbers.1.0, leb-true P.k 1024 numbers.1.1.0, leb-true P.n 1024 numbers.1.1.1.0)

  -- and of A's rows in memory
  pub a-sizes : (a_rows P ≤ 1024) × (a_columns P ≤ 1024)
  a-sizes = most-in (form_of P) P.m P.k 1024 plan-sizes.0 plan-sizes.1

  -- an element has at most 8 bytes
  pub wide-most : P.factor * (P.sew / 8) ≤ 8
  wide-most = wide-small P ok

  -- so a row has at most 8,192
  pub narrow-row : (elements : ℕ) → elements ≤ 1024 → elements * (P.sew / 8) ≤ 8192
  narrow-row elements h = let n : P.sew / 8 ≤ 8 = omega (arith, (plan-small P ok).0) in mul-le-mul h n

  pub wide_row : P.n * (P.factor * (P.sew / 8)) ≤ 8192
  wide_row = mul-le-mul plan-sizes.2 wide-most

-- ---- a test by the bytes of rows, of which a call counted as many as the plan gives

pub counted : (test : ℕ → Bool) {n n' : ℕ} {r : Bool} → n ≡ n' → r ≡ test n → r ≡ test n'
counted test e h = h ∙ ap test e

pub counted-both : (test : ℕ → ℕ → Bool) {n n' o o' : ℕ} {r : Bool} → n ≡ n' → o ≡ o' → r ≡ test n o → r ≡ test n' o'
counted-both test e f h = h ∙ ap₂ test e f

pub counted-all : (test : ℕ → ℕ → ℕ → Bool) {k k' n n' o o' : ℕ} {r : Bool} → k ≡ k' → n ≡ n' → o ≡ o' → r ≡ test k n o → r ≡ test k' n' o'
counted-all test {k' = k'} {n = n} {o = o} d e f h = h ∙ ap (λ (k : ℕ). test k n o) d ∙ ap₂ (test k') e f

-- ---- whether the matrices lie in memory

module _ (P : Plan) (mem : List ℕ) where
  -- by the bytes of a row, and for A by its rows
  abbrev pub a_inside : ℕ → ℕ → Bool
  a_inside rows n = inside (length mem) P.a.address P.a.stride rows n

  abbrev pub b_inside : ℕ → Bool
  b_inside n = inside (length mem) P.b.address P.b.stride P.k n

  abbrev pub c_inside : ℕ → Bool
  c_inside n = inside (length mem) P.c.address P.c.stride P.m n

  -- and of as many as the plan gives it
  abbrev pub a_in : Bool
  a_in = a_inside (a_rows P) (a_columns P * narrow P)

  abbrev pub b_in : Bool
  b_in = b_inside (P.n * narrow P)

  abbrev pub c_in : Bool
  c_in = c_inside (P.n * wide P)

  pub a-outside : a_in ≡ false → false ≡ lying P mem
  unfolding lying
  a-outside h = fails [] tt a_in h (b_in ∷ c_in ∷ [])

  pub b-outside : a_in ≡ true → b_in ≡ false → false ≡ lying P mem
  unfolding lying
  b-outside a h = fails (a_in ∷ []) (a, tt) b_in h (c_in ∷ [])

  pub c-decides : a_in ≡ true → b_in ≡ true → c_in ≡ lying P mem
  unfolding lying
  c-decides a b = last (a_in ∷ b_in ∷ []) (a, (b, tt)) c_in

  pub all-inside : lying P mem ≡ true → Each (a_in ∷ b_in ∷ c_in ∷ [])
  unfolding lying
  all-inside h = every-each (a_in ∷ b_in ∷ c_in ∷ []) h

-- ---- whether C lies apart from the rest

module _ (P : Plan) where
  -- by the rows of A, and by the bytes of a row of A or B, and of C
  abbrev pub c_distinct : ℕ → Bool
  c_distinct o = distinct (c_at P) P.m o

  abbrev pub a_apart : ℕ → ℕ → ℕ → Bool
  a_apart rows n o = apart (a_at P) rows n (c_at P) P.m o

  abbrev pub b_apart : ℕ → ℕ → Bool
  b_apart n o = apart (b_at P) P.k n (c_at P) P.m o

  abbrev pub c_unsealed : (ℕ → Bool) → ℕ → Bool
  c_unsealed z o = rows_miss z P.c.address P.c.stride P.m o

  -- and of as many as the plan gives it
  abbrev pub rows_differ : Bool
  rows_differ = c_distinct (P.n * wide P)

  abbrev pub from_a : Bool
  from_a = a_apart (a_rows P) (a_columns P * narrow P) (P.n * wide P)

  abbrev pub from_b : Bool
  from_b = b_apart (P.n * narrow P) (P.n * wide P)

  abbrev pub from_seal : (ℕ → Bool) → Bool
  from_seal z = c_unsealed z (P.n * wide P)

  module _ (z : ℕ → Bool) where
    pub rows-meet : rows_differ ≡ false → false ≡ separate z P
    unfolding separate
    rows-meet h = fails [] tt rows_differ h (from_a ∷ from_b ∷ from_seal z ∷ [])

    pub meets-a : rows_differ ≡ true → from_a ≡ false → false ≡ separate z P
    unfolding separate
    meets-a r h = fails (rows_differ ∷ []) (r, tt) from_a h (from_b ∷ from_seal z ∷ [])

    pub meets-b : rows_differ ≡ true → from_a ≡ true → from_b ≡ false → false ≡ separate z P
    unfolding separate
    meets-b r a h = fails (rows_differ ∷ from_a ∷ []) (r, (a, tt)) from_b h (from_seal z ∷ [])

    pub seal-decides : rows_differ ≡ true → from_a ≡ true → from_b ≡ true → from_seal z ≡ separate z P
    unfolding separate
    seal-decides r a b = last (rows_differ ∷ from_a ∷ from_b ∷ []) (r, (a, (b, tt))) (from_seal z)

-- ---- what a start leaves, by its four tests

module _ (P : Plan) (B : Bench) where
  abbrev checked : (s p l d : Bool) → List Check
  checked s p l d = (s otherwise BadArguments) ∷ (p otherwise BadArguments) ∷ (l otherwise OutsideMemory) ∷ (d otherwise Overlap) ∷ []

  abbrev out : (s p l d : Bool) → RunStart
  out s p l d = record {
    answer = reply (verdict (checked s p l d));
    run = cond (is_done (verdict (checked s p l d))) (fresh_run B.machine P) (no_run P);
    bench = B;
  }

  pub started-by : {s p l d : Bool} → sound_bench B ≡ s → planned B.machine.elen P ≡ p → lying P B.memory ≡ l
      → separate (sealed B.seals) P ≡ d → out s p l d ≡ start_run chosen P B
  unfolding start_run
  started-by hs hp hl hd = rw (hs, hp, hl, hd)
