-- Parts of the numbers laid in memory, and what a run on them leaves.
use Rattle.numbers.proofs.Kit.{◌≡◌, refl, sym, ap, ap₂, ◌∙◌, subst, true, false≢true, eq-eqb, Result, Ok, Err, List, [], ℕ, ◌+◌, ◌*◌, ◌-◌, ◌/◌, ◌%◌, ◌^◌, ◌≤◌, ◌<◌, mul-le-mul, arith, length}
use Rattle.numbers.proofs.Kit.{take, drop, get_or, replicate, length-drop, get_or-take, get_or-drop, length-take-le}
use Rattle.numbers.specs.Tile.{get_le, put_row}
use Rattle.numbers.proofs.PutLaws.{put_row-low}
use Rattle.std.specs.Prelude.{IsOk}
use Rattle.machine.specs.declared.Machine.{Machine}
use Rattle.machine.specs.declared.Refusal.{Refusal}
use Rattle.machine.specs.Answers.{done, number}
use Rattle.machine.proofs.CodeLaws.{refused-not-done}
use Rattle.run.specs.declared.Finished.{Finished}
use Rattle.machine.specs.Geometry.{Range, Bench, bench_of, permitted}
use Rattle.unit_ranges.specs.Ranges.{seals_in, well_formed}
use Rattle.machine.specs.Faults.{sound_bench}
use Rattle.machine.specs.Starting.{Started, started, StartOutcome, start_machine, started_as, startable, fresh_machine}
use Rattle.machine.proofs.NoFault.{start-sound}
use Rattle.run.specs.declared.Plan.{Plan}
use Rattle.run.specs.Words.{steps}
use Rattle.run.specs.Plan.{shape, product_of}
use Rattle.run.specs.Start.{format}
use Rattle.run.specs.Whole.{WholeOutcome, finished_as, Delivers}
use Rattle.product_memory.specs.Memory.{plan_for, job_for}
use Rattle.product_memory.proofs.MemoryLaws.{element-in, accepted-here, c-place}

-- ---- n numbers from p on, as code lends them

module _ (xs : List ℕ) (p n : ℕ) (fits : p + n ≤ length xs) where
  pub part_length : length (take (p + n - p) (drop p xs)) ≡ n
  part_length =
      let e : p + n - p ≡ n = omega arith in
      ap (λ (t : ℕ). length (take t (drop p xs))) e ∙ length-take-le n (drop p xs) (omega (arith, length-drop p xs))

  part_at : (i : ℕ) → i < n → get_or (take (p + n - p) (drop p xs)) i 0 ≡ get_or xs (p + i) 0
  part_at i l = get_or-take (p + n - p) (drop p xs) i 0 (omega arith) ∙ get_or-drop p xs i 0

  -- stored from `at` on
  pub part-put : (at w : ℕ) (mem : List ℕ)
      → put_row at (length (take (p + n - p) (drop p xs))) w (λ i. get_or (take (p + n - p) (drop p xs)) i 0) mem ≡ put_row at n w (λ i. get_or xs (p + i) 0) mem
  part-put at w mem =
      ap (λ (t : ℕ). put_row at t w (λ i. get_or (take (p + n - p) (drop p xs)) i 0) mem) part_length
      ∙ put_row-low w at n _ _ mem (λ i l. ap (λ (x : ℕ). x % 256 ^ w) (part_at i l))

-- ---- a run on the machine that was just started

-- the bytes and the marks that it is lent
abbrev pub zeros : List ℕ
zeros = replicate 512 0

-- a block without ranges
abbrev pub none : List ℕ
none = replicate 200 0

none-sealed : seals_in none ≡ []
unfolding seals_in well_formed
none-sealed = refl

-- and the bench, with a memory
abbrev fresh : List ℕ → Bench
fresh memory = bench_of (fresh_machine 64 256 32 0) [] zeros zeros memory

fresh-sound : (memory : List ℕ) → sound_bench (fresh memory) ≡ true
unfolding start_machine startable permitted
fresh-sound memory = start-sound 64 256 32 0 [] zeros zeros memory refl

started-fresh : (s : Started) (marks memory : List ℕ) → started_as s [] zeros marks ≡ start_machine 64 256 32 0 [] zeros zeros
    → bench_of s.machine (seals_in none) zeros marks memory ≡ fresh memory
unfolding start_machine startable permitted
started-fresh s marks memory e =
    ap₂ (λ (rs : List Range) (o : StartOutcome). bench_of o.machine rs o.registers o.marks memory) none-sealed e

pub starts : (r : Result Machine Refusal) (marks : List ℕ) → started_as (started r) [] zeros marks ≡ start_machine 64 256 32 0 [] zeros zeros → IsOk r
unfolding start_machine startable permitted
starts (Ok m) marks e = refl
starts (Err r) marks e = absurd (false≢true (sym (refused-not-done r) ∙ ap (λ (o : StartOutcome). done o.answer) e))

module _ (sew f m k n : ℕ) (formatted : format 32 sew f ≡ true) (m≤ : m ≤ 16) (k≤ : k ≤ 16) (n≤ : n ≤ 16) where
  -- the run is accepted
  delivered : (s : Started) (marks memory : List ℕ) → started_as s [] zeros marks ≡ start_machine 64 256 32 0 [] zeros zeros
      → (P : Plan) → P ≡ plan_for sew f m k n → (o : WholeOutcome) → Delivers P (bench_of s.machine (seals_in none) zeros marks memory) o → Delivers (plan_for sew f m k n) (fresh memory) o
  delivered s marks memory e P p o d =
      subst (λ (P : Plan). Delivers P (fresh memory) o) p (subst (λ (B : Bench). Delivers P B o) (started-fresh s marks memory e) d)

  answered-done : (memory : List ℕ) → length memory ≡ 3072 → (o : WholeOutcome) → Delivers (plan_for sew f m k n) (fresh memory) o → o.answer.number ≡ 0
  answered-done memory len o d = accepted-here sew f m k n formatted m≤ k≤ n≤ (fresh memory) (fresh-sound memory) refl refl len o.answer d.answered

  pub finishes : (s : Started) (marks memory : List ℕ) → started_as s [] zeros marks ≡ start_machine 64 256 32 0 [] zeros zeros → length memory ≡ 3072
      → (P : Plan) → P ≡ plan_for sew f m k n → (r : Result Finished Refusal) (rs : List Range) (G K Q : List ℕ)
      → Delivers P (bench_of s.machine (seals_in none) zeros marks memory) (finished_as s.machine r rs G K Q) → IsOk r
  finishes s marks memory e len P p (Ok finished) rs G K Q d = refl
  finishes s marks memory e len P p (Err r) rs G K Q d =
      absurd (false≢true (sym (refused-not-done r) ∙ eq-eqb (number (Err r)) 0 (answered-done memory len (finished_as s.machine (Err r) rs G K Q) (delivered s marks memory e P p (finished_as s.machine (Err r) rs G K Q) d))))

  -- from what the calls of `multiply` return and leave: the run's count, and the elements of C that were read
  pub multiplied : (s : Started) (marks memory : List ℕ) → started_as s [] zeros marks ≡ start_machine 64 256 32 0 [] zeros zeros → length memory ≡ 3072
      → (P : Plan) → P ≡ plan_for sew f m k n → (o : WholeOutcome) → Delivers P (bench_of s.machine (seals_in none) zeros marks memory) o
      → (c : List ℕ) → ((j : ℕ) → j < 256 → get_or c j 0 ≡ get_le o.bench.memory (2048 + j * (f * (sew / 8))) (f * (sew / 8)))
      → (o.count ≡ steps (shape (job_for sew f m k n memory)))
      × ((i j : ℕ) → i < m → j < n → get_or c (i * n + j) 0 ≡ product_of (job_for sew f m k n memory) i j)
  multiplied s marks memory e len P p o d c read =
      let D = delivered s marks memory e P p o d in
      let done = answered-done memory len o D in (
        D.counted done,
        λ i j hi hj.
            read (i * n + j) (omega (arith, element-in m n i j hi hj, mul-le-mul m≤ n≤))
            ∙ sym (c-place sew f m k n formatted m≤ k≤ n≤ o.bench.memory i j) ∙ D.product done i j hi hj,
      )
