-- What each return of a start and of a step has to show.
use Rattle.numbers.proofs.Kit.{Err}
use mathlib.Core.Path.{◌≡◌, refl, sym, ap, ap₂, ◌∙◌, subst}
use mathlib.Core.Bool.{Bool, true, false, cond, false≢true}
use mathlib.Core.List.{List, []}
use Prim.Native.Nat.{ℕ, ◌%◌, ◌≤◌}
use native.Mathlib.Nat.{div-add-mod'}
use native.Mathlib.Omega.{arith}
use lib.Dec.{leb}
use lib.ListN.{length, replicate}
use borrow.Author.Tests.{eq-eqb, ne_eqb, eqb-true, leb-true}
use Rattle.machine.specs.declared.Machine.{Machine}
use Rattle.machine.specs.declared.Refusal.TheVariants.{BadArguments, TooManySeals}
use Rattle.machine.specs.Starting.{Started}
use Rattle.machine.specs.Step.{Stepped}
use Rattle.machine.specs.Answers.{reply, done, is_done, Answer, Done}
use Rattle.machine.specs.Geometry.{Bench, bench_of}
use Rattle.machine.specs.Starting.{ranges, paired, most_seals, startable, fresh_machine, no_machine, StartOutcome, start_machine, started_as}
use Rattle.machine.proofs.StartLaws.{startable-paired, ranges-count}
use Rattle.machine.specs.Setting.{chosen}
use Rattle.machine.specs.Vectors.{Vectors, vectors_of}
use Rattle.machine.specs.Step.{VectorOutcome, vector_stepped_as}
use Rattle.unit_ranges.specs.Ranges.{seals_in, put_seals}
use Rattle.unit_sealing.specs.SealBlock.{BlockSealed, block_sealed, seal_block}
use Rattle.c_blocks.specs.Blocks.{machine_bytes, machine_of, put_machine, SameMachine, packed, values_of}
use Rattle.c_blocks.proofs.BlockLaws.{step-with-kept}
use Rattle.c_scalars.specs.ScalarBlock.{step_block}
use Rattle.c_step.specs.BenchCalls.{started_out, shown_start, host_start, stepped_out, shown_step, host_step, sealed_out, shown_seal, host_seal}

-- ---- starting

module _ (rlen mlen elen rule : ℕ) (seals machine registers marks : List ℕ) where
  -- a block of another length
  pub start-short : (r : ℕ) → ¬ (length machine ≡ machine_bytes) → r ≡ packed (reply (Err BadArguments))
      → started_out r machine registers marks ≡ host_start rlen mlen elen rule seals machine registers marks
  unfolding host_start
  start-short r h er = rw (er, ne_eqb (length machine) machine_bytes h)

  -- what the start has answered and left, and the block written exactly where it is done
  pub start-shown : (t : Bool) (s : Started) (M K : List ℕ) (r : ℕ) → length machine ≡ machine_bytes
      → started_as s seals registers K ≡ start_machine rlen mlen elen rule seals registers marks
      → is_done s.answer ≡ t → M ≡ cond t (put_seals (ranges seals) (put_machine s.machine machine)) machine → r ≡ packed (reply s.answer)
      → started_out r M registers K ≡ host_start rlen mlen elen rule seals machine registers marks
  unfolding host_start
  start-shown t s M K r h e et em er =
      ap₂ (λ (r : ℕ) (M : List ℕ). started_out r M registers K) er (em ∙ written t ∙ ap (λ (t : Bool). cond t (put_seals (cond t (ranges seals) []) (put_machine s.machine machine)) machine) (sym et))
      ∙ ap (shown_start machine) e
      ∙ ap (λ (t : Bool). cond t (shown_start machine (start_machine rlen mlen elen rule seals registers marks)) (started_out (packed (reply (Err BadArguments))) machine registers marks))
      (sym (eq-eqb (length machine) machine_bytes h))
    where
      written : (t : Bool) → cond t (put_seals (ranges seals) (put_machine s.machine machine)) machine ≡ cond t (put_seals (cond t (ranges seals) []) (put_machine s.machine machine)) machine
      written true = refl
      written false = refl

  -- one that is done was given numbers in pairs, of no more than eight ranges
  pub start-numbers : (s : Started) (K : List ℕ) → started_as s seals registers K ≡ start_machine rlen mlen elen rule seals registers marks → is_done s.answer ≡ true
      → (paired seals ≡ true) × (length seals ≤ 16)
  unfolding start_machine
  start-numbers s K e d =
      go (startable rlen mlen elen rule seals registers marks) refl (leb (length (ranges seals)) most_seals) refl (sym (ap (λ (o : StartOutcome). done o.answer) e) ∙ d)
    where
      out : Answer → StartOutcome
      out a =
          cond (is_done a)
          (started_as (record { answer = a; machine = fresh_machine rlen mlen elen rule }) seals registers (replicate (length marks) 0))
          (started_as (record { answer = a; machine = no_machine }) seals registers marks)

      go : (u : Bool) → startable rlen mlen elen rule seals registers marks ≡ u → (v : Bool) → leb (length (ranges seals)) most_seals ≡ v
          → done (out (cond u (cond v Done (Err TooManySeals)) (Err BadArguments))).answer ≡ true → (paired seals ≡ true) × (length seals ≤ 16)
      go true f true g n =
          let p : paired seals ≡ true = startable-paired rlen mlen elen rule seals registers marks f in
          (p, omega (arith, leb-true (length (ranges seals)) 8 g, ranges-count seals, div-add-mod' (length seals) 2, eqb-true (length seals % 2) 0 p))
      go true f false g n = absurd (false≢true n)
      go false f v g n = absurd (false≢true n)

-- ---- a step of the host

module _ (word group : ℕ) (machine registers marks scalars memory file : List ℕ) where
  abbrev bench : Bench
  bench = bench_of (machine_of machine) (seals_in machine) registers marks memory

  -- a block of another length
  pub step-short : (r : ℕ) → ¬ (length machine ≡ machine_bytes) → r ≡ packed (reply (Err BadArguments))
      → stepped_out r machine registers marks scalars memory file ≡ host_step word group machine registers marks scalars memory file
  unfolding host_step
  step-short r h er = rw (er, ne_eqb (length machine) machine_bytes h)

  pub step-short-scalars : (r : ℕ) → length machine ≡ machine_bytes → ¬ (length scalars ≡ 256) → r ≡ packed (reply (Err BadArguments))
      → stepped_out r machine registers marks scalars memory file ≡ host_step word group machine registers marks scalars memory file
  unfolding host_step
  step-short-scalars r h k er = rw (er, eq-eqb (length machine) machine_bytes h, ne_eqb (length scalars) 256 k)

  both : length machine ≡ machine_bytes → length scalars ≡ 256
      → shown_step machine (step_block word scalars (vectors_of file group) bench) ≡ host_step word group machine registers marks scalars memory file
  unfolding host_step
  both h k = rw (eq-eqb (length machine) machine_bytes h, eq-eqb (length scalars) 256 k)

  -- done: the numbers that the step has left are written over the block
  pub step-shown : (m : Machine) (s : Stepped) (M R K S Q F : List ℕ) (r : ℕ) → length machine ≡ machine_bytes → length scalars ≡ 256 → m ≡ machine_of machine
      → vector_stepped_as s (seals_in machine) R K S Q F ≡ step_block word scalars (vectors_of file group) (bench_of m (seals_in machine) registers marks memory) → M ≡ put_machine s.machine machine → r ≡ packed (reply s.answer)
      → stepped_out r M R K S Q F ≡ host_step word group machine registers marks scalars memory file
  step-shown m s M R K S Q F r h k en e em er =
      ap₂ (λ (r : ℕ) (M : List ℕ). stepped_out r M R K S Q F) er em
      ∙ ap (shown_step machine) (e ∙ ap (λ (m : Machine). step_block word scalars (vectors_of file group) (bench_of m (seals_in machine) registers marks memory)) en)
      ∙ both h k

-- and but for mtype and the sizes they are those of the block, whatever vector file is lent
pub step_keeps : (word : ℕ) (machine registers marks scalars memory : List ℕ) (W : Vectors) (m : Machine) (s : Stepped) (R K S Q F : List ℕ) → m ≡ machine_of machine
    → vector_stepped_as s (seals_in machine) R K S Q F ≡ step_block word scalars W (bench_of m (seals_in machine) registers marks memory) → SameMachine s.machine (machine_of machine)
step_keeps word machine registers marks scalars memory W m s R K S Q F en e =
    let B : Bench = bench_of m (seals_in machine) registers marks memory in
    subst (λ (x : Machine). SameMachine x (machine_of machine)) (sym (ap (λ (o : VectorOutcome). o.bench.machine) e))
    (subst (λ (x : Machine). SameMachine (step_block word scalars W B).bench.machine x) en (step-with-kept chosen word (values_of scalars) B W))

-- ---- a sealing of the host

module _ (start size : ℕ) (machine registers marks : List ℕ) where
  pub seal-short : (r : ℕ) → ¬ (length machine ≡ machine_bytes) → r ≡ packed (reply (Err BadArguments)) → sealed_out r machine registers marks ≡ host_seal start size machine registers marks
  unfolding host_seal
  seal-short r h er = rw (er, ne_eqb (length machine) machine_bytes h)

  pub seal-shown : (m : Machine) (a : Answer) (M : List ℕ) (r : ℕ) → length machine ≡ machine_bytes → m ≡ machine_of machine
      → block_sealed a M ≡ seal_block start size m machine registers marks → r ≡ packed (reply a)
      → sealed_out r M registers marks ≡ host_seal start size machine registers marks
  unfolding host_seal
  seal-shown m a M r h em e er =
      ap (λ (r : ℕ). sealed_out r M registers marks) er
      ∙ ap (shown_seal registers marks) (e ∙ ap (λ (m : Machine). seal_block start size m machine registers marks) em)
      ∙ ap (λ (t : Bool). cond t (shown_seal registers marks (seal_block start size (machine_of machine) machine registers marks)) (sealed_out (packed (reply (Err BadArguments))) machine registers marks))
      (sym (eq-eqb (length machine) machine_bytes h))
