-- Which ranges the machine's block holds after a call, and after one call after another.
use Rattle.numbers.proofs.Kit.{◌≡◌, refl, sym, ap, ap₂, ◌∙◌, subst, Bool, true, false, cond, List, [], ◌∷◌, ◌++◌, append_assoc, append-nil, ℕ, ◌%◌, ◌^◌}
use Rattle.numbers.proofs.Kit.{eqb, ltb, length, eqb-true, eq-eqb, Err}
use Rattle.machine.specs.declared.Machine.{Machine}
use Rattle.machine.specs.declared.Refusal.TheVariants.{BadArguments, TooManySeals}
use Rattle.machine.specs.Tests.{every}
use Rattle.machine.specs.Answers.{reply, done, is_done, verdict, Answer, Done}
use Rattle.machine.specs.Geometry.{Range, range, Bench, bench_of}
use Rattle.machine.specs.Setting.{chosen}
use Rattle.machine.specs.Starting.{seal_ends, most_seals}
use Rattle.machine.specs.Faults.{seals_fit, sound_bench}
use Rattle.machine.specs.Sealing.{add_seal, seal_checks, with_seal}
use Rattle.machine.specs.Vectors.{vectors_of}
use Rattle.machine.proofs.NoFault.{bench-seals, seal-keeps-sound}
use Rattle.run.specs.declared.Plan.{Plan}
use Rattle.run.specs.Start.{start_run}
use Rattle.run.specs.Turn.{turn_outcome, turns}
use Rattle.run.specs.Whole.{whole}
use Rattle.run.specs.Theorems.{SealKept}
use Rattle.unit_ranges.specs.Ranges.{seals_in, put_seals}
use Rattle.unit_ranges.proofs.PutLaws.{put_seals-seals}
use Rattle.unit_sealing.specs.SealBlock.{seal_block}
use Rattle.unit_sealing.proofs.AddedRange.{sealed-ranges}
use Rattle.c_blocks.specs.Blocks.{machine_bytes, machine_of, put_machine, packed}
use Rattle.c_blocks.proofs.BlockLaws.{machine_of-put_seals, put_machine-seals}
use Rattle.c_run_blocks.specs.RunBlocks.{run_bytes}
use Rattle.c_scalars.specs.ScalarBlock.{step_block}
use Rattle.c_step.proofs.Refusal.{start-refusal}
use Rattle.c_step.specs.BenchCalls.{HostStarted, stepped_out, shown_step, host_step, sealed_out, host_seal}
use Rattle.c_run.specs.RunCalls.{run_started_out, shown_run_start, host_run_start}
use Rattle.c_turn.specs.TurnCalls.{turn_blocks, held_running, turned_out, shown_turn, host_turn, shown_turns, host_turns, ran_out, shown_run, host_run}
use Rattle.c_image.specs.ImageCalls.{HostRead}
use Rattle.c_image.proofs.Refusal.{image-read-refusal}
use Rattle.theorem_calls.specs.Calls.{Buffers, Call, Called, after_step, after_seal, after_run_start, after_turn, after_run, called}
use Rattle.theorem_calls.specs.Composed.{after_calls, bench_in, added_by_call, added_over_calls, KeepsMachine, EachKeepsMachine, SealHoldsFromSealCall, SealCallSeals, RangesAreExactOverCalls}
use Rattle.theorem_calls.proofs.Numbers.{machine-words}
use Rattle.theorem_calls.proofs.Seal.{holds-none, seal-safe, from_block}

-- ---- bodlarina_seal

module _ (from size : ℕ) (b : Buffers) where
  -- memory is not looked at
  abbrev B₀ : Bench
  B₀ = bench_of (machine_of b.machine) (seals_in b.machine) b.registers b.marks []

  abbrev B : Bench
  B = bench_in b

  abbrev block : Answer → List ℕ
  block a = cond (done (reply a)) (put_seals (cond (is_done a) (with_seal from size B₀) B₀).seals b.machine) b.machine

  abbrev out : Bool → Called
  out t =
      after_seal b (cond t (sealed_out (packed (reply (verdict (seal_checks from size B₀)))) (block (verdict (seal_checks from size B₀))) b.registers b.marks)
      (sealed_out (packed (reply (Err BadArguments))) b.machine b.registers b.marks))

  seal-out : called (Call.seal from size) b ≡ out (eqb (length b.machine) machine_bytes)
  unfolding host_seal seal_block add_seal
  seal-out = refl

  by_tests : (s e f : Bool) → sound_bench B ≡ s → seal_ends from size ≡ e → ltb (length B.seals) most_seals ≡ f → length b.machine ≡ machine_bytes
      → let a : Answer = cond s (cond e (cond f Done (Err TooManySeals)) (Err BadArguments)) (Err BadArguments) in
      (packed (reply a) ≡ (reply a).number)
      × (bench_of (machine_of (block a)) (seals_in (block a)) b.registers b.marks b.memory ≡ cond (is_done a) (with_seal from size B) B)
  unfolding add_seal
  by_tests true true true hs he hf l =
      let v : verdict (seal_checks from size B) ≡ Done = rw (hs, he, hf) in
      let k : sound_bench (with_seal from size B) ≡ true = subst (λ (a : Answer). sound_bench (cond (is_done a) (with_seal from size B) B) ≡ true) v (seal-keeps-sound from size B hs) in (
        refl,
        ap₂ (λ (m : Machine) (rs : List Range). bench_of m rs b.registers b.marks b.memory)
            (machine_of-put_seals (seals_in b.machine ++ (range from size ∷ [])) b.machine)
            (put_seals-seals (seals_in b.machine ++ (range from size ∷ [])) b.machine l (bench-seals (with_seal from size B) k)),
      )
  by_tests true true false hs he hf l = (refl, refl)
  by_tests true false f hs he hf l = (refl, refl)
  by_tests false e f hs he hf l = (refl, refl)

pub seal-call-seals : SealCallSeals
unfolding add_seal
seal-call-seals from size b = go (eqb (length b.machine) machine_bytes) refl
  where
    verdict_of : Bool → Answer
    verdict_of s = cond s (cond (seal_ends from size) (cond (ltb (length (seals_in b.machine)) most_seals) Done (Err TooManySeals)) (Err BadArguments)) (Err BadArguments)

    go : (t : Bool) → eqb (length b.machine) machine_bytes ≡ t
        → ((called (Call.seal from size) b).result ≡ (reply (verdict_of (sound_bench (bench_in b)))).number)
        × (bench_in (called (Call.seal from size) b).after ≡ cond (is_done (verdict_of (sound_bench (bench_in b)))) (with_seal from size (bench_in b)) (bench_in b))
    go true e =
        let o = seal-out from size b ∙ ap (out from size b) e in
        let k = by_tests from size b (sound_bench (bench_in b)) (seal_ends from size) (ltb (length (seals_in b.machine)) most_seals) refl refl refl (eqb-true (length b.machine) machine_bytes e) in
        (ap (λ (o : Called). o.result) o ∙ k.0, ap (λ (o : Called). bench_in o.after) o ∙ k.1)
    go false e =
        let o = seal-out from size b ∙ ap (out from size b) e in
        let n = holds-none b e in (
          ap (λ (o : Called). o.result) o ∙ ap (λ (s : Bool). (reply (verdict_of s)).number) (sym n),
          ap (λ (o : Called). bench_in o.after) o ∙ ap (λ (s : Bool). cond (is_done (verdict_of s)) (with_seal from size (bench_in b)) (bench_in b)) (sym n),
        )

-- ---- one call

module _ (b : Buffers) where
  stays : seals_in b.machine ≡ seals_in b.machine ++ []
  stays = sym (append-nil (seals_in b.machine))

  put : (m : Machine) → seals_in (put_machine m b.machine) ≡ seals_in b.machine ++ []
  put m = put_machine-seals m b.machine ∙ stays

  step-holds : (word group : ℕ) → seals_in (called (Call.step word group) b).after.machine ≡ seals_in b.machine ++ []
  unfolding host_step
  step-holds word group = go (every (eqb (length b.machine) machine_bytes ∷ eqb (length b.scalars) 256 ∷ []))
    where
      left : Bool → Called
      left t =
          after_step b (cond t (shown_step b.machine (step_block word b.scalars (vectors_of b.file group) (bench_in b)))
          (stepped_out (packed (reply (Err BadArguments))) b.machine b.registers b.marks b.scalars b.memory b.file))

      go : (t : Bool) → seals_in (left t).after.machine ≡ seals_in b.machine ++ []
      go true = put (step_block word b.scalars (vectors_of b.file group) (bench_in b)).bench.machine
      go false = stays

  seal-holds : (from size : ℕ) → seals_in (called (Call.seal from size) b).after.machine ≡ seals_in b.machine ++ added_by_call (Call.seal from size) b
  seal-holds from size =
      let k = seal-call-seals from size b in
      ap (λ (C : Bench). C.seals) k.1 ∙ sealed-ranges from size (bench_in b)
      ∙ ap (λ (n : ℕ). seals_in b.machine ++ cond (eqb n 0) (range from size ∷ []) []) (sym k.0)

  -- refused ones leave the block
  start-holds : (rlen mlen elen rule : ℕ) (seals : List ℕ) → ¬ ((called (Call.start rlen mlen elen rule seals) b).result ≡ 0)
      → seals_in (called (Call.start rlen mlen elen rule seals) b).after.machine ≡ seals_in b.machine ++ []
  start-holds rlen mlen elen rule seals n =
      ap (λ (h : HostStarted). seals_in h.machine) (start-refusal rlen mlen elen rule seals b.machine b.registers b.marks n) ∙ stays

  read-holds : (image : List ℕ) → ¬ ((called (Call.image_read image) b).result % 2 ^ 16 ≡ 0) → seals_in (called (Call.image_read image) b).after.machine ≡ seals_in b.machine ++ []
  read-holds image n = ap (λ (h : HostRead). seals_in h.machine) (image-read-refusal image b.machine b.registers b.marks n) ∙ stays

  run-start-holds : (P : Plan) → seals_in (called (Call.run_start P) b).after.machine ≡ seals_in b.machine ++ []
  unfolding host_run_start
  run-start-holds P = go (every (eqb (length b.machine) machine_bytes ∷ eqb (length b.run) run_bytes ∷ []))
    where
      left : Bool → Called
      left t =
          after_run_start b (cond t (shown_run_start b.machine b.run (start_run chosen P (bench_in b)))
          (run_started_out (packed (reply (Err BadArguments))) b.machine b.registers b.marks b.memory b.run))

      go : (t : Bool) → seals_in (left t).after.machine ≡ seals_in b.machine ++ []
      go true = stays
      go false = stays

  turn_holds : seals_in (called Call.run_turn b).after.machine ≡ seals_in b.machine ++ []
  unfolding host_turn
  turn_holds = go (turn_blocks b.run b.machine)
    where
      left : Bool → Called
      left t =
          after_turn b (cond t (shown_turn b.run b.machine (turn_outcome chosen (held_running b.run b.machine b.registers b.marks b.memory)))
          (turned_out (packed (reply (Err BadArguments))) b.run b.machine b.registers b.marks b.memory))

      go : (t : Bool) → seals_in (left t).after.machine ≡ seals_in b.machine ++ []
      go true = put (turn_outcome chosen (held_running b.run b.machine b.registers b.marks b.memory)).after.bench.machine
      go false = stays

  turns-holds : (limit : ℕ) → seals_in (called (Call.run_turns limit) b).after.machine ≡ seals_in b.machine ++ []
  unfolding host_turns
  turns-holds limit = go (turn_blocks b.run b.machine)
    where
      left : Bool → Called
      left t =
          after_turn b (cond t (shown_turns b.run b.machine (turns chosen (held_running b.run b.machine b.registers b.marks b.memory) limit))
          (turned_out 0 b.run b.machine b.registers b.marks b.memory))

      go : (t : Bool) → seals_in (left t).after.machine ≡ seals_in b.machine ++ []
      go true = put (turns chosen (held_running b.run b.machine b.registers b.marks b.memory) limit).after.bench.machine
      go false = stays

  run_holds : (P : Plan) → seals_in (called (Call.run P) b).after.machine ≡ seals_in b.machine ++ []
  unfolding host_run
  run_holds P = go (every (eqb (length b.machine) machine_bytes ∷ eqb (length b.steps) 8 ∷ []))
    where
      left : Bool → Called
      left t =
          after_run b (cond t (shown_run b.machine b.steps (whole chosen P (bench_in b)))
          (ran_out (packed (reply (Err BadArguments))) b.machine b.registers b.marks b.memory b.steps))

      shown : (u : Bool) → seals_in (cond u (put_machine (whole chosen P (bench_in b)).bench.machine b.machine) b.machine) ≡ seals_in b.machine ++ []
      shown true = put (whole chosen P (bench_in b)).bench.machine
      shown false = stays

      go : (t : Bool) → seals_in (left t).after.machine ≡ seals_in b.machine ++ []
      go true = shown (done (whole chosen P (bench_in b)).answer)
      go false = stays

  call-holds : (c : Call) → KeepsMachine c b → seals_in (called c b).after.machine ≡ seals_in b.machine ++ added_by_call c b
  call-holds (Call.start rlen mlen elen rule seals) h = start-holds rlen mlen elen rule seals h
  call-holds (Call.step word group) h = step-holds word group
  call-holds (Call.seal from size) h = seal-holds from size
  call-holds (Call.run_start P) h = run-start-holds P
  call-holds Call.run_next h = stays
  call-holds Call.run_turn h = turn_holds
  call-holds (Call.run_turns limit) h = turns-holds limit
  call-holds (Call.run P) h = run_holds P
  call-holds Call.image_size h = stays
  call-holds (Call.image_write image) h = stays
  call-holds (Call.image_read image) h = read-holds image h
  call-holds (Call.write w) h = ap seals_in h ∙ stays

-- ---- one call after another

pub ranges-are-exact-over-calls : RangesAreExactOverCalls
ranges-are-exact-over-calls [] b h = stays b
ranges-are-exact-over-calls (c ∷ cs) b h =
    ranges-are-exact-over-calls cs (called c b).after h.1
    ∙ ap (λ (rs : List Range). rs ++ added_over_calls cs (called c b).after) (call-holds b c h.0)
    ∙ append_assoc (seals_in b.machine) (added_by_call c b) (added_over_calls cs (called c b).after)

-- ---- from an accepted addition on

pub seal-holds-from-seal-call : SealHoldsFromSealCall
seal-holds-from-seal-call from size b small z cs h =
    let w = machine-words b.machine small in
    let o : Called = called (Call.seal from size) b in
    let k = seal-safe b w from size in
    let held : seals_in o.after.machine ≡ seals_in b.machine ++ (range from size ∷ []) =
    seal-holds b from size ∙ ap (λ (n : ℕ). seals_in b.machine ++ cond (eqb n 0) (range from size ∷ []) []) z in
    subst (λ (memory : List ℕ). SealKept (seals_in b.machine ++ (range from size ∷ [])) memory (bench_in (after_calls cs o.after))) (memory-stays from size b)
    (from_block (seals_in b.machine ++ (range from size ∷ [])) o.after cs k.words held h)
  where
    memory-stays : (from size : ℕ) (b : Buffers) → (called (Call.seal from size) b).after.memory ≡ b.memory
    memory-stays from size b = refl
