-- Request Nine, of the C functions: each call is a function of its blocks and of what a step, a run's start, its turns or a whole run gives.
use Rattle.std.specs.Prelude.{Ok, Err}
use mathlib.Core.Path.{◌≡◌, refl, sym, ap, ap₂, ◌∙◌, subst}
use mathlib.Core.Bool.{Bool, true, false, cond, ◌&&◌}
use mathlib.Core.List.{List, [], ◌∷◌, ◌++◌}
use mathlib.Core.Option.{none, some}
use Prim.Native.Nat.{ℕ, zero, suc}
use native.Mathlib.Omega.{arith}
use lib.ListN.{length, drop, get_or, replicate}
use lib.Dec.{leb, eqb}
use borrow.Author.Tests.{eqb-true}
use Rattle.machine.specs.declared.Machine.{Machine}
use Rattle.machine.specs.declared.Refusal.TheVariants.{BadArguments, TooManySeals}
use Rattle.machine.specs.Tests.{every}
use Rattle.machine.specs.declared.Reply.{Reply}
use Rattle.machine.specs.Answers.{reply, done, is_done, Done, Answer}
use Rattle.machine.specs.Geometry.{Range, register_bytes, Bench, bench_of}
use Rattle.machine.specs.Setting.{chosen}
use Rattle.machine.specs.Starting.{ranges, most_seals, startable, StartOutcome, started_as, start_machine, fresh_machine, no_machine}
use Rattle.machine.specs.Sealing.{SealOutcome, add_seal}
use Rattle.machine.specs.Vectors.{vectors_of}
use Rattle.machine.specs.Faults.{seals_fit}
use Rattle.machine.specs.Alike.{Agree}
use Rattle.run.specs.declared.Plan.{Plan}
use Rattle.run.specs.declared.Run.{Run}
use Rattle.run.specs.Start.{start_run}
use Rattle.run.specs.Turn.{Running, turn_outcome, turns}
use Rattle.run.specs.Whole as Whole
use Rattle.unit_ranges.specs.Ranges.{seals_in, put_seals}
use Rattle.unit_sealing.specs.SealBlock.{seal_block}
use Rattle.c_blocks.specs.Blocks.{machine_bytes, machine_of, put_machine, put_numbers, packed, values_of, put_values}
use Rattle.c_run_blocks.specs.RunBlocks.{run_bytes, put_run}
use Rattle.c_scalars.specs.ScalarBlock.{step_block}
use Rattle.c_step.specs.BenchCalls.{started_out, shown_start, host_start, stepped_out, shown_step, host_step, sealed_out, host_seal}
use Rattle.c_run.specs.RunCalls.{run_started_out, shown_run_start, host_run_start}
use Rattle.c_turn.specs.TurnCalls.{turned_out, shown_running, held_running, turn_blocks, shown_turn, host_turn, shown_turns, host_turns, ran_out, shown_run, host_run}
use Rattle.numbers_format.specs.Parser.{Parsed, parse}
use Rattle.numbers_format.specs.Parser.Parsed.{whole, stopped}
use Rattle.image.specs.declared.ImageError.TheVariants as Image
use Rattle.image.specs.Answers.{image_reply}
use Rattle.image.specs.Cells.{Cell, over, marks_of}
use Rattle.image.specs.Images.{machine_from, image_of, sound_with}
use Rattle.image.specs.ImageFormat.{Described, image_format}
use Rattle.image.specs.Writing.{SizeOutcome, size_reply, size_image, WriteOutcome, write_reply, write_image}
use Rattle.image.specs.Reading.{verdict_of, check_image, restored, cells_in, fitted, read_as, read_image, not_restored}
use Rattle.image.proofs.Images.{alike-one-image}
use Rattle.image_read.specs.Blocks.{restored_as, block_refused, into_block, read_block}
use Rattle.c_image.specs.ImageCalls.{packed_reply, host_image_size, HostWritten, written_out, host_image_write, shown_read, host_image_read}
use Rattle.theorem_powerup.specs.Steps.{AlikeBenches}
use Rattle.theorem_powerup.specs.Runs.{SameRunning}
use Rattle.theorem_powerup.proofs.Steps.{sound-same, step-ignores-unmarked, seal-ignores-unmarked}
use Rattle.theorem_powerup.proofs.Runs.{run-start-ignores-unmarked, turns-ignore-unmarked, whole-ignores-unmarked}
use Rattle.theorem_powerup.proofs.PowerUp.{unmarked-agree, startable-same}
use Rattle.theorem_calls.proofs.Written.{block-fills, read-fills}
use Rattle.theorem_calls.specs.Calls.{Buffers, buffers, Call, Called, after_start, after_step, after_seal, after_run_start, after_turn, after_run, after_read, called}
use Rattle.theorem_powerup_calls.specs.Calls.{AlikeBuffers, SameCalled, CallIgnoresUnmarked, CallsIgnoreUnmarked, ImageWriteIgnoresUnmarked, AtPowerUp, PowerUpNeverMattersToHosts, PowerUpNeverMattersToReaders}

-- ---- cells in lent registers

length-over-same : (cs : List Cell) (xs ys : List ℕ) → length xs ≡ length ys → length (over cs xs) ≡ length (over cs ys)
length-over-same [] xs ys n = refl
length-over-same (c ∷ cs) [] [] n = refl
length-over-same (c ∷ cs) [] (y ∷ ys) n = absurd (omega (arith, n))
length-over-same (c ∷ cs) (x ∷ xs) [] n = absurd (omega (arith, n))
length-over-same (none ∷ cs) (x ∷ xs) (y ∷ ys) n = ap suc (length-over-same cs xs ys (omega (arith, n)))
length-over-same (some v ∷ cs) (x ∷ xs) (y ∷ ys) n = ap suc (length-over-same cs xs ys (omega (arith, n)))

marked-over-same : (cs : List Cell) (xs ys : List ℕ) → length xs ≡ length ys → (q : ℕ) → get_or (marks_of cs) q 0 ≡ 1 → get_or (over cs xs) q 0 ≡ get_or (over cs ys) q 0
marked-over-same [] xs ys n q h = refl
marked-over-same (c ∷ cs) [] [] n q h = refl
marked-over-same (c ∷ cs) [] (y ∷ ys) n q h = absurd (omega (arith, n))
marked-over-same (c ∷ cs) (x ∷ xs) [] n q h = absurd (omega (arith, n))
marked-over-same (none ∷ cs) (x ∷ xs) (y ∷ ys) n zero h = absurd (omega (arith, h))
marked-over-same (some v ∷ cs) (x ∷ xs) (y ∷ ys) n zero h = refl
marked-over-same (none ∷ cs) (x ∷ xs) (y ∷ ys) n (suc q) h = marked-over-same cs xs ys (omega (arith, n)) q h
marked-over-same (some v ∷ cs) (x ∷ xs) (y ∷ ys) n (suc q) h = marked-over-same cs xs ys (omega (arith, n)) q h

over_agree : (cs : List Cell) (xs ys : List ℕ) → length xs ≡ length ys → Agree (marks_of cs) (over cs xs) (over cs ys)
over_agree cs xs ys n = record { same_length = length-over-same cs xs ys n; same_bytes = marked-over-same cs xs ys n }

fitted-same : (d : Described) (xs ys ms ns : List ℕ) → length xs ≡ length ys → length ms ≡ length ns → fitted d xs ms ≡ fitted d ys ns
fitted-same d xs ys ms ns e f =
    let size : ℕ = register_bytes (machine_from d.header).mlen in
    ap₂ (λ (x m : ℕ). every (eqb x size ∷ eqb m size ∷ [])) e f

-- ---- one call, on buffers that differ in their registers only

-- buffers with other register bytes
abbrev with : Buffers → List ℕ → Buffers
with b ys = buffers b.machine ys b.marks b.scalars b.memory b.run b.step b.steps b.file

agreeing : (machine marks scalars memory run step steps file xs ys : List ℕ) → Agree marks xs ys
    → AlikeBuffers (buffers machine xs marks scalars memory run step steps file) (buffers machine ys marks scalars memory run step steps file)
agreeing machine marks scalars memory run step steps file xs ys a = record {
  same-machine = refl;
  same-marks = refl;
  agree = a;
  same-scalars = refl;
  same_memory = refl;
  same-run = refl;
  same_step = refl;
  same-steps = refl;
  same-file = refl;
}

-- what a start leaves, by its tests on the machine's block and on the rest
abbrev started_by : (rlen mlen elen rule : ℕ) → (seals : List ℕ) → Buffers → Answer → StartOutcome
started_by rlen mlen elen rule seals b a =
    cond (is_done a)
    (started_as (record { answer = a; machine = fresh_machine rlen mlen elen rule }) seals b.registers (replicate (length b.marks) 0))
    (started_as (record { answer = a; machine = no_machine }) seals b.registers b.marks)

abbrev start_on : (rlen mlen elen rule : ℕ) → (seals : List ℕ) → Buffers → Bool → Bool → Bool → Called
start_on rlen mlen elen rule seals b t u v =
    after_start b (cond t (shown_start b.machine (started_by rlen mlen elen rule seals b (cond u (cond v Done (Err TooManySeals)) (Err BadArguments))))
    (started_out (packed (reply (Err BadArguments))) b.machine b.registers b.marks))

-- at most eight ranges
abbrev few : List ℕ → Bool
few seals = leb (length (ranges seals)) most_seals

module _ (b : Buffers) (ys : List ℕ) (a : Agree b.marks b.registers ys) where
  kept : AlikeBuffers b (with b ys)
  kept = agreeing b.machine b.marks b.scalars b.memory b.run b.step b.steps b.file b.registers ys a

  -- the machine in the blocks
  abbrev bench : List ℕ → Bench
  bench xs = bench_of (machine_of b.machine) (seals_in b.machine) xs b.marks b.memory

  benches : AlikeBenches (bench b.registers) (bench ys)
  benches = record { alike = record { same-machine = refl; same-seals = refl; same-marks = refl; agree = a }; same_memory = refl }

  start-same : (rlen mlen elen rule : ℕ) (seals : List ℕ) → SameCalled (called (Call.start rlen mlen elen rule seals) b) (called (Call.start rlen mlen elen rule seals) (with b ys))
  unfolding host_start start_machine
  start-same rlen mlen elen rule seals =
      subst (λ (u : Bool). SameCalled (called (Call.start rlen mlen elen rule seals) b) (start_on rlen mlen elen rule seals (with b ys) (eqb (length b.machine) machine_bytes) u (few seals)))
      (startable-same rlen mlen elen rule seals b.registers ys b.marks b.marks a.same_length refl)
      (go (eqb (length b.machine) machine_bytes) (startable rlen mlen elen rule seals b.registers b.marks) (few seals))
    where
      go : (t u v : Bool) → SameCalled (start_on rlen mlen elen rule seals b t u v) (start_on rlen mlen elen rule seals (with b ys) t u v)
      go true true true = record { same-result = refl; alike-after = agreeing _ _ _ _ _ _ _ _ _ _ (unmarked-agree (length b.marks) b.registers ys a.same_length) }
      go true true false = record { same-result = refl; alike-after = kept }
      go true false v = record { same-result = refl; alike-after = kept }
      go false u v = record { same-result = refl; alike-after = kept }

  seal-same : (from size : ℕ) → SameCalled (called (Call.seal from size) b) (called (Call.seal from size) (with b ys))
  unfolding host_seal seal_block
  seal-same from size = go (eqb (length b.machine) machine_bytes)
    where
      -- memory is not looked at
      held : List ℕ → Bench
      held xs = bench_of (machine_of b.machine) (seals_in b.machine) xs b.marks []

      out : Bool → List ℕ → Called
      out t xs =
          let o : SealOutcome = add_seal from size (held xs) in
          after_seal b (cond t (sealed_out (packed o.answer) (cond (done o.answer) (put_seals o.bench.seals b.machine) b.machine) xs b.marks)
          (sealed_out (packed (reply (Err BadArguments))) b.machine xs b.marks))

      go : (t : Bool) → SameCalled (out t b.registers) (out t ys)
      go true =
          let k = seal-ignores-unmarked from size (held b.registers) (held ys) (record { alike = record { same-machine = refl; same-seals = refl; same-marks = refl; agree = a }; same_memory = refl }) in
          record {
            same-result = ap packed k.0;
            alike-after = record {
              same-machine = ap₂ (λ (v : Reply) (rs : List Range). cond (done v) (put_seals rs b.machine) b.machine) k.0 k.1.alike.same-seals;
              same-marks = refl;
              agree = a;
              same-scalars = refl;
              same_memory = refl;
              same-run = refl;
              same_step = refl;
              same-steps = refl;
              same-file = refl;
            };
          }
      go false = record { same-result = refl; alike-after = kept }

  step_same : (word group : ℕ) → SameCalled (called (Call.step word group) b) (called (Call.step word group) (with b ys))
  unfolding host_step
  step_same word group = go (every (eqb (length b.machine) machine_bytes ∷ eqb (length b.scalars) 256 ∷ []))
    where
      out : Bool → List ℕ → Called
      out t xs =
          after_step b (cond t (shown_step b.machine (step_block word b.scalars (vectors_of b.file group) (bench xs))) (stepped_out (packed (reply (Err BadArguments))) b.machine xs b.marks b.scalars b.memory b.file))

      go : (t : Bool) → SameCalled (out t b.registers) (out t ys)
      go true =
          let k = step-ignores-unmarked chosen word (values_of b.scalars) (vectors_of b.file group) (bench b.registers) (bench ys) benches in
          record {
            same-result = ap packed k.same_answer;
            alike-after = record {
              same-machine = ap (λ (m : Machine). put_machine m b.machine) k.alike-after.alike.same-machine;
              same-marks = k.alike-after.alike.same-marks;
              agree = k.alike-after.alike.agree;
              same-scalars = ap (λ (xs : List ℕ). put_values xs b.scalars) k.same-scalars;
              same_memory = k.alike-after.same_memory;
              same-run = refl;
              same_step = refl;
              same-steps = refl;
              same-file = k.same-vectors;
            };
          }
      go false = record { same-result = refl; alike-after = kept }

  run-start-same : (P : Plan) → SameCalled (called (Call.run_start P) b) (called (Call.run_start P) (with b ys))
  unfolding host_run_start
  run-start-same P = go (every (eqb (length b.machine) machine_bytes ∷ eqb (length b.run) run_bytes ∷ []))
    where
      out : Bool → List ℕ → Called
      out t xs =
          after_run_start b (cond t (shown_run_start b.machine b.run (start_run chosen P (bench xs))) (run_started_out (packed (reply (Err BadArguments))) b.machine xs b.marks b.memory b.run))

      go : (t : Bool) → SameCalled (out t b.registers) (out t ys)
      go true =
          let k = run-start-ignores-unmarked chosen P (bench b.registers) (bench ys) benches in
          record {
            same-result = ap packed k.same_answer;
            alike-after = record {
              same-machine = refl;
              same-marks = k.alike-after.alike.same-marks;
              agree = k.alike-after.alike.agree;
              same-scalars = refl;
              same_memory = k.alike-after.same_memory;
              same-run = ap₂ (λ (v : Reply) (R : Run). cond (done v) (put_run R b.run) b.run) k.same_answer k.same-run;
              same_step = refl;
              same-steps = refl;
              same-file = refl;
            };
          }
      go false = record { same-result = refl; alike-after = kept }

  -- the run and the machine in the blocks
  held : SameRunning (held_running b.run b.machine b.registers b.marks b.memory) (held_running b.run b.machine ys b.marks b.memory)
  held = record { same-run = refl; alike-benches = benches }

  -- written back after turns
  running-same : (n n' : ℕ) (r r' : Running) → n ≡ n' → SameRunning r r'
      → SameCalled (after_turn b (shown_running n b.run b.machine r)) (after_turn (with b ys) (shown_running n' b.run b.machine r'))
  running-same n n' r r' e k = record {
    same-result = e;
    alike-after = record {
      same-machine = ap (λ (m : Machine). put_machine m b.machine) k.alike-benches.alike.same-machine;
      same-marks = k.alike-benches.alike.same-marks;
      agree = k.alike-benches.alike.agree;
      same-scalars = refl;
      same_memory = k.alike-benches.same_memory;
      same-run = ap (λ (R : Run). put_run R b.run) k.same-run;
      same_step = refl;
      same-steps = refl;
      same-file = refl;
    };
  }

  turn-same : SameCalled (called Call.run_turn b) (called Call.run_turn (with b ys))
  unfolding host_turn
  turn-same = go (turn_blocks b.run b.machine)
    where
      out : Bool → List ℕ → Called
      out t xs =
          after_turn b (cond t (shown_turn b.run b.machine (turn_outcome chosen (held_running b.run b.machine xs b.marks b.memory))) (turned_out (packed (reply (Err BadArguments))) b.run b.machine xs b.marks b.memory))

      go : (t : Bool) → SameCalled (out t b.registers) (out t ys)
      go true =
          let k = (turns-ignore-unmarked chosen (held_running b.run b.machine b.registers b.marks b.memory) (held_running b.run b.machine ys b.marks b.memory) held zero).1 in
          running-same _ _ _ _ (ap packed k.same_answer) k.same_after
      go false = record { same-result = refl; alike-after = kept }

  turns_same : (limit : ℕ) → SameCalled (called (Call.run_turns limit) b) (called (Call.run_turns limit) (with b ys))
  unfolding host_turns
  turns_same limit = go (turn_blocks b.run b.machine)
    where
      out : Bool → List ℕ → Called
      out t xs =
          after_turn b (cond t (shown_turns b.run b.machine (turns chosen (held_running b.run b.machine xs b.marks b.memory) limit)) (turned_out 0 b.run b.machine xs b.marks b.memory))

      go : (t : Bool) → SameCalled (out t b.registers) (out t ys)
      go true =
          let k = (turns-ignore-unmarked chosen (held_running b.run b.machine b.registers b.marks b.memory) (held_running b.run b.machine ys b.marks b.memory) held limit).0 in
          running-same _ _ _ _ k.same_count k.same_after
      go false = record { same-result = refl; alike-after = kept }

  run-same : (P : Plan) → SameCalled (called (Call.run P) b) (called (Call.run P) (with b ys))
  unfolding host_run
  run-same P = go (every (eqb (length b.machine) machine_bytes ∷ eqb (length b.steps) 8 ∷ []))
    where
      out : Bool → List ℕ → Called
      out t xs =
          after_run b (cond t (shown_run b.machine b.steps (Whole.whole chosen P (bench xs))) (ran_out (packed (reply (Err BadArguments))) b.machine xs b.marks b.memory b.steps))

      go : (t : Bool) → SameCalled (out t b.registers) (out t ys)
      go true =
          let k = whole-ignores-unmarked chosen P (bench b.registers) (bench ys) benches in
          record {
            same-result = ap packed k.same_answer;
            alike-after = record {
              same-machine = ap₂ (λ (v : Reply) (m : Machine). cond (done v) (put_machine m b.machine) b.machine) k.same_answer k.alike-after.alike.same-machine;
              same-marks = k.alike-after.alike.same-marks;
              agree = k.alike-after.alike.agree;
              same-scalars = refl;
              same_memory = k.alike-after.same_memory;
              same-run = refl;
              same_step = refl;
              same-steps = ap₂ (λ (v : Reply) (n : ℕ). cond (done v) (put_numbers (n ∷ []) b.steps) b.steps) k.same_answer k.same_count;
              same-file = refl;
            };
          }
      go false = record { same-result = refl; alike-after = kept }

  -- ---- images

  one-image : image_of (machine_of b.machine) (seals_in b.machine) b.registers b.marks ≡ image_of (machine_of b.machine) (seals_in b.machine) ys b.marks
  one-image = alike-one-image (bench b.registers) (bench ys) benches.alike

  sound-alike : sound_with (machine_of b.machine) (seals_in b.machine) b.registers b.marks ≡ sound_with (machine_of b.machine) (seals_in b.machine) ys b.marks
  sound-alike = ap (λ (t : Bool). t && seals_fit (seals_in b.machine)) (sound-same (machine_of b.machine) b.registers ys b.marks a.same_length)

  image-size-same : host_image_size b.machine b.registers b.marks ≡ host_image_size b.machine ys b.marks
  unfolding host_image_size size_image
  image-size-same =
      ap₂ (λ (t : Bool) (s : List ℕ).
      let o : SizeOutcome = cond t (size_reply (Ok (length s))) (size_reply (Err Image.BadArguments)) in
      cond (eqb (length b.machine) machine_bytes) (packed_reply o.answer o.size) (packed_reply (image_reply Image.BadArguments) 0))
      sound-alike one-image

  image-write-same : (image : List ℕ) → host_image_write b.machine b.registers b.marks image ≡ host_image_write b.machine ys b.marks image
  unfolding host_image_write write_image
  image-write-same image =
      ap₂ (λ (t : Bool) (s : List ℕ).
      let o : WriteOutcome = cond t (cond (leb (length s) (length image)) (write_reply (Ok (length s)) (s ++ drop (length s) image)) (write_reply (Err Image.NoRoom) image)) (write_reply (Err Image.BadArguments) image) in
      cond (eqb (length b.machine) machine_bytes) (written_out (packed_reply o.answer o.size) o.room) (written_out (packed_reply (image_reply Image.BadArguments) 0) image))
      sound-alike one-image

  image-read-same : (image : List ℕ) → SameCalled (called (Call.image_read image) b) (called (Call.image_read image) (with b ys))
  unfolding host_image_read read_block read_image check_image
  image-read-same image = go (eqb (length b.machine) machine_bytes) (parse image_format image)
    where
      out : Bool → Parsed Described → List ℕ → Called
      out t q xs =
          after_read b (shown_read (cond t (into_block b.machine (read_as q xs b.marks))
          (restored_as (Err (block_refused (verdict_of q))) b.machine xs b.marks)))

      -- an image of which the buffers are of the machine's size, or not
      fits : Described → Bool → List ℕ → Called
      fits d u xs =
          after_read b (shown_read (into_block b.machine (cond u
          (restored (machine_from d.header) d.header.seals (over (cells_in d) xs) (marks_of (cells_in d)))
          (not_restored Image.BadArguments xs b.marks))))

      fit : (d : Described) (u : Bool) → SameCalled (fits d u b.registers) (fits d u ys)
      fit d true = record { same-result = refl; alike-after = agreeing _ _ _ _ _ _ _ _ _ _ (over_agree (cells_in d) b.registers ys a.same_length) }
      fit d false = record { same-result = refl; alike-after = kept }

      go : (t : Bool) (q : Parsed Described) → SameCalled (out t q b.registers) (out t q ys)
      go true (stopped p) = record { same-result = refl; alike-after = kept }
      go true (whole d) =
          subst (λ (u : Bool). SameCalled (out true (whole d) b.registers) (fits d u ys)) (fitted-same d b.registers ys b.marks b.marks a.same_length refl)
          (fit d (fitted d b.registers b.marks))
      go false (whole d) = record { same-result = refl; alike-after = kept }
      go false (stopped p) = record { same-result = refl; alike-after = kept }

  each_same : (c : Call) → SameCalled (called c b) (called c (with b ys))
  each_same (Call.start rlen mlen elen rule seals) = start-same rlen mlen elen rule seals
  each_same (Call.step word group) = step_same word group
  each_same (Call.seal from size) = seal-same from size
  each_same (Call.run_start P) = run-start-same P
  each_same Call.run_next = record { same-result = refl; alike-after = agreeing _ _ _ _ _ _ _ _ _ _ a }
  each_same Call.run_turn = turn-same
  each_same (Call.run_turns limit) = turns_same limit
  each_same (Call.run P) = run-same P
  each_same Call.image_size = record { same-result = image-size-same; alike-after = kept }
  each_same (Call.image_write image) = record { same-result = ap (λ (o : HostWritten). o.result) (image-write-same image); alike-after = kept }
  each_same (Call.image_read image) = image-read-same image
  each_same (Call.write w) = record { same-result = refl; alike-after = agreeing _ _ _ _ _ _ _ _ _ _ a }

pub call-ignores-unmarked : CallIgnoresUnmarked
call-ignores-unmarked c b b' t = subst (λ (d : Buffers). SameCalled (called c b) (called c d)) same (each_same b b'.registers t.agree c)
  where
    same : with b b'.registers ≡ b'
    same = rw (t.same-machine, t.same-marks, t.same-scalars, t.same_memory, t.same-run, t.same_step, t.same-steps, t.same-file)

pub calls-ignore-unmarked : CallsIgnoreUnmarked
calls-ignore-unmarked [] b b' t = tt
calls-ignore-unmarked (c ∷ cs) b b' t =
    let s = call-ignores-unmarked c b b' t in (s, calls-ignore-unmarked cs (called c b).after (called c b').after s.alike-after)

pub image-write-ignores-unmarked : ImageWriteIgnoresUnmarked
image-write-ignores-unmarked image b b' t =
    image-write-same b b'.registers t.agree image
    ∙ ap₂ (λ (machine marks : List ℕ). host_image_write machine b'.registers marks image) t.same-machine t.same-marks

-- ---- from a start on

-- two starts that both pass or both fail each test
abbrev Starts : Called → Called → Type 0
Starts o o' = (o.result ≡ o'.result) × (o.result ≡ 0 → AlikeBuffers o.after o'.after)

module _ (rlen mlen elen rule : ℕ) (seals : List ℕ) (b b' : Buffers) (p : AtPowerUp b b') where
  starts : (t u v : Bool) → eqb (length b.machine) machine_bytes ≡ t → Starts (start_on rlen mlen elen rule seals b t u v) (start_on rlen mlen elen rule seals b' t u v)
  starts true true true e =
      let n : length b.machine ≡ machine_bytes = eqb-true (length b.machine) machine_bytes e in (
        refl,
        λ d. record {
          same-machine = block-fills (fresh_machine rlen mlen elen rule) (ranges seals) b.machine b'.machine n (sym p.machine-length ∙ n);
          same-marks = ap (λ (k : ℕ). replicate k 0) p.marks-length;
          agree = unmarked-agree (length b.marks) b.registers b'.registers p.registers-length;
          same-scalars = p.same-scalars;
          same_memory = p.same_memory;
          same-run = p.same-run;
          same_step = p.same_step;
          same-steps = p.same-steps;
          same-file = p.same-file;
        },
      )
  starts true true false e = (refl, λ d. let z : ◌≡◌ {A = ℕ} 16 0 = d in absurd (omega arith))
  starts true false v e = (refl, λ d. let z : ◌≡◌ {A = ℕ} 8 0 = d in absurd (omega arith))
  starts false u v e = (refl, λ d. let z : ◌≡◌ {A = ℕ} 8 0 = d in absurd (omega arith))

  both : Starts (called (Call.start rlen mlen elen rule seals) b) (called (Call.start rlen mlen elen rule seals) b')
  unfolding host_start start_machine
  both =
      subst (λ (t : Bool). Starts (called (Call.start rlen mlen elen rule seals) b) (start_on rlen mlen elen rule seals b' t (startable rlen mlen elen rule seals b'.registers b'.marks) (few seals)))
      (ap (λ (n : ℕ). eqb n machine_bytes) p.machine-length)
      (subst (λ (u : Bool). Starts (called (Call.start rlen mlen elen rule seals) b) (start_on rlen mlen elen rule seals b' (eqb (length b.machine) machine_bytes) u (few seals)))
      (startable-same rlen mlen elen rule seals b.registers b'.registers b.marks b'.marks p.registers-length p.marks-length)
      (starts (eqb (length b.machine) machine_bytes) (startable rlen mlen elen rule seals b.registers b.marks) (few seals) refl))

pub power-up-never-matters-to-hosts : PowerUpNeverMattersToHosts
power-up-never-matters-to-hosts rlen mlen elen rule seals b b' p =
    let s = both rlen mlen elen rule seals b b' p in
    record {
      same-result = s.0;
      alike-after = s.1;
      same-calls = λ d cs. calls-ignore-unmarked cs (called (Call.start rlen mlen elen rule seals) b).after (called (Call.start rlen mlen elen rule seals) b').after (s.1 d);
    }

-- ---- from the reading of an image on

arguments-refuse : ¬ (packed_reply (image_reply Image.BadArguments) 0 ≡ 0)
unfolding packed_reply
arguments-refuse e = let z : ◌≡◌ {A = ℕ} 8 0 = e in absurd (omega arith)

damage-refuses : (p : ℕ) → ¬ (packed_reply (image_reply (Image.Damaged p)) 0 ≡ 0)
unfolding packed_reply
damage-refuses p e = omega (arith, e)

module _ (image : List ℕ) (b b' : Buffers) (p : AtPowerUp b b') where
  -- what a read leaves, by its test on the machine's block
  abbrev read_on : Buffers → Bool → Parsed Described → Called
  read_on c t q =
      after_read c (shown_read (cond t (into_block c.machine (read_as q c.registers c.marks))
      (restored_as (Err (block_refused (verdict_of q))) c.machine c.registers c.marks)))

  -- and of an image, by that on the other buffers
  abbrev fits_on : Buffers → Described → Bool → Called
  fits_on c d u =
      after_read c (shown_read (into_block c.machine (cond u
      (restored (machine_from d.header) d.header.seals (over (cells_in d) c.registers) (marks_of (cells_in d)))
      (not_restored Image.BadArguments c.registers c.marks))))

  fits_both : (d : Described) (u : Bool) → length b.machine ≡ machine_bytes → Starts (fits_on b d u) (fits_on b' d u)
  fits_both d true n = (
    refl,
    λ z. record {
      same-machine = read-fills (machine_from d.header) d.header.seals b.machine b'.machine n (sym p.machine-length ∙ n);
      same-marks = refl;
      agree = over_agree (cells_in d) b.registers b'.registers p.registers-length;
      same-scalars = p.same-scalars;
      same_memory = p.same_memory;
      same-run = p.same-run;
      same_step = p.same_step;
      same-steps = p.same-steps;
      same-file = p.same-file;
    },
  )
  fits_both d false n = (refl, λ z. absurd (arguments-refuse z))

  reads : (t : Bool) → eqb (length b.machine) machine_bytes ≡ t → (q : Parsed Described) → Starts (read_on b t q) (read_on b' t q)
  reads true e (whole d) =
      subst (λ (u : Bool). Starts (read_on b true (whole d)) (fits_on b' d u)) (fitted-same d b.registers b'.registers b.marks b'.marks p.registers-length p.marks-length)
      (fits_both d (fitted d b.registers b.marks) (eqb-true (length b.machine) machine_bytes e))
  reads true e (stopped k) = (refl, λ z. absurd (damage-refuses k z))
  reads false e (whole d) = (refl, λ z. absurd (arguments-refuse z))
  reads false e (stopped k) = (refl, λ z. absurd (damage-refuses k z))

  both_read : Starts (called (Call.image_read image) b) (called (Call.image_read image) b')
  unfolding host_image_read read_block read_image check_image
  both_read =
      subst (λ (t : Bool). Starts (called (Call.image_read image) b) (read_on b' t (parse image_format image)))
      (ap (λ (n : ℕ). eqb n machine_bytes) p.machine-length)
      (reads (eqb (length b.machine) machine_bytes) refl (parse image_format image))

pub power-up-never-matters-to-readers : PowerUpNeverMattersToReaders
power-up-never-matters-to-readers image b b' p =
    let s = both_read image b b' p in
    record {
      same-result = s.0;
      alike-after = s.1;
      same-calls = λ d cs. calls-ignore-unmarked cs (called (Call.image_read image) b).after (called (Call.image_read image) b').after (s.1 d);
    }
