-- Demand 2 over calls: each leaves the seal in the machine's block and the sealed bytes of memory.
use Rattle.std.specs.Prelude.{Err}
use Rattle.numbers.proofs.Kit.{◌≡◌, refl, sym, ap, ◌∙◌, subst, Bool, true, false, cond, ◌||◌, ◌&&◌, false≢true, List, [], ◌∷◌, ◌++◌, ℕ, arith, eqb, leb}
use Rattle.numbers.proofs.Kit.{ltb, length, get_or, replicate, eqb-true, eqb-false, eq-eqb, Err}
use Rattle.machine.specs.declared.Machine.{Machine}
use Rattle.machine.specs.declared.Refusal.TheVariants.{BadArguments, TooManySeals}
use Rattle.machine.specs.Tests.{all, every}
use Rattle.machine.specs.Answers.{reply, done, is_done, verdict, Answer, Done}
use Rattle.machine.specs.Geometry.{Range, range, Bench, bench_of}
use Rattle.machine.specs.Setting.{chosen}
use Rattle.machine.specs.Starting.{seal_ends, most_seals, ranges, startable, start_checks, StartOutcome, started_as, start_machine, fresh_machine, no_machine}
use Rattle.machine.specs.Faults.{sound, sound_bench, seals_fit}
use Rattle.machine.specs.Sealing.{add_seal, seal_checks, with_seal}
use Rattle.machine.specs.Vectors.{vectors_of, idle}
use Rattle.machine.specs.Step.{vector_step}
use Rattle.machine.specs.Theorems.{Extends, Unharmed}
use Rattle.machine.proofs.TestLaws.{every-each, and_left, and_right}
use Rattle.machine.proofs.NoFault.{sound-is, bench-sound, bench-seals, seal-keeps-sound, start-sound}
use Rattle.machine.proofs.Sealing.{stay, stay_then, stays-sealed, step-with-unharmed}
use Rattle.run.specs.declared.Plan.{Plan}
use Rattle.run.specs.Words.{steps}
use Rattle.run.specs.Plan.{shape}
use Rattle.run.specs.Start.{start_run}
use Rattle.run.specs.Turn.{Running, turn, turn_outcome, turns, after_turns}
use Rattle.run.specs.Statement.{job_of, started_run}
use Rattle.run.specs.Whole as Whole
use Rattle.run.specs.Acts.{Act, session}
use Rattle.run.specs.Theorems.{SealKept}
use Rattle.run.proofs.Demand1.{run-start-changes-nothing}
use Rattle.run.proofs.Demand2.{seal-holds-over-acts}
use Rattle.unit_ranges.specs.Ranges.{count_in, range_at, well_formed, seals_in, put_seals}
use Rattle.unit_ranges.proofs.RangeLaws.{shape-holds}
use Rattle.unit_ranges.proofs.PutLaws.{length-put_seals, put_seals-seals}
use Rattle.unit_sealing.specs.SealBlock.{seal_block}
use Rattle.c_blocks.specs.Blocks.{machine_bytes, machine_of, put_machine, packed, values_of}
use Rattle.c_run_blocks.specs.RunBlocks.{run_bytes, run_fit, run_of}
use Rattle.c_blocks.proofs.BlockLaws.{Words, machine_of-put_machine, length-put_machine, put_machine-seals, machine_of-put_seals}
use Rattle.c_scalars.specs.ScalarBlock.{step_block}
use Rattle.c_step.proofs.Refusal.{start-refusal}
use Rattle.c_step.specs.BenchCalls.{HostStarted, started_out, shown_start, host_start, stepped_out, shown_step, host_step, sealed_out, host_seal}
use Rattle.c_run.specs.RunCalls.{run_started_out, shown_run_start, host_run_start}
use Rattle.c_turn.specs.TurnCalls.{turn_blocks, held_running, turned_out, shown_turn, host_turn, shown_turns, host_turns, ran_out, shown_run, host_run}
use Rattle.image.specs.declared.ImageError.{ImageError}
use Rattle.image.specs.declared.ImageError.TheVariants as Image
use Rattle.image.specs.Answers.{ImageReply, image_reply, image_done}
use Rattle.numbers_format.specs.Numbers as Images
use Rattle.numbers_format.specs.Parser.{Parsed, parse}
use Rattle.numbers_format.specs.Parser.Parsed.{whole, stopped}
use Rattle.image.specs.Cells.{over, marks_of}
use Rattle.image.specs.Images.{machine_from}
use Rattle.image.specs.ImageFormat.{Described, image_format}
use Rattle.image.proofs.Images.{read-makes}
use Rattle.image_read.specs.Blocks.{BlockOutcome, restored_as, block_refused, into_block, read_block}
use Rattle.image.specs.Reading.{check_image, ReadOutcome, restored, cells_in, fitted, read_as, read_image, not_restored}
use Rattle.c_image.specs.ImageCalls.{packed_reply, shown_read, host_image_read}
use Rattle.theorem_calls.specs.Calls.{Buffers, buffers, Call, Called, after_start, after_step, after_seal, after_run_start, after_turn, after_run, after_read, called}
use Rattle.theorem_calls.specs.Composed.{after_calls, bench_in, SealedIn, SparesSeal, EachSparesSeal, SealHoldsOverCalls, SealHoldsFromStartCall, SealHoldsFromReadCall, StartCallHolds, ReadCallHolds}
use Rattle.theorem_calls.proofs.Written.{put_machine-words}
use Rattle.theorem_calls.proofs.Numbers.{machine-words, sound-words, step-with-words, turn-machine, turns-machine}

-- ---- blocks of another length, and starts

-- a block of another length holds a state at fault
pub holds-none : (b : Buffers) → eqb (length b.machine) machine_bytes ≡ false → sound_bench (bench_in b) ≡ false
unfolding well_formed
holds-none b e = go (sound_bench (bench_in b)) refl
  where
    go : (t : Bool) → sound_bench (bench_in b) ≡ t → t ≡ false
    go false h = refl
    go true h =
        let w = shape-holds b.machine (bench-seals (bench_in b) h) in
        let rest : List Bool = leb (count_in b.machine) most_seals ∷ all most_seals (λ i. ltb i (count_in b.machine) || (eqb (range_at b.machine i).start 0 && eqb (range_at b.machine i).size 0)) ∷ [] in
        sym (every-each (eqb (length b.machine) machine_bytes ∷ rest) w).0 ∙ e

-- what an accepted start leaves
pub record Started (rlen mlen elen rule : ℕ) (seals : List ℕ) (b : Buffers) (o : Called) : Type 0 where
  pub leaves : start_machine rlen mlen elen rule seals b.registers b.marks
      ≡ started_as (record { answer = Done; machine = fresh_machine rlen mlen elen rule }) seals b.registers (replicate (length b.marks) 0)
  pub words : Words (machine_of o.after.machine)
  pub made : machine_of o.after.machine ≡ fresh_machine rlen mlen elen rule
  pub holds : seals_in o.after.machine ≡ ranges seals
  pub rest : o.after ≡ buffers o.after.machine b.registers (replicate (length b.marks) 0) b.scalars b.memory b.run b.step b.steps b.file

pub was-started : (rlen mlen elen rule : ℕ) (seals : List ℕ) (b : Buffers) → let o = called (Call.start rlen mlen elen rule seals) b in o.result ≡ 0 → Started rlen mlen elen rule seals b o
unfolding host_start start_machine
was-started rlen mlen elen rule seals b =
    go (eqb (length b.machine) machine_bytes) (startable rlen mlen elen rule seals b.registers b.marks) (leb (length (ranges seals)) most_seals) refl refl refl
  where
    fresh : Machine
    fresh = fresh_machine rlen mlen elen rule

    started : Answer → StartOutcome
    started a =
        cond (is_done a)
        (started_as (record { answer = a; machine = fresh }) seals b.registers (replicate (length b.marks) 0))
        (started_as (record { answer = a; machine = no_machine }) seals b.registers b.marks)

    out : Bool → Bool → Bool → Called
    out t u v =
        after_start b (cond t (shown_start b.machine (started (cond u (cond v Done (Err TooManySeals)) (Err BadArguments))))
        (started_out (packed (reply (Err BadArguments))) b.machine b.registers b.marks))

    -- what is started is not at fault
    sound-start : startable rlen mlen elen rule seals b.registers b.marks ≡ true → leb (length (ranges seals)) most_seals ≡ true
        → sound_bench (bench_of fresh (ranges seals) b.registers (replicate (length b.marks) 0) b.memory) ≡ true
    sound-start f g =
        let v : verdict (start_checks rlen mlen elen rule seals b.registers b.marks) ≡ Done = rw (f, g) in
        subst (λ (a : Answer). sound_bench (bench_of (started a).machine (started a).seals (started a).registers (started a).marks b.memory) ≡ true) v
        (start-sound rlen mlen elen rule seals b.registers b.marks b.memory (ap (λ (a : Answer). (started a).answer.number) v))

    go : (t u v : Bool) → eqb (length b.machine) machine_bytes ≡ t → startable rlen mlen elen rule seals b.registers b.marks ≡ u → leb (length (ranges seals)) most_seals ≡ v
        → (out t u v).result ≡ 0 → Started rlen mlen elen rule seals b (out t u v)
    go true true true e f g z =
        let B : Bench = bench_of fresh (ranges seals) b.registers (replicate (length b.marks) 0) b.memory in
        let k = sound-start f g in
        let l : length b.machine ≡ machine_bytes = eqb-true (length b.machine) machine_bytes e in
        let w : Words fresh = sound-words fresh b.registers B.marks (sound-is fresh b.registers B.marks (bench-sound B k)) in
        let m : machine_of (out true true true).after.machine ≡ fresh = machine_of-put_seals (ranges seals) (put_machine fresh b.machine) ∙ machine_of-put_machine fresh b.machine w l in
        let v : verdict (start_checks rlen mlen elen rule seals b.registers b.marks) ≡ Done = rw (f, g) in
        record {
          leaves = ap started v;
          words = subst Words (sym m) w;
          made = m;
          holds = put_seals-seals (ranges seals) (put_machine fresh b.machine) (length-put_machine fresh b.machine ∙ l) (bench-seals B k);
          rest = refl;
        }
    go true true false e f g z = let y : ◌≡◌ {A = ℕ} 16 0 = z in absurd (omega arith)
    go true false v e f g z = let y : ◌≡◌ {A = ℕ} 8 0 = z in absurd (omega arith)
    go false u v e f g z = let y : ◌≡◌ {A = ℕ} 8 0 = z in absurd (omega arith)

-- ---- what a call has to show

-- of the machine's block and the memory that it leaves: numbers of 64 bits, the ranges as they were, and the bytes that were sealed
pub record Safe (b : Buffers) (machine memory : List ℕ) : Type 0 where
  pub words : Words (machine_of machine)
  ranges-stay : Extends (seals_in b.machine) (seals_in machine)
  same_bytes : (q : ℕ) → SealedIn b q → get_or memory q 0 ≡ get_or b.memory q 0

module _ (b : Buffers) (w : Words (machine_of b.machine)) where
  -- the machine's block stays
  stays : (memory : List ℕ) → ((q : ℕ) → SealedIn b q → get_or memory q 0 ≡ get_or b.memory q 0) → Safe b b.machine memory
  stays memory h = record { words = w; ranges-stay = stay (seals_in b.machine); same_bytes = h }

  unchanged : Safe b b.machine b.memory
  unchanged = stays b.memory (λ q x. refl)

  -- the machine's numbers are written over their block
  written : (C : Bench) → length b.machine ≡ machine_bytes → Words C.machine → Unharmed chosen (bench_in b) C
      → Safe b (put_machine C.machine b.machine) C.memory
  written C l v u = record {
    words = subst Words (sym (machine_of-put_machine C.machine b.machine v l)) v;
    ranges-stay = subst (λ (rs : List Range). Extends (seals_in b.machine) rs) (sym (put_machine-seals C.machine b.machine)) (stay (seals_in b.machine));
    same_bytes = u.same_bytes;
  }

  -- ---- one call

  abbrev SafeAfter : Called → Type 0
  SafeAfter o = Safe b o.after.machine o.after.memory

  first-length : (ts : List Bool) → every (eqb (length b.machine) machine_bytes ∷ ts) ≡ true → length b.machine ≡ machine_bytes
  first-length ts h = eqb-true (length b.machine) machine_bytes (every-each (eqb (length b.machine) machine_bytes ∷ ts) h).0

  step-safe : (word group : ℕ) → SafeAfter (called (Call.step word group) b)
  unfolding host_step
  step-safe word group = go (every (eqb (length b.machine) machine_bytes ∷ eqb (length b.scalars) 256 ∷ [])) refl
    where
      out : Bool → Called
      out t =
          after_step b (cond t (shown_step b.machine (step_block word b.scalars (vectors_of b.file group) (bench_in b)))
          (stepped_out (packed (reply (Err BadArguments))) b.machine b.registers b.marks b.scalars b.memory b.file))

      go : (t : Bool) → every (eqb (length b.machine) machine_bytes ∷ eqb (length b.scalars) 256 ∷ []) ≡ t → SafeAfter (out t)
      go true h =
          written (vector_step word (values_of b.scalars) (vectors_of b.file group) (bench_in b)).bench (first-length (eqb (length b.scalars) 256 ∷ []) h)
          (step-with-words word (values_of b.scalars) (vectors_of b.file group) (bench_in b) w) (step-with-unharmed chosen word (values_of b.scalars) (vectors_of b.file group) (bench_in b))
      go false h = unchanged

  -- a range that is sealed comes behind the others
  pub seal-safe : (start size : ℕ) → SafeAfter (called (Call.seal start size) b)
  unfolding host_seal seal_block add_seal
  seal-safe start size = go (eqb (length b.machine) machine_bytes) refl
    where
      B : Bench
      B = bench_of (machine_of b.machine) (seals_in b.machine) b.registers b.marks []

      block : Answer → List ℕ
      block a = cond (done (reply a)) (put_seals (cond (is_done a) (with_seal start size B) B).seals b.machine) b.machine

      out : Bool → Called
      out t =
          after_seal b (cond t (sealed_out (packed (reply (verdict (seal_checks start size B)))) (block (verdict (seal_checks start size B))) b.registers b.marks)
          (sealed_out (packed (reply (Err BadArguments))) b.machine b.registers b.marks))

      more : List Range
      more = seals_in b.machine ++ (range start size ∷ [])

      kept : sound_bench B ≡ true → seal_ends start size ≡ true → ltb (length B.seals) most_seals ≡ true → sound_bench (with_seal start size B) ≡ true
      kept hs he hf =
          let v : verdict (seal_checks start size B) ≡ Done = rw (hs, he, hf) in
          subst (λ (a : Answer). sound_bench (cond (is_done a) (with_seal start size B) B) ≡ true) v (seal-keeps-sound start size B hs)

      by : (s e f : Bool) → sound_bench B ≡ s → seal_ends start size ≡ e → ltb (length B.seals) most_seals ≡ f → length b.machine ≡ machine_bytes
          → Safe b (block (cond s (cond e (cond f Done (Err TooManySeals)) (Err BadArguments)) (Err BadArguments))) b.memory
      by true true true hs he hf l =
          let fit : seals_fit more ≡ true = bench-seals (with_seal start size B) (kept hs he hf) in
          record {
            words = subst Words (sym (machine_of-put_seals more b.machine)) w;
            ranges-stay = record { added = range start size ∷ []; behind = put_seals-seals more b.machine l fit };
            same_bytes = λ q x. refl;
          }
      by true true false hs he hf l = unchanged
      by true false f hs he hf l = unchanged
      by false e f hs he hf l = unchanged

      go : (t : Bool) → eqb (length b.machine) machine_bytes ≡ t → SafeAfter (out t)
      go true h = by (sound_bench B) (seal_ends start size) (ltb (length B.seals) most_seals) refl refl refl (eqb-true (length b.machine) machine_bytes h)
      go false h = unchanged

  run-start-safe : (P : Plan) → SafeAfter (called (Call.run_start P) b)
  unfolding host_run_start
  run-start-safe P = go (every (eqb (length b.machine) machine_bytes ∷ eqb (length b.run) run_bytes ∷ []))
    where
      out : Bool → Called
      out t =
          after_run_start b (cond t (shown_run_start b.machine b.run (start_run chosen P (bench_in b)))
          (run_started_out (packed (reply (Err BadArguments))) b.machine b.registers b.marks b.memory b.run))

      go : (t : Bool) → SafeAfter (out t)
      go true = stays (start_run chosen P (bench_in b)).bench.memory (λ q x. ap (λ (C : Bench). get_or C.memory q 0) (run-start-changes-nothing chosen P (bench_in b)))
      go false = unchanged

  -- the run and the machine in the blocks
  abbrev r : Running
  r = held_running b.run b.machine b.registers b.marks b.memory

  blocks-length : turn_blocks b.run b.machine ≡ true → length b.machine ≡ machine_bytes
  blocks-length h = eqb-true (length b.machine) machine_bytes (every-each (run_fit b.run ∷ eqb (length b.machine) machine_bytes ∷ []) h).1.0

  turn-safe : SafeAfter (called Call.run_turn b)
  unfolding host_turn
  turn-safe = go (turn_blocks b.run b.machine) refl
    where
      out : Bool → Called
      out t =
          after_turn b (cond t (shown_turn b.run b.machine (turn_outcome chosen r))
          (turned_out (packed (reply (Err BadArguments))) b.run b.machine b.registers b.marks b.memory))

      go : (t : Bool) → turn_blocks b.run b.machine ≡ t → SafeAfter (out t)
      go true h =
          written (turn chosen r).after.bench (blocks-length h) (turn-machine r w)
          (seal-holds-over-acts chosen (Act.run_turn ∷ []) (session (bench_in b) [] idle (run_of b.run)))
      go false h = unchanged

  turns-safe : (limit : ℕ) → SafeAfter (called (Call.run_turns limit) b)
  unfolding host_turns
  turns-safe limit = go (turn_blocks b.run b.machine) refl
    where
      out : Bool → Called
      out t =
          after_turn b (cond t (shown_turns b.run b.machine (turns chosen r limit))
          (turned_out 0 b.run b.machine b.registers b.marks b.memory))

      go : (t : Bool) → turn_blocks b.run b.machine ≡ t → SafeAfter (out t)
      go true h =
          written (after_turns chosen r limit).bench (blocks-length h) (turns-machine r w limit)
          (seal-holds-over-acts chosen (Act.run_turns limit ∷ []) (session (bench_in b) [] idle (run_of b.run)))
      go false h = unchanged

  run-safe : (P : Plan) → SafeAfter (called (Call.run P) b)
  unfolding host_run
  run-safe P = go (every (eqb (length b.machine) machine_bytes ∷ eqb (length b.steps) 8 ∷ [])) refl
    where
      C : Bench
      C = (Whole.whole chosen P (bench_in b)).bench

      unharmed : Unharmed chosen (bench_in b) C
      unharmed = seal-holds-over-acts chosen (Act.run P ∷ []) (session (bench_in b) [] idle (run_of b.run))

      words : Words C.machine
      words =
          turns-machine (started_run chosen P (bench_in b)) (subst (λ (D : Bench). Words D.machine) (sym (run-start-changes-nothing chosen P (bench_in b))) w)
          (steps (shape (job_of chosen P (bench_in b))))

      out : Bool → Called
      out t =
          after_run b (cond t (shown_run b.machine b.steps (Whole.whole chosen P (bench_in b)))
          (ran_out (packed (reply (Err BadArguments))) b.machine b.registers b.marks b.memory b.steps))

      -- after a run that is done, and after one that is not
      shown : (t : Bool) → length b.machine ≡ machine_bytes → Safe b (cond t (put_machine C.machine b.machine) b.machine) C.memory
      shown true l = written C l words unharmed
      shown false l = stays C.memory unharmed.same_bytes

      go : (t : Bool) → every (eqb (length b.machine) machine_bytes ∷ eqb (length b.steps) 8 ∷ []) ≡ t → SafeAfter (out t)
      go true h = shown (done (Whole.whole chosen P (bench_in b)).answer) (first-length (eqb (length b.steps) 8 ∷ []) h)
      go false h = unchanged

  -- the machine that an image has, and else the one that was
  read-words : (image : List ℕ) → Words (machine_of (called (Call.image_read image) b).after.machine)
  unfolding host_image_read read_block
  read-words image = go (eqb (length b.machine) machine_bytes) refl
    where
      o : ReadOutcome
      o = read_image image b.registers b.marks

      out : Bool → BlockOutcome
      out t = cond t (into_block b.machine o) (restored_as (Err (block_refused (check_image image))) b.machine b.registers b.marks)

      shown : (t : Bool) → length b.machine ≡ machine_bytes
          → Words (machine_of (cond t (put_machine o.machine (cond t (put_seals o.seals b.machine) b.machine)) (cond t (put_seals o.seals b.machine) b.machine)))
      shown true l = put_machine-words o.machine (put_seals o.seals b.machine) (length-put_seals o.seals b.machine ∙ l)
      shown false l = w

      refused : (t : Bool) → eqb (image_reply (block_refused (check_image image))).number 0 ≡ t → Words (machine_of (cond t (put_machine no_machine b.machine) b.machine))
      refused true e = absurd (never (block_refused (check_image image)) e)
        where
          never : (a : ImageError) → eqb (image_reply a).number 0 ≡ true → ⊥
          never Image.BadArguments h = false≢true h
          never Image.NoRoom h = false≢true h
          never (Image.Damaged p) h = false≢true h
      refused false e = w

      go : (t : Bool) → eqb (length b.machine) machine_bytes ≡ t → Words (machine_of (after_read b (shown_read (out t))).after.machine)
      go true e = shown (eqb o.answer.number 0) (eqb-true (length b.machine) machine_bytes e)
      go false e = refused (eqb (image_reply (block_refused (check_image image))).number 0) refl

  -- the machine that was started, and else the one that was
  start-words : (rlen mlen elen rule : ℕ) (seals : List ℕ) → Words (machine_of (called (Call.start rlen mlen elen rule seals) b).after.machine)
  start-words rlen mlen elen rule seals = go (eqb (called (Call.start rlen mlen elen rule seals) b).result 0) refl
    where
      o : Called
      o = called (Call.start rlen mlen elen rule seals) b

      go : (t : Bool) → eqb o.result 0 ≡ t → Words (machine_of o.after.machine)
      go true e = (was-started rlen mlen elen rule seals b (eqb-true o.result 0 e)).words
      go false e =
          subst (λ (m : List ℕ). Words (machine_of m))
          (sym (ap (λ (h : HostStarted). h.machine) (start-refusal rlen mlen elen rule seals b.machine b.registers b.marks (eqb-false o.result 0 e)))) w

  call-safe : (c : Call) → SparesSeal c b → SafeAfter (called c b)
  call-safe (Call.start rlen mlen elen rule seals) h = record { words = start-words rlen mlen elen rule seals; ranges-stay = h; same_bytes = λ q x. refl }
  call-safe (Call.step word group) h = step-safe word group
  call-safe (Call.seal from size) h = seal-safe from size
  call-safe (Call.run_start P) h = run-start-safe P
  call-safe Call.run_next h = unchanged
  call-safe Call.run_turn h = turn-safe
  call-safe (Call.run_turns limit) h = turns-safe limit
  call-safe (Call.run P) h = run-safe P
  call-safe Call.image_size h = unchanged
  call-safe (Call.image_write image) h = unchanged
  call-safe (Call.image_read image) h = record { words = read-words image; ranges-stay = h; same_bytes = λ q x. refl }
  call-safe (Call.write v) h = subst (λ (machine : List ℕ). Safe b machine v.memory) (sym h.0) (stays v.memory h.1)

-- ---- one call after another

abbrev Keeps : Buffers → Bench → Type 0
Keeps b C = SealKept (seals_in b.machine) b.memory C

then : (b c : Buffers) (D : Bench) → Safe b c.machine c.memory → Keeps c D → Keeps b D
then b c D k l = record {
  ranges-stay = stay_then k.ranges-stay l.ranges-stay;
  same_bytes = λ q x. l.same_bytes q (stays-sealed k.ranges-stay q x) ∙ k.same_bytes q x;
}

calls-keep : (cs : List Call) (b : Buffers) → Words (machine_of b.machine) → EachSparesSeal cs b → Keeps b (bench_in (after_calls cs b))
calls-keep [] b w h = record { ranges-stay = stay (seals_in b.machine); same_bytes = λ q x. refl }
calls-keep (c ∷ cs) b w h =
    let d : Buffers = (called c b).after in
    let k : Safe b d.machine d.memory = call-safe b w c h.0 in
    then b d (bench_in (after_calls cs d)) k (calls-keep cs d k.words h.1)

pub seal-holds-over-calls : SealHoldsOverCalls
seal-holds-over-calls cs b small = calls-keep cs b (machine-words b.machine small)

-- ---- from a start on

-- buffers with a machine in the block: its ranges are what is sealed
pub from_block : (rs : List Range) (b : Buffers) (cs : List Call) → Words (machine_of b.machine) → seals_in b.machine ≡ rs → EachSparesSeal cs b
    → SealKept rs b.memory (bench_in (after_calls cs b))
from_block rs b cs w e h = subst (λ (x : List Range). SealKept x b.memory (bench_in (after_calls cs b))) e (calls-keep cs b w h)

pub seal-holds-from-start-call : SealHoldsFromStartCall
seal-holds-from-start-call rlen mlen elen rule seals b z cs h =
    let o : Called = called (Call.start rlen mlen elen rule seals) b in
    let k = was-started rlen mlen elen rule seals b z in
    subst (λ (memory : List ℕ). SealKept (ranges seals) memory (bench_in (after_calls cs o.after))) (ap (λ (a : Buffers). a.memory) k.rest) (from_block (ranges seals) o.after cs k.words k.holds h)

pub start-call-holds : StartCallHolds
start-call-holds rlen mlen elen rule seals b z = (was-started rlen mlen elen rule seals b z).holds

-- ---- from a read on

number-zero : (a : ImageReply) → packed_reply a 0 ≡ 0 → a.number ≡ 0
unfolding packed_reply
number-zero a e = omega (arith, e)

never_done : (a : ImageError) → (image_reply a).number ≡ 0 → ⊥
never_done Image.BadArguments h = let z : ◌≡◌ {A = ℕ} 8 0 = h in omega arith
never_done Image.NoRoom h = let z : ◌≡◌ {A = ℕ} 14 0 = h in omega arith
never_done (Image.Damaged p) h = let z : ◌≡◌ {A = ℕ} 15 0 = h in omega arith

read_done : (q : Parsed Described) (registers marks : List ℕ) → (read_as q registers marks).answer.number ≡ 0 → (read_as q registers marks).answer ≡ image_done
read_done (stopped p) registers marks h = let z : ◌≡◌ {A = ℕ} 15 0 = h in absurd (omega arith)
read_done (whole d) registers marks h = go (fitted d registers marks) h
  where
    out : Bool → ReadOutcome
    out t = cond t (restored (machine_from d.header) d.header.seals (over (cells_in d) registers) (marks_of (cells_in d))) (not_restored Image.BadArguments registers marks)

    go : (t : Bool) → (out t).answer.number ≡ 0 → (out t).answer ≡ image_done
    go true h = refl
    go false h = let z : ◌≡◌ {A = ℕ} 8 0 = h in absurd (omega arith)

-- what an accepted read leaves
pub record Read (image : List ℕ) (b : Buffers) (o : Called) : Type 0 where
  pub done : (read_image image b.registers b.marks).answer ≡ image_done
  pub words : Words (machine_of o.after.machine)
  pub made : machine_of o.after.machine ≡ (read_image image b.registers b.marks).machine
  pub holds : seals_in o.after.machine ≡ (read_image image b.registers b.marks).seals
  pub long : length o.after.machine ≡ machine_bytes
  pub rest : o.after ≡ buffers o.after.machine (read_image image b.registers b.marks).registers (read_image image b.registers b.marks).marks b.scalars b.memory b.run b.step b.steps b.file

pub was_read : (image : List ℕ) (b : Buffers) → Images.ByteString image → let o = called (Call.image_read image) b in o.result ≡ 0 → Read image b o
unfolding host_image_read read_block read_image
was_read image b small = go (eqb (length b.machine) machine_bytes) refl
  where
    o : ReadOutcome
    o = read_image image b.registers b.marks

    out : Bool → Called
    out t =
        after_read b (shown_read (cond t (into_block b.machine o)
        (restored_as (Err (block_refused (check_image image))) b.machine b.registers b.marks)))

    go : (t : Bool) → eqb (length b.machine) machine_bytes ≡ t → (out t).result ≡ 0 → Read image b (out t)
    go true e z =
        let n : o.answer.number ≡ 0 = number-zero o.answer z in
        let d = read_done (parse image_format image) b.registers b.marks n in
        let m = read-makes image b.registers b.marks small d in
        let l : length b.machine ≡ machine_bytes = eqb-true (length b.machine) machine_bytes e in
        let fit = and_right (sound o.machine o.registers o.marks) (seals_fit o.seals) m.not-at-fault in
        let w : Words o.machine =
        sound-words o.machine o.registers o.marks (sound-is o.machine o.registers o.marks (and_left (sound o.machine o.registers o.marks) (seals_fit o.seals) m.not-at-fault)) in
        let long : length (put_seals o.seals b.machine) ≡ machine_bytes = length-put_seals o.seals b.machine ∙ l in
        let is : (out true).after.machine ≡ put_machine o.machine (put_seals o.seals b.machine) = rw (eq-eqb o.answer.number 0 n) in
        let made : machine_of (out true).after.machine ≡ o.machine = ap machine_of is ∙ machine_of-put_machine o.machine (put_seals o.seals b.machine) w long in
        record {
          done = d;
          words = subst Words (sym made) w;
          made = made;
          holds = ap seals_in is ∙ put_machine-seals o.machine (put_seals o.seals b.machine) ∙ put_seals-seals o.seals b.machine l fit;
          long = ap length is ∙ length-put_machine o.machine (put_seals o.seals b.machine) ∙ long;
          rest = refl;
        }
    go false e z = absurd (never_done (block_refused (check_image image)) (number-zero (image_reply (block_refused (check_image image))) z))

pub seal-holds-from-read-call : SealHoldsFromReadCall
seal-holds-from-read-call image b small z cs h =
    let o : Called = called (Call.image_read image) b in
    let k = was_read image b small z in
    subst (λ (memory : List ℕ). SealKept (read_image image b.registers b.marks).seals memory (bench_in (after_calls cs o.after))) (ap (λ (a : Buffers). a.memory) k.rest)
    (from_block (read_image image b.registers b.marks).seals o.after cs k.words k.holds h)

pub read-call-holds : ReadCallHolds
read-call-holds image b small z = (was_read image b small z).holds
