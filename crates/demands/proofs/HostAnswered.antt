-- Whatever a host calls is answered with a number of the table, and a refusal changes no byte.
use Rattle.std.specs.Prelude.{Err}
use Rattle.numbers.proofs.Kit.{◌≡◌, refl, sym, ap, ap₂, ◌∙◌, subst, Bool, true, false, cond, List, [], ◌∷◌, ◌++◌, Option, none, some, ℕ, suc, ◌+◌, ◌*◌, ◌%◌}
use Rattle.numbers.proofs.Kit.{◌^◌, ◌≤◌, ◌<◌, arith, leb, eqb, length, drop, eqb-true, eqb-false, Err}
use Rattle.numbers_format.specs.Parser.{Parsed}
use Rattle.numbers_format.specs.Parser.Parsed.{whole, stopped}
use Rattle.machine.specs.declared.Refusal.TheVariants.{BadArguments}
use Rattle.machine.specs.declared.Reply.{Reply}
use Rattle.machine.specs.declared.Wrong.TheVariants.{Opcode, LeftOut, Unlisted, Register}
use Rattle.machine.specs.Tests.{every}
use Rattle.machine.specs.Answers.{reply, done}
use Rattle.machine.specs.Geometry.{Bench, bench_of}
use Rattle.machine.specs.Setting.{chosen}
use Rattle.machine.specs.Starting.{no_machine, start_machine}
use Rattle.machine.specs.Sealing.{add_seal}
use Rattle.machine.specs.Listing.{decode}
use Rattle.machine.specs.Vectors.{vectors_of}
use Rattle.machine.proofs.TestLaws.{every-each}
use Rattle.unit_ranges.specs.Ranges.{seals_in}
use Rattle.unit_sealing.specs.SealBlock.{seal_block}
use Rattle.run.specs.declared.Plan.{Plan}
use Rattle.run.specs.Start.{start_run}
use Rattle.run.specs.Turn.{ask, asked, Running, turn, turn_outcome, after_turns, turns}
use Rattle.run.specs.Whole as run
use Rattle.run.proofs.Demand1.{turn-refusal-changes-nothing}
use Rattle.c_blocks.specs.Blocks.{machine_bytes, machine_of, packed, scalar_bytes, values_of}
use Rattle.c_run_blocks.specs.RunBlocks.{run_bytes, run_fit, run_of, step_bytes}
use Rattle.image.specs.declared.ImageError.{ImageError}
use Rattle.image.specs.declared.ImageError.TheVariants as Imaged
use Rattle.image.specs.Answers.{ImageReply, image_reply}
use Rattle.image.specs.Writing.{SizeOutcome, size_image, WriteOutcome, write_image}
use Rattle.image.specs.Reading.{read_image, check_image}
use Rattle.image_read.specs.Blocks.{block_refused, into_block, restored_as, read_block}
use Rattle.image_salvage.specs.Salvage.{SalvageOutcome, salvage}
use Rattle.std.specs.Prelude.{Ok, Err}
use Rattle.text_assembly.specs.declared.TextError.TheVariants as TextError
use Rattle.text_assembly.specs.Answers.{TextReply, Texted, text_reply, code_answer}
use Rattle.text_assembly.specs.Lines.{line}
use Rattle.text_assembly.specs.Reading.{read_line}
use Rattle.c_scalars.specs.ScalarBlock.{step_block}
use Rattle.c_step.specs.BenchCalls.{HostStarted, started_out, shown_start, host_start, HostStepped, stepped_out, shown_step, host_step, HostSealed, sealed_out, shown_seal, host_seal}
use Rattle.c_run.specs.RunCalls.{HostRunStarted, run_started_out, shown_run_start, host_run_start, HostNext, next_out, shown_next, host_next}
use Rattle.c_turn.specs.TurnCalls.{turn_blocks, HostTurned, turned_out, shown_turn, host_turn, shown_turns, host_turns, count_bytes, HostRan, ran_out, shown_run, host_run}
use Rattle.c_image.specs.ImageCalls.{packed_reply, host_image_size, HostWritten, written_out, host_image_write, HostRead, shown_read, host_image_read}
use Rattle.c_salvage.specs.SalvageCalls.{report_bytes, packed_salvage, HostSalvaged, salvaged_out, shown_salvage, host_salvage}
use Rattle.c_text.specs.TextCalls.{packed_text, lined_as, lined, HostText, host_word_text, word_bytes, HostWord, word_as, word_out, host_text_word}
use Rattle.c_step.proofs.Refusal as steps
use Rattle.c_step.proofs.Packing.{packs-whole}
use Rattle.c_run.proofs.Refusal as runs
use Rattle.c_turn.proofs.Refusal as taking
use Rattle.c_image.proofs.Refusal as images
use Rattle.c_salvage.proofs.Refusal.{salvage-call-refusal}
use Rattle.c_text.proofs.Refusal as texts
use Rattle.theorem_calls.specs.Calls.{Buffers, buffers, Call, Called, after_start, after_step, after_seal, after_run_start, after_next, after_turn, after_run, after_read, called}
use Rattle.theorem_calls.specs.Composed.{after_calls, turn_calls, with}
use Rattle.theorem_calls.proofs.Numbers.{machine-words, run-words, Wordy, turns-wordy}
use Rattle.c_blocks.proofs.BlockLaws.{put_machine-same}
use Rattle.c_run_blocks.proofs.RunBlockLaws.{put_run-same}
use Rattle.theorem_calls.proofs.Turns.{running_in, left, on, holds}
use Rattle.unit_sealing.proofs.AddedRange.{turns-seals}
use Rattle.demands.specs.Deeds.{HostCall, host_called}
use Rattle.demands.specs.Demand1.{last_answer, CallAnswers, InBytes, CallCounted, EveryCallAnswers}
use Rattle.demands.proofs.Answered.{step-low, start-low, run-start-low, ask-low, turn_low, seal-low, size_low, write_low, read_low, salvage-low, image-low, every-count}

-- ---- results

packed-low : (a : Reply) → a.number ≤ last_answer → packed a % 2 ^ 16 ≤ last_answer
packed-low a h = omega (arith, h)

reply-low : (a : ImageReply) (size : ℕ) → a.number ≤ last_answer → packed_reply a size % 2 ^ 16 ≤ last_answer
unfolding packed_reply
reply-low a size h = go (cond (eqb a.number 0) size a.place)
  where
    go : (x : ℕ) → (a.number + x % 2 ^ 48 * 2 ^ 16) % 2 ^ 16 ≤ last_answer
    go x = omega (arith, h)

text-low : (a : TextReply) (size : ℕ) → a.number ≤ last_answer → packed_text a size % 2 ^ 16 ≤ last_answer
unfolding packed_text
text-low a size h = go (cond (eqb a.number 0) size a.column)
  where
    go : (x : ℕ) → (a.number + x % 2 ^ 48 * 2 ^ 16) % 2 ^ 16 ≤ last_answer
    go x = omega (arith, h)

texted-low : (a : Texted) → (text_reply a).number ≤ last_answer
texted-low (Ok u) = omega arith
texted-low (Err (TextError.NoLine Opcode)) = omega arith
texted-low (Err (TextError.NoLine LeftOut)) = omega arith
texted-low (Err (TextError.NoLine Unlisted)) = omega arith
texted-low (Err (TextError.NoLine Register)) = omega arith
texted-low (Err TextError.BadArguments) = omega arith
texted-low (Err TextError.NoRoom) = omega arith
texted-low (Err (TextError.BadLine column)) = omega arith

bad-low : packed (reply (Err BadArguments)) % 2 ^ 16 ≤ last_answer
bad-low = omega arith

nonzero : (n : ℕ) → ¬ (n % 2 ^ 16 ≡ 0) → ¬ (n ≡ 0)
nonzero n h e = h (ap (λ (k : ℕ). k % 2 ^ 16) e)

-- ---- calls on a machine, its runs and images

module _ (b : Buffers) where
  abbrev bench : Bench
  bench = bench_of (machine_of b.machine) (seals_in b.machine) b.registers b.marks b.memory

  start-number : (rlen mlen elen rule : ℕ) (seals : List ℕ) → (host_start rlen mlen elen rule seals b.machine b.registers b.marks).result % 2 ^ 16 ≤ last_answer
  unfolding host_start
  start-number rlen mlen elen rule seals = go (eqb (length b.machine) machine_bytes)
    where
      go : (t : Bool) → (cond t (shown_start b.machine (start_machine rlen mlen elen rule seals b.registers b.marks)) (started_out (packed (reply (Err BadArguments))) b.machine b.registers b.marks)).result % 2 ^ 16 ≤ last_answer
      go true = packed-low (start_machine rlen mlen elen rule seals b.registers b.marks).answer (start-low chosen rlen mlen elen rule seals b.registers b.marks)
      go false = bad-low

  step-number : (word group : ℕ) → (host_step word group b.machine b.registers b.marks b.scalars b.memory b.file).result % 2 ^ 16 ≤ last_answer
  unfolding host_step
  step-number word group = go (every tests) refl
    where
      tests : List Bool
      tests = eqb (length b.machine) machine_bytes ∷ eqb (length b.scalars) scalar_bytes ∷ []

      result : Bool → ℕ
      result t = (cond t (shown_step b.machine (step_block word b.scalars (vectors_of b.file group) bench)) (stepped_out (packed (reply (Err BadArguments))) b.machine b.registers b.marks b.scalars b.memory b.file)).result

      go : (t : Bool) → every tests ≡ t → result t % 2 ^ 16 ≤ last_answer
      go true e =
          let l = every-each tests e in
          let k = packs-whole word group b.machine b.registers b.marks b.scalars b.memory b.file (eqb-true (length b.machine) machine_bytes l.0) (eqb-true (length b.scalars) scalar_bytes l.1.0) in
          let s = step-low chosen word (values_of b.scalars) (vectors_of b.file group) bench in
          subst (λ (n : ℕ). n ≤ last_answer) (sym (ap (λ (t : Bool). result t % 2 ^ 16) (sym e) ∙ k.0)) s
      go false e = bad-low

  seal-number : (from size : ℕ) → (host_seal from size b.machine b.registers b.marks).result % 2 ^ 16 ≤ last_answer
  unfolding host_seal seal_block
  seal-number from size = go (eqb (length b.machine) machine_bytes)
    where
      go : (t : Bool) → (cond t (shown_seal b.registers b.marks (seal_block from size (machine_of b.machine) b.machine b.registers b.marks)) (sealed_out (packed (reply (Err BadArguments))) b.machine b.registers b.marks)).result % 2 ^ 16 ≤ last_answer
      go true = let B = bench_of (machine_of b.machine) (seals_in b.machine) b.registers b.marks [] in packed-low (add_seal from size B).answer (seal-low chosen from size B)
      go false = bad-low

  run-start-number : (P : Plan) → (host_run_start P b.machine b.registers b.marks b.memory b.run).result % 2 ^ 16 ≤ last_answer
  unfolding host_run_start
  run-start-number P = go (every (eqb (length b.machine) machine_bytes ∷ eqb (length b.run) run_bytes ∷ []))
    where
      go : (t : Bool) → (cond t (shown_run_start b.machine b.run (start_run chosen P bench)) (run_started_out (packed (reply (Err BadArguments))) b.machine b.registers b.marks b.memory b.run)).result % 2 ^ 16 ≤ last_answer
      go true = packed-low (start_run chosen P bench).answer (run-start-low chosen P bench)
      go false = bad-low

  next-number : (host_next b.run b.step).result % 2 ^ 16 ≤ last_answer
  unfolding host_next
  next-number = go (every (run_fit b.run ∷ eqb (length b.step) step_bytes ∷ []))
    where
      go : (t : Bool) → (cond t (shown_next b.run b.step (asked (ask chosen (run_of b.run)))) (next_out (packed (reply (Err BadArguments))) b.run b.step)).result % 2 ^ 16 ≤ last_answer
      go true = packed-low (ask chosen (run_of b.run)).answer (ask-low chosen (run_of b.run))
      go false = bad-low

  turn-number : (host_turn b.run b.machine b.registers b.marks b.memory).result % 2 ^ 16 ≤ last_answer
  unfolding host_turn
  turn-number = go (turn_blocks b.run b.machine)
    where
      go : (t : Bool) → (cond t (shown_turn b.run b.machine (turn_outcome chosen (running_in b))) (turned_out (packed (reply (Err BadArguments))) b.run b.machine b.registers b.marks b.memory)).result % 2 ^ 16 ≤ last_answer
      go true = packed-low (turn chosen (running_in b)).answer (turn_low chosen (running_in b))
      go false = bad-low

  run-number : (P : Plan) → (host_run P b.machine b.registers b.marks b.memory b.steps).result % 2 ^ 16 ≤ last_answer
  unfolding host_run
  run-number P = go (every (eqb (length b.machine) machine_bytes ∷ eqb (length b.steps) count_bytes ∷ []))
    where
      go : (t : Bool) → (cond t (shown_run b.machine b.steps (run.whole chosen P bench)) (ran_out (packed (reply (Err BadArguments))) b.machine b.registers b.marks b.memory b.steps)).result % 2 ^ 16 ≤ last_answer
      go true = packed-low (start_run chosen P bench).answer (run-start-low chosen P bench)
      go false = bad-low

  image-size-number : host_image_size b.machine b.registers b.marks % 2 ^ 16 ≤ last_answer
  unfolding host_image_size
  image-size-number = go (eqb (length b.machine) machine_bytes)
    where
      o : SizeOutcome
      o = size_image (machine_of b.machine) (seals_in b.machine) b.registers b.marks

      go : (t : Bool) → cond t (packed_reply o.answer o.size) (packed_reply (image_reply Imaged.BadArguments) 0) % 2 ^ 16 ≤ last_answer
      go true = reply-low o.answer o.size (size_low chosen (machine_of b.machine) (seals_in b.machine) b.registers b.marks)
      go false = reply-low (image_reply Imaged.BadArguments) 0 (image-low Imaged.BadArguments)

  image-write-number : (image : List ℕ) → (host_image_write b.machine b.registers b.marks image).result % 2 ^ 16 ≤ last_answer
  unfolding host_image_write
  image-write-number image = go (eqb (length b.machine) machine_bytes)
    where
      o : WriteOutcome
      o = write_image (machine_of b.machine) (seals_in b.machine) b.registers b.marks image

      go : (t : Bool) → (cond t (written_out (packed_reply o.answer o.size) o.room) (written_out (packed_reply (image_reply Imaged.BadArguments) 0) image)).result % 2 ^ 16 ≤ last_answer
      go true = reply-low o.answer o.size (write_low chosen (machine_of b.machine) (seals_in b.machine) b.registers b.marks image)
      go false = reply-low (image_reply Imaged.BadArguments) 0 (image-low Imaged.BadArguments)

  image-read-number : (image : List ℕ) → (host_image_read image b.machine b.registers b.marks).result % 2 ^ 16 ≤ last_answer
  unfolding host_image_read read_block
  image-read-number image = go (eqb (length b.machine) machine_bytes)
    where
      go : (t : Bool) → (shown_read (cond t (into_block b.machine (read_image image b.registers b.marks)) (restored_as (Err (block_refused (check_image image))) b.machine b.registers b.marks))).result % 2 ^ 16 ≤ last_answer
      go true = reply-low (read_image image b.registers b.marks).answer 0 (read_low chosen image b.registers b.marks)
      go false = reply-low (image_reply (block_refused (check_image image))) 0 (image-low (block_refused (check_image image)))

  -- ---- one of them

  call-number : (c : Call) → ((limit : ℕ) → ¬ (c ≡ Call.run_turns limit)) → (called c b).result % 2 ^ 16 ≤ last_answer
  call-number (Call.start rlen mlen elen rule seals) n = start-number rlen mlen elen rule seals
  call-number (Call.step word group) n = step-number word group
  call-number (Call.seal from size) n = seal-number from size
  call-number (Call.run_start P) n = run-start-number P
  call-number Call.run_next n = next-number
  call-number Call.run_turn n = turn-number
  call-number (Call.run_turns limit) n = absurd (n limit refl)
  call-number (Call.run P) n = run-number P
  call-number Call.image_size n = image-size-number
  call-number (Call.image_write image) n = image-write-number image
  call-number (Call.image_read image) n = image-read-number image
  call-number (Call.write w) n = omega arith

  module _ (small : InBytes b) where
    call-refused : (c : Call) → ((limit : ℕ) → ¬ (c ≡ Call.run_turns limit)) → ¬ ((called c b).result % 2 ^ 16 ≡ 0) → (called c b).after ≡ b
    call-refused (Call.start rlen mlen elen rule seals) n h =
        ap (λ (o : HostStarted). (after_start b o).after) (steps.start-refusal rlen mlen elen rule seals b.machine b.registers b.marks (nonzero (called (Call.start rlen mlen elen rule seals) b).result h))
    call-refused (Call.step word group) n h =
        ap (λ (o : HostStepped). (after_step b o).after)
        (steps.step-refusal word group b.machine b.registers b.marks b.scalars b.memory b.file small.machine small.scalars (nonzero (called (Call.step word group) b).result h))
    call-refused (Call.seal from size) n h =
        ap (λ (o : HostSealed). (after_seal b o).after) (steps.seal-refusal from size b.machine b.registers b.marks (nonzero (called (Call.seal from size) b).result h))
    call-refused (Call.run_start P) n h =
        ap (λ (o : HostRunStarted). (after_run_start b o).after) (runs.run-start-refusal P b.machine b.registers b.marks b.memory b.run (nonzero (called (Call.run_start P) b).result h))
    call-refused Call.run_next n h = ap (λ (o : HostNext). (after_next b o).after) (runs.next-refusal b.run b.step (nonzero (called Call.run_next b).result h))
    call-refused Call.run_turn n h =
        ap (λ (o : HostTurned). (after_turn b o).after)
        (taking.turn-refusal b.run b.machine b.registers b.marks b.memory small.run small.machine (nonzero (called Call.run_turn b).result h))
    call-refused (Call.run_turns limit) n h = absurd (n limit refl)
    call-refused (Call.run P) n h =
        ap (λ (o : HostRan). (after_run b o).after) (taking.run-refusal P b.machine b.registers b.marks b.memory b.steps (nonzero (called (Call.run P) b).result h))
    call-refused Call.image_size n h = refl
    call-refused (Call.image_write image) n h = refl
    call-refused (Call.image_read image) n h = ap (λ (o : HostRead). (after_read b o).after) (images.image-read-refusal image b.machine b.registers b.marks h)
    call-refused (Call.write w) n h = absurd (h refl)

-- ---- the others

salvage-number : (image room report : List ℕ) → (host_salvage image room report).result % 2 ^ 16 ≤ last_answer
unfolding host_salvage
salvage-number image room report = go (eqb (length report) report_bytes)
  where
    o : SalvageOutcome
    o = salvage image room

    go : (t : Bool) → (cond t (shown_salvage report o) (salvaged_out (packed_salvage 8 0 0) room report)).result % 2 ^ 16 ≤ last_answer
    go true = reply-low (record { number = o.answer.number; place = o.place }) o.size (salvage-low chosen image room)
    go false = reply-low (record { number = 8; place = 0 }) 0 (omega arith)

word-text-number : (word : ℕ) (text : List ℕ) → (host_word_text word text).result % 2 ^ 16 ≤ last_answer
unfolding host_word_text
word-text-number word text = go (line word)
  where
    fit : (s : List ℕ) (t : Bool) → let o = cond t (lined (Ok tt) (length s) (s ++ drop (length s) text)) (lined (Err TextError.NoRoom) 0 text) in packed_text o.answer o.size % 2 ^ 16 ≤ last_answer
    fit s true = text-low (text_reply (Ok tt)) (length s) (texted-low (Ok tt))
    fit s false = text-low (text_reply (Err TextError.NoRoom)) 0 (texted-low (Err TextError.NoRoom))

    go : (l : Option (List ℕ)) → let o = lined_as word l text in packed_text o.answer o.size % 2 ^ 16 ≤ last_answer
    go none = text-low (text_reply (code_answer (decode word))) 0 (texted-low (code_answer (decode word)))
    go (some s) = fit s (leb (length s) (length text))

text-word-number : (text word : List ℕ) → (host_text_word text word).result % 2 ^ 16 ≤ last_answer
unfolding host_text_word
text-word-number text word = go (eqb (length word) word_bytes) (read_line text)
  where
    go : (t : Bool) (p : Parsed ℕ) → (cond t (word_as p word) (word_out (Err TextError.BadArguments) word)).result % 2 ^ 16 ≤ last_answer
    go true (whole w) = text-low (text_reply (Ok tt)) 0 (texted-low (Ok tt))
    go true (stopped place) = text-low (text_reply (Err (TextError.BadLine (suc place)))) 0 (texted-low (Err (TextError.BadLine (suc place))))
    go false p = text-low (text_reply (Err TextError.BadArguments)) 0 (texted-low (Err TextError.BadArguments))

answers : (c : HostCall) (b : Buffers) → InBytes b → ((limit : ℕ) → ¬ (c ≡ HostCall.call (Call.run_turns limit))) → CallAnswers c b (host_called c b)
answers (HostCall.call c) b small n = record {
  number = call-number b c (λ limit e. n limit (ap HostCall.call e));
  refusal = λ h. (call-refused b small c (λ limit e. n limit (ap HostCall.call e)) h, refl);
}
answers (HostCall.image_write image) b small n = record {
  number = image-write-number b image;
  refusal = λ h. (refl, ap (λ (o : HostWritten). o.image ∷ []) (images.image-write-refusal b.machine b.registers b.marks image h));
}
answers (HostCall.image_salvage image room report) b small n = record {
  number = salvage-number image room report;
  refusal = λ h. (refl, ap (λ (o : HostSalvaged). o.room ∷ o.report ∷ []) (salvage-call-refusal image room report h));
}
answers (HostCall.word_text word text) b small n = record {
  number = word-text-number word text;
  refusal = λ h. (refl, ap (λ (o : HostText). o.text ∷ []) (texts.word-text-refusal word text h));
}
answers (HostCall.text_word text word) b small n = record {
  number = text-word-number text word;
  refusal = λ h. (refl, ap (λ (o : HostWord). o.word ∷ []) (texts.text-word-refusal text word h));
}

-- ---- turns in number

packed-nonzero : (a : Reply) → ¬ (a.number ≡ 0) → ¬ (packed a ≡ 0)
packed-nonzero a h e = h (omega (arith, e))

module _ (limit : ℕ) (b : Buffers) (small : InBytes b) where
  abbrev r : Running
  r = running_in b

  -- what both calls do, by whether the blocks fit
  abbrev turns_on : Bool → Called
  turns_on t =
      after_turn b (cond t (shown_turns b.run b.machine (turns chosen r limit)) (turned_out 0 b.run b.machine b.registers b.marks b.memory))

  turns-call : (t : Bool) → turn_blocks b.run b.machine ≡ t → called (Call.run_turns limit) b ≡ turns_on t
  unfolding host_turns
  turns-call t e = ap turns_on e

  abbrev Counts : Called → Type 0
  Counts o = (o.result ≤ limit) × (o.after ≡ after_calls (turn_calls o.result) b) × (o.result < limit → ¬ ((called Call.run_turn o.after).result ≡ 0) × ((called Call.run_turn o.after).after ≡ o.after))

  -- blocks that are refused take no turn
  unfit : turn_blocks b.run b.machine ≡ false → Counts (turns_on false)
  unfolding host_turn
  unfit e = (omega arith, refl, λ l. (λ z. eqb-false 8 0 refl (sym (ap (λ (t : Bool). result t) e) ∙ z), ap (λ (t : Bool). (out t).after) e))
    where
      out : Bool → Called
      out t = after_turn b (cond t (shown_turn b.run b.machine (turn_outcome chosen r)) (turned_out (packed (reply (Err BadArguments))) b.run b.machine b.registers b.marks b.memory))

      result : Bool → ℕ
      result t = (out t).result

  fit : turn_blocks b.run b.machine ≡ true → Counts (turns_on true)
  fit e =
      let c = every-count chosen r limit in
      let f = (every-each (run_fit b.run ∷ eqb (length b.machine) machine_bytes ∷ []) e).0 in
      let w : Wordy r = record { run = run-words b.run small.run f; machine = machine-words b.machine small.machine } in
      let same : with r b ≡ b =
      ap₂ (λ (m R : List ℕ). buffers m b.registers b.marks b.scalars b.memory R b.step b.steps b.file) (put_machine-same b.machine small.machine) (put_run-same b.run small.run f) in (
        c.at_most,
        ap (λ (s : Running). with s b) c.left ∙ sym (holds b e w same (turns chosen r limit).count),
        λ l.
            let q : Running = (turns chosen r limit).after in
            let k = on b e q (turns-wordy r w limit) (turns-seals chosen r limit) in
            let n = c.refused l in (
              λ z. packed-nonzero (turn chosen q).answer n (sym (ap (λ (o : Called). o.result) k) ∙ z),
              ap (λ (o : Called). o.after) k ∙ ap (λ (s : Running). with s b) (turn-refusal-changes-nothing chosen q n),
            ),
      )

  all-counts : Counts (called (Call.run_turns limit) b)
  all-counts = go (turn_blocks b.run b.machine) refl
    where
      go : (t : Bool) → turn_blocks b.run b.machine ≡ t → Counts (called (Call.run_turns limit) b)
      go true e = subst Counts (sym (turns-call true e)) (fit e)
      go false e = subst Counts (sym (turns-call false e)) (unfit e)

counts : (limit : ℕ) (b : Buffers) → InBytes b → CallCounted limit b
counts limit b small = let k = all-counts limit b small in record { at_most = k.0; left = k.1; refused = k.2 }

pub every-call-answers : EveryCallAnswers
every-call-answers = record { answers = answers; counts = counts }
