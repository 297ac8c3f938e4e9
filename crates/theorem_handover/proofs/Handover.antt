-- A machine handed over by its image, in C.
use Rattle.std.specs.Prelude.{Ok, Err}
use mathlib.Core.Path.{◌≡◌, refl, sym, ap, ap₂, ◌∙◌, subst}
use mathlib.Core.Bool.{Bool, true, false, cond}
use mathlib.Core.List.{List, [], ◌∷◌, ◌++◌}
use mathlib.Core.Option.{Option, none, some}
use Prim.Native.Nat.{ℕ, ◌/◌, ◌%◌, ◌^◌, ◌≤◌, ◌<◌}
use native.Mathlib.Omega.{arith}
use lib.ListN.{length, take, drop, get_or}
use lib.Seq.{take-append_seam}
use lib.Dec.{eqb}
use borrow.Author.Tests.{eq-eqb, le-leb}
use Rattle.numbers_format.specs.Numbers.{ByteString}
use Rattle.machine.specs.declared.Machine.{Machine}
use Rattle.machine.specs.Geometry.{Range, Bench, bench_of}
use Rattle.machine.specs.Faults.{sound_bench}
use Rattle.machine.specs.Alike.{Agree, Alike}
use Rattle.machine.specs.Setting.{chosen}
use Rattle.machine.specs.Starting.{no_machine}
use Rattle.unit_ranges.specs.Ranges.{seals_in}
use Rattle.c_blocks.specs.Blocks.{machine_bytes, machine_of, packed}
use Rattle.image.specs.declared.ImageError.TheVariants as Imaged
use Rattle.image.specs.Answers.{ImageReply, image_reply, image_done}
use Rattle.image.specs.Images.{image_of, IsImage}
use Rattle.image.specs.ImageFormat.{image_format}
use Rattle.image.specs.Writing.{WriteOutcome, write_reply, write_image}
use Rattle.image.specs.Reading.{ReadOutcome, read_image, check_image}
use Rattle.image.specs.Theorems.{image_in, Fits}
use Rattle.image.proofs.Images.{format-is-images, read-makes, written-is-read-back, read-is-written-back}
use Rattle.image_read.specs.Blocks.{block_refused, restored_as, into_block, read_block}
use Rattle.image_salvage.proofs.Keeps.{accepts-bytes}
use Rattle.c_image.specs.ImageCalls.{packed_reply, HostWritten, written_out, host_image_write, shown_read, host_image_read}
use Rattle.c_image.proofs.Packing.{image-write-packs-whole}
use Rattle.machine.specs.declared.Refusal.TheVariants.{BadArguments}
use Rattle.machine.specs.declared.Reply.{Reply}
use Rattle.machine.specs.Answers.{bare, reply}
use Rattle.machine.specs.Geometry.{parameters}
use Rattle.machine.specs.Listing.{decode}
use Rattle.machine.specs.Vectors.{vectors_fit, idle}
use Rattle.machine.specs.Step.{beside, vectors_in, outcome_in, refused_in, outcome, step_by}
use Rattle.run.specs.Words.{Op}
use Rattle.run.specs.Encoding.{own, handed_for}
use Rattle.run.specs.Turn.{word_handed_out, Running, turn, turn_outcome}
use Rattle.run.proofs.HandedLaws.{turn_with}
use Rattle.c_step.proofs.Packing.{Small, whole, answer-small}
use Rattle.c_turn.specs.TurnCalls.{turn_blocks, held_running, turned_out, shown_turn, host_turn}
use Rattle.theorem_calls.specs.Calls.{Buffers, buffers, Call, Called, called, calls}
use Rattle.theorem_calls.specs.Composed.{bench_in}
use Rattle.theorem_calls.proofs.Seal.{was_read}
use Rattle.theorem_powerup_calls.specs.Calls.{AlikeBuffers, EachSameCalled}
use Rattle.theorem_powerup_calls.proofs.Calls.{calls-ignore-unmarked, image-write-ignores-unmarked}
use Rattle.theorem_handover.specs.Handover.{ReadCallMakes, ReadCallMakesItsMachine, written_into, image_from, WrittenCallIsReadBack, ReadCallIsWrittenBack, EachSameImage, ImagesStayEqualOverCalls, TurnPacksWhole}

-- ---- an accepted read

module _ (image : List ℕ) (b : Buffers) (small : ByteString image) (z : (called (Call.image_read image) b).result ≡ 0) where
  abbrev after : Buffers
  after = (called (Call.image_read image) b).after

  abbrev o : ReadOutcome
  o = read_image image b.registers b.marks

  bench-is : bench_in after ≡ bench_of o.machine o.seals o.registers o.marks b.memory
  bench-is =
      let k = was_read image b small z in
      ap₂ (λ (m : Machine) (s : List Range). bench_of m s after.registers after.marks after.memory) k.made k.holds
      ∙ ap (λ (a : Buffers). bench_of o.machine o.seals a.registers a.marks a.memory) k.rest

  makes : ReadCallMakes image b after
  makes =
      let k = was_read image b small z in
      let m = read-makes image b.registers b.marks small k.done in
      let registers-are : after.registers ≡ o.registers = ap (λ (a : Buffers). a.registers) k.rest in
      let marks-are : after.marks ≡ o.marks = ap (λ (a : Buffers). a.marks) k.rest in
      record {
        not-at-fault = subst (λ (B : Bench). sound_bench B ≡ true) (sym bench-is) m.not-at-fault;
        its-image = ap image_in bench-is ∙ m.its-image;
        as_lent = λ q h. ap (λ (r : List ℕ). get_or r q 0) registers-are ∙ m.as_lent q (ap (λ (s : List ℕ). get_or s q 0) (sym marks-are) ∙ h);
        others-stay = k.rest ∙ ap₂ (λ (r s : List ℕ). buffers after.machine r s b.scalars b.memory b.run b.step b.steps b.file) (sym registers-are) (sym marks-are);
      }

  written_back : (room : List ℕ) → length image ≤ length room
      → written_into room after ≡ written_out (packed_reply image_done (length image)) (image ++ drop (length image) room)
  unfolding host_image_write
  written_back room l =
      let k = was_read image b small z in
      let w : (B : Bench) → WriteOutcome = λ B. write_image B.machine B.seals B.registers B.marks room in
      let e : w (bench_in after) ≡ write_reply (Ok (length image)) (image ++ drop (length image) room)
      = ap w bench-is ∙ read-is-written-back image b.registers b.marks room small k.done l in
      ap (λ (t : Bool). cond t (written_out (packed_reply (w (bench_in after)).answer (w (bench_in after)).size) (w (bench_in after)).room) (written_out (packed_reply (image_reply Imaged.BadArguments) 0) room)) (eq-eqb (length after.machine) machine_bytes k.long)
      ∙ ap (λ (x : WriteOutcome). written_out (packed_reply x.answer x.size) x.room) e

pub read-call-makes : ReadCallMakesItsMachine
read-call-makes image b small z = makes image b small z

pub read-call-is-written-back : ReadCallIsWrittenBack
read-call-is-written-back image room b small z l = written_back image b small z room l

-- ---- written, then read

module _ (b b' : Buffers) (room : List ℕ) (sb : sound_bench (bench_in b) ≡ true) (bytes : ByteString b.registers) (lm : length b.machine ≡ machine_bytes)
    (fits : length (image_in (bench_in b)) ≤ length room) (lm' : length b'.machine ≡ machine_bytes) (same : Fits (machine_of b.machine) b'.registers b'.marks) where
  abbrev image : List ℕ
  image = image_in (bench_in b)

  abbrev w : WriteOutcome
  w = write_image (machine_of b.machine) (seals_in b.machine) b.registers b.marks room

  written_is : w ≡ write_reply (Ok (length image)) (image ++ drop (length image) room)
  unfolding write_image
  written_is = rw (sb, le-leb (length image) (length room) fits)

  -- the call says its length and leaves its bytes
  result-is : (written_into room b).result / 2 ^ 16 ≡ length image
  result-is =
      (image-write-packs-whole b.machine b.registers b.marks room).1
      ∙ ap (λ (x : WriteOutcome). cond (eqb x.answer.number 0) x.size x.answer.place)
      (ap (λ (t : Bool). cond t w (write_reply (Err Imaged.BadArguments) room)) (eq-eqb (length b.machine) machine_bytes lm) ∙ written_is)

  room-is : (written_into room b).image ≡ image ++ drop (length image) room
  unfolding host_image_write
  room-is =
      ap (λ (t : Bool). (cond t (written_out (packed_reply w.answer w.size) w.room) (written_out (packed_reply (image_reply Imaged.BadArguments) 0) room)).image) (eq-eqb (length b.machine) machine_bytes lm)
      ∙ ap (λ (x : WriteOutcome). x.room) written_is

  from_is : image_from (written_into room b) ≡ image
  from_is = ap₂ take result-is room-is ∙ take-append_seam image (drop (length image) room)

  image-bytes : ByteString image
  image-bytes =
      let a = (format-is-images image).0 (record { machine = machine_of b.machine; seals = seals_in b.machine; registers = b.registers; marks = b.marks; not-at-fault = sb; are-bytes = bytes; is-its-image = refl }) in
      accepts-bytes image_format image a.0 a.1

  -- and is read back
  back : ((read_image image b'.registers b'.marks).answer ≡ image_done)
      × Alike (bench_in b) (bench_of (read_image image b'.registers b'.marks).machine (read_image image b'.registers b'.marks).seals (read_image image b'.registers b'.marks).registers (read_image image b'.registers b'.marks).marks b.memory)
  back =
      let e : take w.size w.room ≡ image = ap (λ (x : WriteOutcome). take x.size x.room) written_is ∙ take-append_seam image (drop (length image) room) in
      let k = written-is-read-back (bench_in b) room b'.registers b'.marks sb bytes fits same in
      subst (λ (z : List ℕ). let o = read_image z b'.registers b'.marks in (o.answer ≡ image_done) × Alike (bench_in b) (bench_of o.machine o.seals o.registers o.marks b.memory)) e k

  accepted : (called (Call.image_read image) b').result ≡ 0
  unfolding host_image_read read_block packed_reply
  accepted =
      let o = read_image image b'.registers b'.marks in
      ap (λ (t : Bool). (shown_read (cond t (into_block b'.machine o) (restored_as (Err (block_refused (check_image image))) b'.machine b'.registers b'.marks))).result) (eq-eqb (length b'.machine) machine_bytes lm')
      ∙ ap (λ (a : ImageReply). packed_reply a 0) back.0

  read_back : ((called (Call.image_read image) b').result ≡ 0) × Alike (bench_in b) (bench_in (called (Call.image_read image) b').after)
  read_back =
      let e = bench-is image b' image-bytes accepted in
      let a = back.1 in
      let marks-are = ap (λ (B : Bench). B.marks) e in
      let registers-are = ap (λ (B : Bench). B.registers) e in (
        accepted,
        record {
          same-machine = a.same-machine ∙ sym (ap (λ (B : Bench). B.machine) e);
          same-seals = a.same-seals ∙ sym (ap (λ (B : Bench). B.seals) e);
          same-marks = a.same-marks ∙ sym marks-are;
          agree = subst (λ (r : List ℕ). Agree b.marks b.registers r) (sym registers-are) a.agree;
        },
      )

pub written-call-is-read-back : WrittenCallIsReadBack
written-call-is-read-back b b' room sb bytes lm fits lm' same =
    subst (λ (s : List ℕ). ((called (Call.image_read s) b').result ≡ 0) × Alike (bench_in b) (bench_in (called (Call.image_read s) b').after))
    (sym (from_is b b' room sb bytes lm fits lm' same)) (read_back b b' room sb bytes lm fits lm' same)

-- ---- images after each call

same-images : (os os' : List Called) → EachSameCalled os os' → EachSameImage os os'
same-images [] [] h = tt
same-images [] (o ∷ os) h = h
same-images (o ∷ os) [] h = h
same-images (o ∷ os) (o' ∷ os') h = (λ room. image-write-ignores-unmarked room o.after o'.after h.0.alike-after, same-images os os' h.1)

pub images-stay-equal-over-calls : ImagesStayEqualOverCalls
images-stay-equal-over-calls cs b b' a = same-images (calls cs b) (calls cs b') (calls-ignore-unmarked cs b b' a)

-- ---- the result of a turn

idle-fits : vectors_fit idle ≡ true
unfolding vectors_fit idle
idle-fits = refl

-- a step of the run's own words is one with the idle vector file
own-step-small : (word : ℕ) (xs : List ℕ) (B : Bench) → let a = (step_by chosen word xs B).answer in (a.number < 2 ^ 16) × Small a
unfolding step_by outcome
own-step-small word xs B =
    let M = parameters chosen B.machine in
    subst (λ (t : Bool). let a = (cond t (beside (vectors_in idle M (decode word) xs B) (outcome_in idle M (decode word) xs B)) (beside idle.file (refused_in idle M (decode word) xs B (Err BadArguments)))).answer in (a.number < 2 ^ 16) × Small a)
    idle-fits (answer-small idle M word xs B)

turn_small : (r : Running) → let a = (turn chosen r).answer in (a.number < 2 ^ 16) × Small a
turn_small r = go (word_handed_out chosen r.run)
  where
    go : (o : Option Op) → let a = (turn_with chosen r o).answer in (a.number < 2 ^ 16) × Small a
    go none = (omega arith, (omega arith, omega arith))
    go (some o) = let h = handed_for r.run.plan o in own-step-small h.word (own h) r.bench

pub turn-packs-whole : TurnPacksWhole
unfolding host_turn
turn-packs-whole run machine registers marks memory = go (turn_blocks run machine)
  where
    r : Running
    r = held_running run machine registers marks memory

    go : (t : Bool) → let a : Reply = cond t (turn chosen r).answer (bare 8) in
        let n = (cond t (shown_turn run machine (turn_outcome chosen r)) (turned_out (packed (reply (Err BadArguments))) run machine registers marks memory)).result in
        (n % 2 ^ 16 ≡ a.number) × (n / 2 ^ 16 % 2 ^ 16 ≡ a.row) × (n / 2 ^ 32 ≡ a.column)
    go true = let s = turn_small r in whole (turn chosen r).answer s.0 s.1
    go false = (refl, refl, refl)
