-- Steps, starts, additions and images in C are those of the definitions.
use Rattle.std.specs.Prelude.{Ok, Err}
use Rattle.numbers.proofs.Kit.{◌≡◌, refl, sym, ap, ap₂, ◌∙◌, subst, ◌↔◌, Bool, true, false, cond, ◌&&◌, List, [], ◌∷◌, ◌++◌, append-nil, ℕ, ◌*◌, ◌%◌, ◌^◌}
use Rattle.numbers.proofs.Kit.{◌<◌, mod-eq_of_lt, arith, leb, eqb, length, get_or, drop, replicate, eqb-true, eqb-false, eq-eqb, ne_eqb, Err}
use Rattle.numbers.proofs.WordLaws.{le-put_row}
use Rattle.numbers.specs.Tile.{get_le, put_row}
use Rattle.machine.specs.declared.Refusal.TheVariants.{BadArguments, TooManySeals}
use Rattle.machine.specs.declared.Machine.{Machine}
use Rattle.machine.specs.Tests.{every}
use Rattle.machine.specs.Answers.{bare, reply, is_done, Answer, Done}
use Rattle.machine.specs.Geometry.{Range, range, Bench, bench_of}
use Rattle.machine.specs.Setting.{chosen}
use Rattle.machine.specs.Starting.{StartOutcome, most_seals, ranges, startable, no_machine, fresh_machine, started_as, start_machine}
use Rattle.machine.specs.Faults.{sound_bench}
use Rattle.machine.specs.Sealing.{SealOutcome}
use Rattle.machine.specs.Vectors.{Vectors, vectors_of}
use Rattle.machine.specs.Step.{VectorOutcome, vector_step}
use Rattle.machine.specs.Theorems.{started_bench}
use Rattle.machine.proofs.TestLaws.{false-true, each-every}
use Rattle.unit_ranges.specs.Ranges.{seals_in}
use Rattle.run.specs.declared.Run.{Run}
use Rattle.run.specs.Acts.{Act, session}
use Rattle.c_blocks.specs.Blocks.{Bytes, machine_bytes, machine_of, put_machine, packed, scalar_bytes, values_of, put_values}
use Rattle.c_blocks.proofs.BlockLaws.{machine_of-put_machine, put_machine-seals, values-at}
use Rattle.c_scalars.specs.ScalarBlock.{step_block}
use Rattle.unit_sealing.proofs.AddedRange.{ranges-are-exact}
use Rattle.c_step.specs.BenchCalls.{HostStarted, started_out, shown_start, host_start, stepped_out, shown_step, host_step, HostSealed}
use Rattle.c_step.proofs.Refusal.{start-refusal, seal-refusal}
use Rattle.c_run_blocks.specs.RunBlocks.{run_of}
use Rattle.image.specs.declared.ImageError.TheVariants as Image
use Rattle.image.specs.Answers.{image_reply}
use Rattle.image.specs.Writing.{SizeOutcome, size_reply, size_image, WriteOutcome, write_reply, write_image}
use Rattle.image.specs.Theorems.{image_in}
use Rattle.c_image.specs.ImageCalls.{packed_reply, host_image_size, HostWritten, written_out, host_image_write}
use Rattle.c_image.specs.Theorems.{PacksWhole}
use Rattle.c_image.proofs.Packing.{image-size-packs-whole, image-write-packs-whole}
use Rattle.theorem_calls.specs.Calls.{Buffers, Call, Called, after_start, after_step, after_seal, called}
use Rattle.theorem_calls.specs.Composed.{bench_in}
use Rattle.numbers.proofs.TileLaws.{le-lt}
use Rattle.theorem_calls.proofs.Numbers.{machine-words, step-with-words}
use Rattle.theorem_calls.proofs.Seal.{holds-none, was-started}
use Rattle.theorem_calls.proofs.Ranges.{seal-call-seals}
use Rattle.theorem_refusals.specs.Faults.{NotAtFault, Exactly}
use Rattle.theorem_refusals.specs.Starts.{Startable, HasNinth, Addable}
use Rattle.theorem_refusals.specs.Images.{NoRoomFor}
use Rattle.theorem_refusals.proofs.Answers.{start-answers-exactly, add-answers-exactly, size-answers-exactly, write-answers-exactly}
use Rattle.theorem_handover.specs.Handover.{written_into}
use Rattle.demands.specs.Demand2.{StepCall, StepCallSteps}
use Rattle.demands.specs.GivenInC.{StartCallAnswers, SealCallAnswers, SizeCallAnswers, WriteCallAnswers}
use Rattle.demands.proofs.Meant.{step-is-its-meaning}

-- ---- steps

-- a step leaves the ranges
keeps-seals : (word : ℕ) (xs : List ℕ) (W : Vectors) (B : Bench) (R : Run) → (vector_step word xs W B).bench.seals ≡ B.seals
keeps-seals word xs W B R = ranges-are-exact chosen (Act.step word ∷ []) (session B xs W R) ∙ append-nil B.seals

slot : (vs b : List ℕ) → length b ≡ scalar_bytes → (s : ℕ) → s < 32 → get_or (values_of (put_values vs b)) s 0 ≡ get_or vs s 0 % 2 ^ 64
unfolding put_values
slot vs b l s h =
    values-at (put_values vs b) s h
    ∙ ap (λ (p : ℕ). get_le (put_row 0 32 8 (λ i. get_or vs i 0) b) p 8) (omega arith)
    ∙ le-put_row 0 32 8 (λ i. get_or vs i 0) b (omega (arith, l)) s h

module _ (word group : ℕ) (b : Buffers) (small : Bytes b.machine) (lm : length b.machine ≡ machine_bytes) (ls : length b.scalars ≡ scalar_bytes) where
  abbrev o : VectorOutcome
  o = vector_step word (values_of b.scalars) (vectors_of b.file group) (bench_in b)

  abbrev out : Bool → Called
  out t =
      after_step b (cond t (shown_step b.machine (step_block word b.scalars (vectors_of b.file group) (bench_in b)))
      (stepped_out (packed (reply (Err BadArguments))) b.machine b.registers b.marks b.scalars b.memory b.file))

  called_is : called (Call.step word group) b ≡ out true
  unfolding host_step
  called_is =
      ap out (each-every (eqb (length b.machine) machine_bytes ∷ eqb (length b.scalars) scalar_bytes ∷ [])
      (eq-eqb (length b.machine) machine_bytes lm, (eq-eqb (length b.scalars) scalar_bytes ls, tt)))

  bench-is : bench_in (out true).after ≡ o.bench
  bench-is =
      ap₂ (λ (m : Machine) (rs : List Range). bench_of m rs o.bench.registers o.bench.marks o.bench.memory)
      (machine_of-put_machine o.bench.machine b.machine (step-with-words word (values_of b.scalars) (vectors_of b.file group) (bench_in b) (machine-words b.machine small)) lm)
      (put_machine-seals o.bench.machine b.machine ∙ sym (keeps-seals word (values_of b.scalars) (vectors_of b.file group) (bench_in b) (run_of b.run)))

  steps : StepCall word group b o (out true)
  steps = record { result = refl; bench = bench-is; scalars = slot o.scalars b.scalars ls; vectors = refl }

-- on a state at fault the step is refused with 8, as the call is
module _ (word group : ℕ) (b : Buffers) (small : Bytes b.scalars) (none : sound_bench (bench_in b) ≡ false) where
  abbrev at-fault : VectorOutcome
  at-fault = vector_step word (values_of b.scalars) (vectors_of b.file group) (bench_in b)

  eight : at-fault.answer.number ≡ 8
  eight = (step-is-its-meaning chosen word (values_of b.scalars) (vectors_of b.file group) (bench_in b)).answer.eight.1 (λ f. false-true (sym none ∙ f.0))

  bare-eight : at-fault.answer ≡ bare 8
  bare-eight =
      (step-is-its-meaning chosen word (values_of b.scalars) (vectors_of b.file group) (bench_in b)).answer.elsewhere (λ e. omega (arith, eight, e))
      ∙ ap bare eight

  left : at-fault ≡ record { answer = at-fault.answer; bench = bench_in b; scalars = values_of b.scalars; vectors = b.file }
  left = (step-is-its-meaning chosen word (values_of b.scalars) (vectors_of b.file group) (bench_in b)).refused (λ e. omega (arith, eight, e))

  slot_small : (s : ℕ) → s < 32 → get_or (values_of b.scalars) s 0 ≡ get_or (values_of b.scalars) s 0 % 2 ^ 64
  slot_small s h = let e = values-at b.scalars s h in e ∙ sym (ap (λ (v : ℕ). v % 2 ^ 64) e ∙ mod-eq_of_lt (le-lt b.scalars small (s * 8) 8))

  stands : StepCall word group b at-fault (record { result = 8; after = b })
  stands = record {
    result = sym (ap packed bare-eight);
    bench = sym (ap (λ (o : VectorOutcome). o.bench) left);
    scalars = λ s h. slot_small s h ∙ sym (ap (λ (o : VectorOutcome). get_or o.scalars s 0 % 2 ^ 64) left);
    vectors = sym (ap (λ (o : VectorOutcome). o.vectors) left);
  }

-- a call on a block of another length
other_step : (word group : ℕ) (b : Buffers) (t u : Bool) → eqb (length b.machine) machine_bytes ≡ t → eqb (length b.scalars) scalar_bytes ≡ u → t && (u && true) ≡ false
    → called (Call.step word group) b ≡ record { result = 8; after = b }
unfolding host_step
other_step word group b t u e f h =
    ap (λ (t : Bool). after_step b (cond t (shown_step b.machine (step_block word b.scalars (vectors_of b.file group) (bench_in b)))
    (stepped_out (packed (reply (Err BadArguments))) b.machine b.registers b.marks b.scalars b.memory b.file)))
    (ap₂ (λ (s t : Bool). s && (t && true)) e f ∙ h)

pub step-call-steps : StepCallSteps
step-call-steps word group b small bytes = (
  λ ls. go (eqb (length b.machine) machine_bytes) refl ls,
  λ n. other_step word group b (eqb (length b.machine) machine_bytes) false refl (ne_eqb (length b.scalars) scalar_bytes n) (no-scalars (eqb (length b.machine) machine_bytes)),
)
  where
    no-scalars : (t : Bool) → t && (false && true) ≡ false
    no-scalars true = refl
    no-scalars false = refl

    s : VectorOutcome
    s = vector_step word (values_of b.scalars) (vectors_of b.file group) (bench_in b)

    go : (t : Bool) → eqb (length b.machine) machine_bytes ≡ t → length b.scalars ≡ scalar_bytes → StepCall word group b s (called (Call.step word group) b)
    go true e ls =
        let lm : length b.machine ≡ machine_bytes = eqb-true (length b.machine) machine_bytes e in
        subst (StepCall word group b s) (sym (called_is word group b small lm ls)) (steps word group b small lm ls)
    go false e ls =
        subst (StepCall word group b s) (sym (other_step word group b false true e (eq-eqb (length b.scalars) scalar_bytes ls) refl))
        (stands word group b bytes (holds-none b e))

-- ---- starts

started-bench : (rlen mlen elen rule : ℕ) (seals : List ℕ) (b : Buffers) → (called (Call.start rlen mlen elen rule seals) b).result ≡ 0
    → bench_in (called (Call.start rlen mlen elen rule seals) b).after ≡ started_bench rlen mlen elen rule seals b.registers b.marks b.memory
started-bench rlen mlen elen rule seals b z =
    let k = was-started rlen mlen elen rule seals b z in
    let a : Buffers = (called (Call.start rlen mlen elen rule seals) b).after in
    ap₂ (λ (m : Machine) (rs : List Range). bench_of m rs a.registers a.marks a.memory) k.made k.holds
    ∙ ap (λ (x : Buffers). bench_of (fresh_machine rlen mlen elen rule) (ranges seals) x.registers x.marks x.memory) k.rest
    ∙ sym (ap (λ (s : StartOutcome). bench_of s.machine s.seals s.registers s.marks b.memory) k.leaves)

-- an answer behind one more test, whose failing gives 8 too
with-block : {Good Refused : Type 0} (n k : ℕ) (F : Type 0) (t : Bool) → (t ≡ true) ↔ F → eqb 8 k ≡ false → Exactly n k Good Refused → Exactly (cond t n 8) k (F × Good) Refused
with-block n k F true f z x = record {
  eight = ((λ e y. x.eight.0 e y.1), λ m. x.eight.1 (λ g. m (f.0 refl, g)));
  next = (λ e. let y = x.next.0 e in ((f.0 refl, y.0), y.1), λ y. x.next.1 (y.0.1, y.1));
  nought = (λ e. let y = x.nought.0 e in ((f.0 refl, y.0), y.1), λ y. x.nought.1 (y.0.1, y.1));
}
with-block n k F false f z x = record {
  eight = ((λ e y. false-true (f.1 y.0)), λ m. refl);
  next = (λ e. absurd (eqb-false 8 k z e), λ y. absurd (false-true (f.1 y.0.0)));
  nought = (λ e. absurd (omega (arith, e)), λ y. absurd (false-true (f.1 y.0.0)));
}

block-fits : (b : Buffers) → (eqb (length b.machine) machine_bytes ≡ true) ↔ (length b.machine ≡ machine_bytes)
block-fits b = (eqb-true (length b.machine) machine_bytes, eq-eqb (length b.machine) machine_bytes)

-- a start names no row and no column
start-result : (rlen mlen elen rule : ℕ) (seals : List ℕ) (b : Buffers)
    → (called (Call.start rlen mlen elen rule seals) b).result
    ≡ cond (eqb (length b.machine) machine_bytes) (start_machine rlen mlen elen rule seals b.registers b.marks).answer.number 8
unfolding host_start start_machine
start-result rlen mlen elen rule seals b =
    go (eqb (length b.machine) machine_bytes) (startable rlen mlen elen rule seals b.registers b.marks) (leb (length (ranges seals)) most_seals)
  where
    started : Answer → StartOutcome
    started a =
        cond (is_done a)
        (started_as (record { answer = a; machine = fresh_machine rlen mlen elen rule }) seals b.registers (replicate (length b.marks) 0))
        (started_as (record { answer = a; machine = no_machine }) seals b.registers b.marks)

    go : (t u v : Bool)
        → let o : StartOutcome = started (cond u (cond v Done (Err TooManySeals)) (Err BadArguments)) in
        (cond t (shown_start b.machine o) (started_out (packed (reply (Err BadArguments))) b.machine b.registers b.marks)).result ≡ cond t o.answer.number 8
    go true true true = refl
    go true true false = refl
    go true false v = refl
    go false u v = refl

pub start-call-answers : StartCallAnswers
start-call-answers rlen mlen elen rule seals b = record {
  given =
      subst (λ (n : ℕ). Exactly n 16 ((length b.machine ≡ machine_bytes) × Startable rlen mlen elen rule seals b.registers b.marks) (HasNinth seals))
      (sym (start-result rlen mlen elen rule seals b))
      (with-block (start_machine rlen mlen elen rule seals b.registers b.marks).answer.number 16 (length b.machine ≡ machine_bytes) (eqb (length b.machine) machine_bytes) (block-fits b) refl
      (start-answers-exactly rlen mlen elen rule seals b.registers b.marks).given);
  started = started-bench rlen mlen elen rule seals b;
  refused = λ n. ap (λ (o : HostStarted). (after_start b o).after) (start-refusal rlen mlen elen rule seals b.machine b.registers b.marks n);
}

-- ---- additions

pub seal-call-answers : SealCallAnswers
seal-call-answers from size b =
    let k = seal-call-seals from size b in
    let x = add-answers-exactly from size (bench_in b) in
    record {
      given = subst (λ (n : ℕ). Exactly n 16 (Addable (range from size) (bench_in b)) (length (seals_in b.machine) ≡ 8)) (sym k.0) x.given;
      added = λ z. k.1 ∙ ap (λ (o : SealOutcome). o.bench) (x.added (sym k.0 ∙ z));
      refused = λ n. ap (λ (o : HostSealed). (after_seal b o).after) (seal-refusal from size b.machine b.registers b.marks n);
    }

-- ---- images

module _ (b : Buffers) where
  -- a block of another length is refused as a state at fault is
  size-block : cond (eqb (length b.machine) machine_bytes) (size_image (machine_of b.machine) (seals_in b.machine) b.registers b.marks) (size_reply (Err Image.BadArguments))
      ≡ size_image (machine_of b.machine) (seals_in b.machine) b.registers b.marks
  unfolding size_image
  size-block = go (eqb (length b.machine) machine_bytes) refl
    where
      out : Bool → SizeOutcome
      out s = cond s (size_reply (Ok (length (image_in (bench_in b))))) (size_reply (Err Image.BadArguments))

      go : (t : Bool) → eqb (length b.machine) machine_bytes ≡ t → cond t (out (sound_bench (bench_in b))) (size_reply (Err Image.BadArguments)) ≡ out (sound_bench (bench_in b))
      go true e = refl
      go false e = ap out (sym (holds-none b e))

  write-block : (room : List ℕ)
      → cond (eqb (length b.machine) machine_bytes) (write_image (machine_of b.machine) (seals_in b.machine) b.registers b.marks room) (write_reply (Err Image.BadArguments) room)
      ≡ write_image (machine_of b.machine) (seals_in b.machine) b.registers b.marks room
  unfolding write_image
  write-block room = go (eqb (length b.machine) machine_bytes) refl
    where
      image : List ℕ
      image = image_in (bench_in b)

      out : Bool → WriteOutcome
      out s = cond s (cond (leb (length image) (length room)) (write_reply (Ok (length image)) (image ++ drop (length image) room)) (write_reply (Err Image.NoRoom) room)) (write_reply (Err Image.BadArguments) room)

      go : (t : Bool) → eqb (length b.machine) machine_bytes ≡ t → cond t (out (sound_bench (bench_in b))) (write_reply (Err Image.BadArguments) room) ≡ out (sound_bench (bench_in b))
      go true e = refl
      go false e = ap out (sym (holds-none b e))

pub size-call-answers : SizeCallAnswers
size-call-answers b =
    let o : SizeOutcome = size_image (machine_of b.machine) (seals_in b.machine) b.registers b.marks in
    let r : ℕ = host_image_size b.machine b.registers b.marks in
    let p : PacksWhole r o.answer o.size = subst (λ (o : SizeOutcome). PacksWhole r o.answer o.size) (size-block b) (image-size-packs-whole b.machine b.registers b.marks) in
    let x = size-answers-exactly (bench_in b) in
    record {
      eight = (λ e. x.eight.0 (sym p.0 ∙ e), λ n. p.0 ∙ x.eight.1 n);
      nought = (λ e. x.nought.0 (sym p.0 ∙ e), λ n. p.0 ∙ x.nought.1 n);
      sized = λ e. p.1 ∙ ap (λ (o : SizeOutcome). cond (eqb o.answer.number 0) o.size o.answer.place) (x.sized (sym p.0 ∙ e));
      refused = λ n. p.1 ∙ ap (λ (o : SizeOutcome). cond (eqb o.answer.number 0) o.size o.answer.place) (x.refused (λ e. n (p.0 ∙ e)));
    }

-- what is left in the room is what a writing leaves
image-left : (room : List ℕ) (b : Buffers) → (written_into room b).image ≡ (write_image (machine_of b.machine) (seals_in b.machine) b.registers b.marks room).room
unfolding host_image_write
image-left room b = go (eqb (length b.machine) machine_bytes) refl
  where
    o : WriteOutcome
    o = write_image (machine_of b.machine) (seals_in b.machine) b.registers b.marks room

    go : (t : Bool) → eqb (length b.machine) machine_bytes ≡ t → (cond t (written_out (packed_reply o.answer o.size) o.room) (written_out (packed_reply (image_reply Image.BadArguments) 0) room)).image ≡ o.room
    go true e = refl
    go false e = ap (λ (o : WriteOutcome). o.room) (subst (λ (t : Bool). cond t o (write_reply (Err Image.BadArguments) room) ≡ o) e (write-block b room))

-- of a number that is not 0 the place is taken
place-of : (n size : ℕ) → ¬ (n ≡ 0) → cond (eqb n 0) size 0 ≡ 0
place-of n size h = ap (λ (t : Bool). cond t size 0) (ne_eqb n 0 h)

pub write-call-answers : WriteCallAnswers
write-call-answers room b =
    let o : WriteOutcome = write_image (machine_of b.machine) (seals_in b.machine) b.registers b.marks room in
    let w : HostWritten = written_into room b in
    let p : PacksWhole w.result o.answer o.size = subst (λ (o : WriteOutcome). PacksWhole w.result o.answer o.size) (write-block b room) (image-write-packs-whole b.machine b.registers b.marks room) in
    let x = write-answers-exactly (bench_in b) room in
    record {
      given = subst (λ (n : ℕ). Exactly n 14 (NotAtFault (bench_in b)) (NoRoomFor room (bench_in b))) (sym p.0) x.given;
      written = λ e.
          let y = x.written (sym p.0 ∙ e) in
          (p.1 ∙ ap (λ (o : WriteOutcome). cond (eqb o.answer.number 0) o.size o.answer.place) y, image-left room b ∙ ap (λ (o : WriteOutcome). o.room) y);
      refused = λ n.
          let y = x.refused (λ e. n (p.0 ∙ e)) in
          (p.1 ∙ ap (λ (o : WriteOutcome). cond (eqb o.answer.number 0) o.size o.answer.place) y ∙ place-of o.answer.number 0 (λ e. n (p.0 ∙ e)), image-left room b ∙ ap (λ (o : WriteOutcome). o.room) y);
    }
