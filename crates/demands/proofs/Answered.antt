-- Whatever a host does is answered with a number of the table, and a refusal changes nothing.
use Rattle.std.specs.Prelude.{Ok, Err}
use Rattle.numbers.proofs.Kit.{◌≡◌, refl, sym, ap, ap₂, ◌∙◌, subst, ◌⊎◌, inl, inr, Bool, true, false, cond, List, [], ◌∷◌, ◌++◌, Option, none, some, ℕ}
use Rattle.numbers.proofs.Kit.{zero, suc, ◌+◌, ◌≤◌, ◌<◌, eq-or-lt_of_le, eq-zero-or-pos, le_of_suc-le-suc, arith, leb, eqb, length, drop, replicate}
use Rattle.numbers.proofs.Kit.{eqb-true, eqb-false, leb-true, Err}
use Rattle.numbers.specs.Blocks.{Choice}
use Rattle.numbers_format.specs.Parser.{Parsed, parse}
use Rattle.numbers_format.specs.Parser.Parsed.{whole, stopped}
use Rattle.machine.specs.declared.Refusal.TheVariants.{IllegalWord, IllegalType, BadWidth, TileTooLarge, Unwritten, OutsideMemory, SealedByte, BadArguments, Overlap, WrongOpcode, LeftOutWord, WrongRegister, RowsOverlap, TooManySeals}
use Rattle.machine.specs.declared.Machine.{Machine}
use Rattle.machine.specs.declared.Reply.{Reply}
use Rattle.machine.specs.Answers.{reply, number, done, is_done, ◌otherwise◌, verdict, Answer, Done}
use Rattle.machine.specs.Meanings.{checks}
use Rattle.machine.specs.Faults.{sound_bench, thirty_two}
use Rattle.machine.specs.Geometry.{Range, sealed, Parameters, parameters, Bench, bench_of}
use Rattle.machine.specs.Vectors.{Vectors, vectors_of, idle}
use Rattle.machine.specs.Starting.{start_machine}
use Rattle.machine.specs.Starting
use Rattle.machine.specs.Sealing.{add_seal, seal_checks}
use Rattle.machine.specs.Listing.{decode}
use Rattle.machine.specs.Step
use Rattle.machine.specs.Step.{Outcome, outcome, step_by, step_with, checks_in}
use Rattle.machine.proofs.TestLaws.{each_in, false-true}
use Rattle.machine.proofs.Refused.{step-refusal-changes-nothing, start-refusal-changes-nothing, seal-refusal-changes-nothing}
use Rattle.run.specs.declared.Plan.{Plan}
use Rattle.run.specs.declared.Run.{Run}
use Rattle.run.specs.declared.Handed.{Handed}
use Rattle.run.specs.Words.{Op}
use Rattle.run.specs.Encoding.{own, handed_for}
use Rattle.run.specs.Start
use Rattle.run.specs.Start.{start_run}
use Rattle.run.specs.Turn.{word_handed_out, ask, Running, running, turn, after_turns, answered_done, turns}
use Rattle.run.specs.Acts.{Act, Session, session, act}
use Rattle.run.proofs.HandedLaws.{ask_with, turn_with}
use Rattle.run.proofs.RefusalLaws.{number-refused, number-done, turn-refused}
use Rattle.run.proofs.Demand1.{run-start-changes-nothing, ask-refusal-changes-nothing, turn-refusal-changes-nothing, whole-refusal-changes-nothing}
use Rattle.image.specs.declared.ImageError.{ImageError}
use Rattle.image.specs.declared.ImageError.TheVariants as Imaged
use Rattle.image.specs.Answers.{image_reply, image_done}
use Rattle.image.specs.Images.{image_of, sound_with, machine_from, spelled}
use Rattle.image.specs.ImageFormat.{Described, image_format}
use Rattle.image.specs.Writing.{size_image, size_reply, write_image, write_reply}
use Rattle.image.specs.Cells.{over, marks_of}
use Rattle.image.specs.Reading.{read_image, read_as, restored, cells_in, fitted, not_restored}
use Rattle.image.proofs.Images.{read-refusal, write-refusal}
use Rattle.image_salvage.specs.Salvage.{KeptPart, place_in, kept_in, salvaged, salvage_of, salvage}
use Rattle.image_salvage.proofs.Keeps.{salvage-refusal}
use Rattle.theorem_refusals.proofs.Exact.{step-answers-exactly}
use Rattle.demands.specs.Deeds.{Deed, Deeded, deeded, room_of, remade, deed}
use Rattle.demands.specs.Demand1.{last_answer, Answers, Counted, EveryDeedAnswers}

-- ---- numbers of the table

low : (a : Answer) → number a ≤ last_answer
low Done = omega arith
low (Err IllegalWord) = omega arith
low (Err IllegalType) = omega arith
low (Err BadWidth) = omega arith
low (Err TileTooLarge) = omega arith
low (Err (Unwritten row column)) = omega arith
low (Err OutsideMemory) = omega arith
low (Err SealedByte) = omega arith
low (Err BadArguments) = omega arith
low (Err Overlap) = omega arith
low (Err WrongOpcode) = omega arith
low (Err LeftOutWord) = omega arith
low (Err WrongRegister) = omega arith
low (Err RowsOverlap) = omega arith
low (Err TooManySeals) = omega arith

pub image-low : (a : ImageError) → (image_reply a).number ≤ last_answer
image-low Imaged.BadArguments = omega arith
image-low Imaged.NoRoom = omega arith
image-low (Imaged.Damaged place) = omega arith

module _ (grant : Choice) where
  pub step-low : (word : ℕ) (xs : List ℕ) (W : Vectors) (B : Bench) → (step_with grant word xs W B).answer.number ≤ last_answer
  step-low word xs W B =
      let n = (step_with grant word xs W B).answer.number in
      leb-true n last_answer (each_in n (0 ∷ 1 ∷ 2 ∷ 3 ∷ 4 ∷ 5 ∷ 6 ∷ 7 ∷ 8 ∷ 10 ∷ 11 ∷ 12 ∷ 13 ∷ []) (λ (k : ℕ). leb k last_answer) refl (step-answers-exactly grant word xs W B).no_other)

  own-step-low : (word : ℕ) (xs : List ℕ) (B : Bench) → (step_by grant word xs B).answer.number ≤ last_answer
  unfolding step_by outcome
  own-step-low word xs B = go (is_done v)
    where
      v : Answer
      v = verdict (checks_in idle (parameters grant B.machine) (decode word) xs B)

      go : (t : Bool) → (cond t (Step.carried_in idle (parameters grant B.machine) (decode word) xs B) (Step.refused_in idle (parameters grant B.machine) (decode word) xs B v)).answer.number ≤ last_answer
      go true = omega arith
      go false = low v

  pub ask-low : (R : Run) → (ask grant R).answer.number ≤ last_answer
  ask-low R = go (word_handed_out grant R)
    where
      go : (o : Option Op) → (ask_with grant R o).answer.number ≤ last_answer
      go none = omega arith
      go (some o) = omega arith

  pub turn_low : (r : Running) → (turn grant r).answer.number ≤ last_answer
  turn_low r = go (word_handed_out grant r.run)
    where
      go : (o : Option Op) → (turn_with grant r o).answer.number ≤ last_answer
      go none = omega arith
      go (some o) = let h = handed_for r.run.plan o in own-step-low h.word (own h) r.bench

  -- a step of a state at fault
  faulty-step : (word : ℕ) (xs : List ℕ) (B : Bench) → sound_bench B ≡ false → (step_by grant word xs B).answer.number ≡ 8
  unfolding step_by outcome
  faulty-step word xs B e =
      let M = parameters grant B.machine in
      let rest : Answer = verdict ((thirty_two xs otherwise BadArguments) ∷ checks M (sealed B.seals) (Step.meant_in idle M (decode word) xs B) (Step.given_in idle M (decode word) xs B) B.memory) in
      ap (λ (s : Bool). let v : Answer = cond s rest (Err BadArguments) in (cond (is_done v) (Step.carried_in idle M (decode word) xs B) (Step.refused_in idle M (decode word) xs B v)).answer.number) e

  faulty-turn : (r : Running) → sound_bench r.bench ≡ false → (turn grant r).answer.number ≡ 8
  faulty-turn r e = go (word_handed_out grant r.run)
    where
      go : (o : Option Op) → (turn_with grant r o).answer.number ≡ 8
      go none = refl
      go (some o) = let h = handed_for r.run.plan o in faulty-step h.word (own h) r.bench e

  pub run-start-low : (P : Plan) (B : Bench) → (start_run grant P B).answer.number ≤ last_answer
  unfolding start_run
  run-start-low P B = low (verdict (Start.run_start_checks grant P B))

  pub seal-low : (start size : ℕ) (B : Bench) → (add_seal start size B).answer.number ≤ last_answer
  unfolding add_seal
  seal-low start size B = low (verdict (seal_checks start size B))

  -- ---- acts

  act-low : (a : Act) (S : Session) → (act grant a S).answer.number ≤ last_answer
  act-low (Act.lend xs W memory) S = omega arith
  act-low (Act.step word) S = step-low word S.scalars S.lent S.bench
  act-low (Act.run_start P) S = run-start-low P S.bench
  act-low Act.run_next S = ask-low S.run
  act-low Act.run_turn S = turn_low (running S.run S.bench)
  act-low (Act.run_turns n) S = omega arith
  act-low (Act.run P) S = run-start-low P S.bench
  act-low (Act.seal start size) S = seal-low start size S.bench

  act-refused : (a : Act) (S : Session) → ¬ ((act grant a S).answer.number ≡ 0) → ((act grant a S).after ≡ S) × ((act grant a S).count ≡ 0)
  act-refused (Act.lend xs W memory) S d = absurd (d refl)
  act-refused (Act.step word) S d =
      let k = step-refusal-changes-nothing grant word S.scalars S.lent S.bench d in (
        ap₂ (λ (B : Bench) (xs : List ℕ). session B xs (vectors_of (step_with grant word S.scalars S.lent S.bench).vectors S.lent.group) S.run) k.0 k.1
            ∙ ap (λ (file : List ℕ). session S.bench S.scalars (vectors_of file S.lent.group) S.run) k.2,
        refl,
      )
  act-refused (Act.run_start P) S d = (
    ap₂ (λ (B : Bench) (t : Bool). session B S.scalars S.lent (cond t (start_run grant P S.bench).run S.run))
        (run-start-changes-nothing grant P S.bench) (number-refused (start_run grant P S.bench).answer d),
    refl,
  )
  act-refused Act.run_next S d =
      (ap (λ (R : Run). session S.bench S.scalars S.lent R) (ask-refusal-changes-nothing grant S.run d).1, refl)
  act-refused Act.run_turn S d =
      (ap (λ (r : Running). session r.bench S.scalars S.lent r.run) (turn-refusal-changes-nothing grant (running S.run S.bench) d), refl)
  act-refused (Act.run_turns n) S d = absurd (d refl)
  act-refused (Act.run P) S d =
      let k = whole-refusal-changes-nothing grant P S.bench d in
      (ap (λ (B : Bench). session B S.scalars S.lent S.run) k.1, k.0)
  act-refused (Act.seal start size) S d =
      (ap (λ (B : Bench). session B S.scalars S.lent S.run) (seal-refusal-changes-nothing start size S.bench d), refl)

  -- ---- machines and images

  pub start-low : (rlen mlen elen rule : ℕ) (seals registers marks : List ℕ) → (start_machine rlen mlen elen rule seals registers marks).answer.number ≤ last_answer
  unfolding start_machine
  start-low rlen mlen elen rule seals registers marks = go (is_done a)
    where
      a : Answer
      a = verdict (Starting.start_checks rlen mlen elen rule seals registers marks)

      go : (t : Bool)
          → (cond t (Starting.started_as (record { answer = a; machine = Starting.fresh_machine rlen mlen elen rule }) seals registers (replicate (length marks) 0))
          (Starting.started_as (record { answer = a; machine = Starting.no_machine }) seals registers marks)).answer.number ≤ last_answer
      go true = low a
      go false = low a

  remade-same : (S : Session) (a : Reply) (m : Machine) (seals : List Range) (registers marks : List ℕ) → ¬ (a.number ≡ 0)
      → registers ≡ S.bench.registers → marks ≡ S.bench.marks → remade S a m seals registers marks ≡ S
  remade-same S a m seals registers marks d r k =
      ap (λ (t : Bool). session (bench_of (cond t m S.bench.machine) (cond t seals S.bench.seals) registers marks S.bench.memory) S.scalars S.lent S.run) (number-refused a d)
      ∙ ap₂ (λ (x y : List ℕ). session (bench_of S.bench.machine S.bench.seals x y S.bench.memory) S.scalars S.lent S.run) r k

  pub size_low : (m : Machine) (seals : List Range) (registers marks : List ℕ) → (size_image m seals registers marks).answer.number ≤ last_answer
  unfolding size_image
  size_low m seals registers marks = go (sound_with m seals registers marks) (length (image_of m seals registers marks))
    where
      go : (t : Bool) (n : ℕ) → (cond t (size_reply (Ok n)) (size_reply (Err Imaged.BadArguments))).answer.number ≤ last_answer
      go true n = omega arith
      go false n = omega arith

  pub write_low : (m : Machine) (seals : List Range) (registers marks room : List ℕ) → (write_image m seals registers marks room).answer.number ≤ last_answer
  unfolding write_image
  write_low m seals registers marks room = go (sound_with m seals registers marks) (image_of m seals registers marks) (leb (length (image_of m seals registers marks)) (length room))
    where
      go : (t : Bool) (i : List ℕ) (u : Bool) → (cond t (cond u (write_reply (Ok (length i)) (i ++ drop (length i) room)) (write_reply (Err Imaged.NoRoom) room)) (write_reply (Err Imaged.BadArguments) room)).answer.number ≤ last_answer
      go true i true = omega arith
      go true i false = omega arith
      go false i u = omega arith

  pub read_low : (image registers marks : List ℕ) → (read_image image registers marks).answer.number ≤ last_answer
  unfolding read_image
  read_low image registers marks = go (parse image_format image)
    where
      fit : (d : Described) (t : Bool) → (cond t (restored (machine_from d.header) d.header.seals (over (cells_in d) registers) (marks_of (cells_in d)))
          (not_restored Imaged.BadArguments registers marks)).answer.number ≤ last_answer
      fit d true = omega arith
      fit d false = omega arith

      go : (x : Parsed Described) → (read_as x registers marks).answer.number ≤ last_answer
      go (stopped p) = omega arith
      go (whole d) = fit d (fitted d registers marks)

  pub salvage-low : (image room : List ℕ) → (salvage image room).answer.number ≤ last_answer
  unfolding salvage
  salvage-low image room = go (place_in image) (kept_in image)
    where
      fit : (p : ℕ) (k : KeptPart) (f : List ℕ) (t : Bool) → (cond t (salvaged image_done (length k.body) k.announced p (length f) (f ++ drop (length f) room)) (salvaged (image_reply Imaged.NoRoom) 0 0 p 0 room)).answer.number ≤ last_answer
      fit p k f true = omega arith
      fit p k f false = omega arith

      go : (p : ℕ) (k : Option KeptPart) → (salvage_of p k room).answer.number ≤ last_answer
      go p none = omega arith
      go p (some k) = let f = spelled k.header k.body in fit p k f (leb (length f) (length room))

  -- ---- turns in number

  module _ (r : Running) where
    abbrev at : ℕ → Running
    at t = after_turns grant r t

    abbrev count : ℕ → ℕ
    count n = answered_done grant r n

    abbrev Accepted : ℕ → Type 0
    Accepted c = (t : ℕ) → t < c → (turn grant (at t)).answer.number ≡ 0

    -- all were answered 0, or one was refused, and so is the next
    abbrev So : ℕ → Type 0
    So n = ((count n ≡ n) × Accepted n) ⊎ ((count n < n) × Accepted (count n) × (at n ≡ at (count n)) × (done (turn grant (at n)).answer ≡ false))

    done-number : (a : Reply) → done a ≡ true → a.number ≡ 0
    done-number a e = eqb-true a.number 0 e

    so : (n : ℕ) → So n
    so zero = inl (refl, λ t l. absurd (omega (arith, l)))
    so (suc n) = go (so n) (done (turn grant (at n)).answer) refl
      where
        one_more : (b : Bool) → done (turn grant (at n)).answer ≡ b → count (suc n) ≡ count n + cond b 1 0
        one_more b e = ap (λ (t : Bool). count n + cond t 1 0) e

        later : Accepted n → (turn grant (at n)).answer.number ≡ 0 → Accepted (suc n)
        later h e t l = elim (eq-or-lt_of_le (le_of_suc-le-suc l)) [ inl q ↦ subst (λ (k : ℕ). (turn grant (at k)).answer.number ≡ 0) (sym q) e | inr g ↦ h t g ]

        refused-still : done (turn grant (at n)).answer ≡ false → done (turn grant (at (suc n))).answer ≡ false
        refused-still e = ap (λ (q : Running). done (turn grant q).answer) (turn-refused grant (at n) e) ∙ e

        go : So n → (b : Bool) → done (turn grant (at n)).answer ≡ b → So (suc n)
        go (inl x) true e =
            let c : count (suc n) ≡ suc n = one_more true e ∙ omega (arith, x.0) in
            inl (c, later x.1 (done-number (turn grant (at n)).answer e))
        go (inl x) false e =
            let c : count (suc n) ≡ n = one_more false e ∙ omega (arith, x.0) in
            inr (omega (arith, c), subst Accepted (sym c) x.1, turn-refused grant (at n) e ∙ ap at (sym c), refused-still e)
        go (inr x) true e = absurd (false-true (sym x.3 ∙ e))
        go (inr x) false e =
            let c : count (suc n) ≡ count n = one_more false e ∙ omega arith in
            inr (omega (arith, c, x.0), subst Accepted (sym c) x.1, turn-refused grant (at n) e ∙ x.2 ∙ ap at (sym c), refused-still e)

    counted : (n : ℕ) → Counted grant r n
    counted n = go (so n)
      where
        none_done : Accepted (count n) → sound_bench r.bench ≡ false → (count n ≡ 0) × ((turn grant r).answer.number ≡ 8)
        none_done h e =
            let f = faulty-turn r e in
            (elim (eq-zero-or-pos (count n)) [ inl z ↦ z | inr l ↦ absurd (eqb-false 8 0 refl (sym f ∙ h 0 l)) ], f)

        go : So n → Counted grant r n
        go (inl x) = record {
          at_most = omega (arith, x.0);
          accepted = λ t l. x.1 t (omega (arith, l, x.0));
          left = ap at (sym x.0);
          refused = λ l. absurd (omega (arith, l, x.0));
          faulty = none_done (λ t l. x.1 t (omega (arith, l, x.0)));
        }
        go (inr x) = record {
          at_most = omega (arith, x.0);
          accepted = x.1;
          left = x.2;
          refused = λ l e. false-true (sym x.3 ∙ number-done (turn grant (at n)).answer e);
          faulty = none_done x.1;
        }

  -- ---- all deeds

  counting : (S : Session) {d : Deed} (n : ℕ) → d ≡ Deed.does (Act.run_turns n) → Counted grant (running S.run S.bench) n
  counting S n e = counted (running S.run S.bench) n

  answers : (d : Deed) (S : Session) → Answers grant d S (deed grant d S)
  answers (Deed.start rlen mlen elen rule seals) S = record {
    number = start-low rlen mlen elen rule seals S.bench.registers S.bench.marks;
    refusal = λ h.
        let o = start_machine rlen mlen elen rule seals S.bench.registers S.bench.marks in
        let k = start-refusal-changes-nothing rlen mlen elen rule seals S.bench.registers S.bench.marks h in
        (remade-same S o.answer o.machine o.seals o.registers o.marks h k.0 k.1, refl, refl);
    counted = counting S;
  }
  answers (Deed.does a) S = record { number = act-low a S; refusal = λ h. let k = act-refused a S h in (k.0, refl, k.1); counted = counting S }
  answers Deed.image_size S = record { number = size_low S.bench.machine S.bench.seals S.bench.registers S.bench.marks; refusal = λ h. (refl, refl, refl); counted = counting S }
  answers (Deed.image_write room) S = record {
    number = write_low S.bench.machine S.bench.seals S.bench.registers S.bench.marks room;
    refusal = λ h. (refl, (write-refusal S.bench.machine S.bench.seals S.bench.registers S.bench.marks room h).1, refl);
    counted = counting S;
  }
  answers (Deed.image_read image) S = record {
    number = read_low image S.bench.registers S.bench.marks;
    refusal = λ h.
        let o = read_image image S.bench.registers S.bench.marks in
        let k = read-refusal image S.bench.registers S.bench.marks h in
        (remade-same S (record { number = o.answer.number; row = 0; column = 0 }) o.machine o.seals o.registers o.marks h k.0 k.1, refl, refl);
    counted = counting S;
  }
  answers (Deed.image_salvage image room) S = record { number = salvage-low image room; refusal = λ h. (refl, (salvage-refusal image room h).3, refl); counted = counting S }

pub every-deed-answers : EveryDeedAnswers
every-deed-answers = answers

pub every-count : (grant : Choice) (r : Running) (n : ℕ) → Counted grant r n
every-count = counted
