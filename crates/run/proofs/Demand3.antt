-- Demand 3, proved: one invariant over the place, the state and the memory, which every turn keeps.
use Rattle.numbers.proofs.Kit.{◌≡◌, refl, sym, ap, ◌∙◌, subst, ◌⊎◌, inl, inr, Bool, true, false, cond, List, [], ◌∷◌, map, Option, none, some, ℕ, zero, suc}
use Rattle.numbers.proofs.Kit.{◌+◌, ◌*◌, ◌-◌, ◌≤◌, ◌<◌, min, mul-le-mul_right, mul-pos, arith, leb, length, get_or, drop, drop_of_length-le, drop-cons, pos}
use Rattle.numbers.proofs.Kit.{leb-true, Err}
use Rattle.numbers.specs.Blocks.{Choice, EachGrants}
use Rattle.numbers.proofs.BlockLaws.{le-or-lt}
use Rattle.machine.specs.declared.Refusal.TheVariants.{BadArguments, OutsideMemory, Overlap}
use Rattle.machine.proofs.TestLaws.{every-each}
use Rattle.machine.specs.declared.Reply.{Reply}
use Rattle.machine.specs.Answers.{reply, number, done, verdict, ◌otherwise◌, Done}
use Rattle.machine.proofs.CheckLaws.{Passed, passed, no-refusal}
use Rattle.machine.specs.Geometry.{Range, sealed, Parameters, parameters, permitted, State, state_of}
use Rattle.machine.specs.Setting.{chosen}
use Rattle.machine.specs.Starting.{is_rule}
use Rattle.machine.specs.Memory.{inside, row_z, row_at}
use Rattle.machine.proofs.MemoryLaws.{inside-at}
use Rattle.machine.specs.Operation.{Operation}
use Rattle.machine.specs.Meanings.{state_after, memory_after, checks}
use Rattle.machine.specs.Geometry.{Bench}
use Rattle.machine.specs.Step.{Outcome, step_by}
use Rattle.machine.proofs.NoFault.{sound-is, bench-sound, step-sound}
use Rattle.machine.specs.Faults.{sound_bench}
use Rattle.machine.proofs.Sealing.{step-unharmed}
use Rattle.machine.proofs.StepLaws.{step-done, bench_after, permitted-lengths}
use Rattle.machine.proofs.SizeLaws.{chosen-grants}
use Rattle.run.specs.declared.Plan.{Plan}
use Rattle.run.specs.declared.Handed.{Handed}
use Rattle.run.specs.declared.Run.{Run}
use Rattle.run.specs.declared.Handed.{Handed}
use Rattle.run.specs.Encoding.{plain, word_of}
use Rattle.run.specs.declared.Place.{Place}
use Rattle.run.specs.declared.Place.TheVariants.{AtType, AtM, AtN, AtClear, AtK, AtA, AtB, AtMultiply, AtStore, AtEnd}
use Rattle.run.specs.Words.{Op, Shape, words, steps}
use Rattle.run.specs.Places.{next, word_at}
use Rattle.run.proofs.PlaceLaws.{rest, before, rest-next, rest-after, place_after, length-words}
use Rattle.run.proofs.BeginLaws.{begins-next}
use Rattle.run.specs.Plan.{Job, OutsideKept, shape, narrow, wide, form_of, a_row, a_column, a_rows, a_columns}
use Rattle.run.specs.Start.{format, kind_fit, planned, lying, separate, run_start_checks, fresh_run, no_run, start_run}
use Rattle.run.specs.Turn.{begins, sound_run, word_handed_out, steps_in, Ask, ask, Running, Turn, turn, after_turns, answered_done}
use Rattle.run.proofs.HandedLaws.{ask_with, turn_with}
use Rattle.run.proofs.RefusalLaws.{number-done, started-idle}
use Rattle.run.specs.Encoding.{own, handed_for}
use Rattle.run.proofs.WordLaws as WordLaws
use Rattle.run.proofs.WordLaws.{Reads, widest-format}
use Rattle.machine.proofs.StepLaws.{permitted-elen}
use Rattle.numbers.specs.Bounds.{most_elen}
use Rattle.run.proofs.FormLaws.{element-in}
use Rattle.run.proofs.Invariant.{operation_of, Accepted, At}
use Rattle.run.proofs.Turns
use Rattle.run.specs.Statement.{Numbers, Inside, Separate, Answered, Asks, job_of, Right, MemoryBytes, RunsAreRight, OurRunsAreRight, SmallerRunsAreRight, HalvingRunsAreRight}
use Rattle.run.proofs.StartLaws.{numbers-are, numbers-planned, inside_is, is-inside, separate-is, is-separate, accepted}

-- ---- lists

get_d_map : (f : Op → Handed) (xs : List Op) (t : ℕ) (d : Op) (d' : Handed) → t < length xs → get_or (map f xs) t d' ≡ f (get_or xs t d)
get_d_map f [] t d d' l = absurd (omega arith)
get_d_map f (x ∷ xs) zero d d' l = refl
get_d_map f (x ∷ xs) (suc t) d d' l = get_d_map f xs t d d' (omega arith)

length-map : (f : Op → Handed) (xs : List Op) → length (map f xs) ≡ length xs
length-map f [] = refl
length-map f (x ∷ xs) = ap suc (length-map f xs)

-- ---- places

none-some : (o : Op) → none ≡ some o → ⊥
none-some o e = let z : ◌≡◌ {A = ℕ} 0 1 = cc in omega arith

-- a place either is the end, or hands out one word
one_word : (S : Shape) (p : Place) → (p ≡ AtEnd) ⊎ ((o : Op) × (word_at S p ≡ some o))
one_word S AtType = inr (_, refl)
one_word S (AtM i) = inr (_, refl)
one_word S (AtN i j) = inr (_, refl)
one_word S (AtClear i j) = inr (_, refl)
one_word S (AtK i j s) = inr (_, refl)
one_word S (AtA i j s) = inr (_, refl)
one_word S (AtB i j s) = inr (_, refl)
one_word S (AtMultiply i j s) = inr (_, refl)
one_word S (AtStore i j) = inr (_, refl)
one_word S AtEnd = inl refl

kept_at : (J : Job) (p : Place) (st : State) (mem : List ℕ) → At J p st mem → OutsideKept J mem
kept_at J AtType st mem h = h.1
kept_at J (AtM i) st mem h = h.0.kept
kept_at J (AtN i j) st mem h = h.0.in-m.kept
kept_at J (AtClear i j) st mem h = h.in-n.in-m.kept
kept_at J (AtK i j s) st mem h = h.0.in_block.in-n.in-m.kept
kept_at J (AtA i j s) st mem h = h.in-k.in_block.in-n.in-m.kept
kept_at J (AtB i j s) st mem h = h.0.in-k.in_block.in-n.in-m.kept
kept_at J (AtMultiply i j s) st mem h = h.0.in-k.in_block.in-n.in-m.kept
kept_at J (AtStore i j) st mem h = h.in_block.in-n.in-m.kept
kept_at J AtEnd st mem h = h.0

-- ---- the state of a bench

abbrev held : Bench → State
held B = state_of B.machine B.registers B.marks

-- what an accepted start says
record Ready (grant : Choice) (P : Plan) (B : Bench) : Type 0 where
  grants : EachGrants grant
  sane : sound_bench B ≡ true
  lengths : permitted B.machine.rlen B.machine.mlen B.machine.elen ≡ true
  rule-is : is_rule B.machine.rule ≡ true
  plan : planned B.machine.elen P ≡ true
  accepts : Accepted (job_of grant P B) (sealed B.seals)
  formatted : format most_elen P.sew P.factor ≡ true
  m≤ : P.m ≤ 1024
  k≤ : P.k ≤ 1024
  n≤ : P.n ≤ 1024
  addressed : length B.memory ≤ 0x1_0000_0000_0000_0000

module _ (grant : Choice) (P : Plan) (B₀ : Bench) where
  abbrev J : Job
  J = job_of grant P B₀

  abbrev S : Shape
  S = shape J

  -- the run at a place
  abbrev at : Place → Bench → Running
  at p B = record { run = record { plan = P; rlen = B₀.machine.rlen; mlen = B₀.machine.mlen; rule = B₀.machine.rule; elen = B₀.machine.elen; place = p }; bench = B }

  -- the invariant
  record Holds (p : Place) (B : Bench) : Type 0 where
    here : At J p (held B) B.memory
    begun : begins S p ≡ true
    sane : sound_bench B ≡ true
    same : parameters grant B.machine ≡ parameters grant B₀.machine
    seals : B.seals ≡ B₀.seals

  -- what a word that is handed out does
  abbrev stepped : Op → Bench → Outcome
  stepped o B = step_by grant (handed_for P o).word (own (handed_for P o)) B

  record Done' (p : Place) (o : Op) (B : Bench) : Type 0 where
    answers : (stepped o B).answer ≡ reply Done
    holds : Holds (next S p) (stepped o B).bench

module _ (grant : Choice) (P : Plan) (B₀ : Bench) (R : Ready grant P B₀) where
  abbrev A : Accepted (J grant P B₀) (sealed B₀.seals)
  A = R.accepts

  by_word : (p : Place) (o : Op) (B : Bench) → Holds grant P B₀ p B
      → Reads (parameters grant B.machine) (held B) (handed_for P o) (operation_of P o)
      → Turns.Turned (J grant P B₀) (sealed B₀.seals) A p (operation_of P o) (held B) B.memory → Done' grant P B₀ p o B
  by_word p o B h r t =
      let M : Parameters = parameters grant B.machine in
      let M₀ : Parameters = parameters grant B₀.machine in
      let q : Operation = operation_of P o in
      let w : ℕ = (handed_for P o).word in
      let xs : List ℕ = own (handed_for P o) in
      let d = step-done grant w xs B r.instruction q r.decodes h.sane refl r.means
      (subst (λ (rs : List Range). Passed (checks M (sealed rs) q (held B) B.memory)) (sym h.seals)
      (subst (λ (M : Parameters). Passed (checks M (sealed B₀.seals) q (held B) B.memory)) (sym h.same) t.0)) in
      let a : At (J grant P B₀) (next (S grant P B₀) p) (held (bench_after M q (held B) B)) (bench_after M q (held B) B).memory =
      subst (λ (M : Parameters). At (J grant P B₀) (next (S grant P B₀) p) (state_after M q (held B) B.memory) (memory_after M q (held B) B.memory)) (sym h.same) t.1 in
      record {
        answers = d.0;
        holds = record {
          here = subst (λ (C : Bench). At (J grant P B₀) (next (S grant P B₀) p) (held C) C.memory) (sym d.1) a;
          begun = begins-next (S grant P B₀) (Turns.sound (J grant P B₀) (sealed B₀.seals) A) p h.begun;
          sane = step-sound grant R.grants w xs B h.sane;
          same = (step-unharmed grant w xs B).same-parameters ∙ h.same;
          seals = ap (λ (C : Bench). C.seals) d.1 ∙ h.seals;
        };
      }

  -- an address of the run fits 64 bits
  small : (base stride total n w : ℕ) → zero < w → inside (length B₀.memory) base stride total (n * w) ≡ true → (i j : ℕ) → i < total → j < n
      → row_at base stride i + j * w < 0x1_0000_0000_0000_0000
  small base stride total n w 0<w h i j l l' =
      omega (arith, mul-le-mul_right w l', R.addressed, (inside-at (length B₀.memory) base stride total (n * w) h (mul-pos {m = n} (omega arith) 0<w) i l).1)

  -- and its row lies at 0 or above
  whole : (base stride total n w : ℕ) → zero < w → inside (length B₀.memory) base stride total (n * w) ≡ true → (i j : ℕ) → i < total → j < n
      → row_z base stride i ≡ pos (row_at base stride i)
  whole base stride total n w 0<w h i j l l' = (inside-at (length B₀.memory) base stride total (n * w) h (mul-pos {m = n} (omega arith) 0<w) i l).0

  -- a run in the invariant hands out its place's word
  hands : (p : Place) (B : Bench) → Holds grant P B₀ p B → word_handed_out grant (at grant P B₀ p B).run ≡ word_at (S grant P B₀) p
  unfolding sound_run
  hands p B h = rw (R.lengths, R.rule-is, R.plan, h.begun)

  -- and tells its number of steps
  tells : (p : Place) (B : Bench) → Holds grant P B₀ p B → steps_in grant (at grant P B₀ p B).run ≡ steps (S grant P B₀)
  unfolding sound_run
  tells p B h = rw (R.lengths, R.rule-is, R.plan, h.begun)

  -- every place but the end hands out a word that is done, and the invariant goes on
  abbrev Advanced : Place → Bench → Type 0
  Advanced p B = Holds grant P B₀ (next (S grant P B₀) p) (turn grant (at grant P B₀ p B)).after.bench × ((p ≡ AtEnd) ⊎ ((turn grant (at grant P B₀ p B)).answer ≡ reply Done))

  advanced : (p : Place) (o : Op) (B : Bench) → Holds grant P B₀ p B → word_at (S grant P B₀) p ≡ some o → Done' grant P B₀ p o B → Advanced p B
  advanced p o B h e d =
      subst (λ (ws : Option Op). Holds grant P B₀ (next (S grant P B₀) p) (turn_with grant (at grant P B₀ p B) ws).after.bench
      × ((p ≡ AtEnd) ⊎ ((turn_with grant (at grant P B₀ p B) ws).answer ≡ reply Done))) (sym (hands p B h ∙ e)) (d.holds, inr d.answers)

  advance : (p : Place) (B : Bench) → Holds grant P B₀ p B → Advanced p B
  advance AtType B h =
      advanced AtType Op.set_type B h refl (by_word AtType Op.set_type B h (WordLaws.reads_type (parameters grant B.machine) P R.formatted (held B))
      (Turns.turn-type (J grant P B₀) (sealed B₀.seals) A (held B) B.memory h.here))
  advance (AtM i) B h =
      advanced (AtM i) (Op.set_m (P.m - i)) B h refl (by_word (AtM i) (Op.set_m (P.m - i)) B h
      (WordLaws.reads-m (parameters grant B.machine) P R.formatted (held B) (P.m - i) (omega (arith, R.m≤)))
      (Turns.turn-m (J grant P B₀) (sealed B₀.seals) A i (held B) B.memory h.here))
  advance (AtN i j) B h =
      advanced (AtN i j) (Op.set_n (P.n - j)) B h refl (by_word (AtN i j) (Op.set_n (P.n - j)) B h
      (WordLaws.reads-n (parameters grant B.machine) P R.formatted (held B) (P.n - j) (omega (arith, R.n≤)))
      (Turns.turn-n (J grant P B₀) (sealed B₀.seals) A i j (held B) B.memory h.here))
  advance (AtClear i j) B h =
      advanced (AtClear i j) Op.clear B h refl (by_word (AtClear i j) Op.clear B h
      (WordLaws.reads-clear (parameters grant B.machine) P R.formatted (held B))
      (Turns.turn-clear (J grant P B₀) (sealed B₀.seals) A i j (held B) B.memory h.here))
  advance (AtK i j s) B h =
      advanced (AtK i j s) (Op.set_k (P.k - s)) B h refl (by_word (AtK i j s) (Op.set_k (P.k - s)) B h
      (WordLaws.reads-k (parameters grant B.machine) P R.formatted (held B) (P.k - s) (omega (arith, R.k≤)))
      (Turns.turn-k (J grant P B₀) (sealed B₀.seals) A i j s (held B) B.memory h.here))
  advance (AtA i j s) B h =
      let in-a = element-in (form_of P) i s P.m P.k h.here.in-k.in_block.in-n.i<m h.here.s<k in
      advanced (AtA i j s) (Op.load_a i s) B h refl (by_word (AtA i j s) (Op.load_a i s) B h
      (WordLaws.reads-a (parameters grant B.machine) P R.formatted (held B) i s
      (whole P.a.address P.a.stride (a_rows P) (a_columns P) (narrow P) A.0<narrow A.a_in (a_row P i s) (a_column P i s) in-a.0 in-a.1)
      (small P.a.address P.a.stride (a_rows P) (a_columns P) (narrow P) A.0<narrow A.a_in (a_row P i s) (a_column P i s) in-a.0 in-a.1))
      (Turns.turn-a (J grant P B₀) (sealed B₀.seals) A i j s (held B) B.memory h.here))
  advance (AtB i j s) B h =
      advanced (AtB i j s) (Op.load_b s j) B h refl (by_word (AtB i j s) (Op.load_b s j) B h
      (WordLaws.reads-b (parameters grant B.machine) P R.formatted (held B) s j
      (whole P.b.address P.b.stride P.k P.n (narrow P) A.0<narrow A.b-in s j h.here.0.s<k h.here.0.in-k.in_block.j<n)
      (small P.b.address P.b.stride P.k P.n (narrow P) A.0<narrow A.b-in s j h.here.0.s<k h.here.0.in-k.in_block.j<n))
      (Turns.turn-b (J grant P B₀) (sealed B₀.seals) A i j s (held B) B.memory h.here))
  advance (AtMultiply i j s) B h =
      advanced (AtMultiply i j s) Op.multiply B h refl (by_word (AtMultiply i j s) Op.multiply B h
      (WordLaws.reads-multiply (parameters grant B.machine) P R.formatted (held B))
      (Turns.turn-multiply (J grant P B₀) (sealed B₀.seals) A i j s (held B) B.memory h.here))
  advance (AtStore i j) B h =
      advanced (AtStore i j) (Op.store i j) B h refl (by_word (AtStore i j) (Op.store i j) B h
      (WordLaws.reads-store (parameters grant B.machine) P R.formatted (held B) i j
      (whole P.c.address P.c.stride P.m P.n (wide P) A.0<wide A.c-in i j h.here.in_block.in-n.i<m h.here.in_block.j<n)
      (small P.c.address P.c.stride P.m P.n (wide P) A.0<wide A.c-in i j h.here.in_block.in-n.i<m h.here.in_block.j<n))
      (Turns.turn-store (J grant P B₀) (sealed B₀.seals) A i j (held B) B.memory h.here))
  advance AtEnd B h =
      subst (λ (ws : Option Op). Holds grant P B₀ AtEnd (turn_with grant (at grant P B₀ AtEnd B) ws).after.bench × ((AtEnd ≡ AtEnd) ⊎ ((turn_with grant (at grant P B₀ AtEnd B) ws).answer ≡ reply Done)))
      (sym (hands AtEnd B h)) (h, inl refl)

  -- ---- after t turns

  abbrev after : ℕ → Running
  after t = after_turns grant (at grant P B₀ AtType B₀) t

  abbrev Moved : Place → Bench → Option Op → Type 0
  Moved p B ws = (turn_with grant (at grant P B₀ p B) ws).after ≡ at grant P B₀ (next (S grant P B₀) p) (turn_with grant (at grant P B₀ p B) ws).after.bench

  moves : (p : Place) (B : Bench) → Holds grant P B₀ p B → Moved p B (word_handed_out grant (at grant P B₀ p B).run)
  moves p B h = subst (Moved p B) (sym (hands p B h)) (go (one_word (S grant P B₀) p))
    where
      zero-told : (o : Op) → word_at (S grant P B₀) p ≡ some o → (stepped grant P B₀ o B).answer ≡ reply Done
      zero-told o e = elim (advance p B h).1 [
        | inl z ↦ absurd (none-some o (sym (ap (word_at (S grant P B₀)) z) ∙ e))
        | inr d ↦ subst (λ (ws : Option Op). (turn_with grant (at grant P B₀ p B) ws).answer ≡ reply Done) (hands p B h ∙ e) d
      ]

      go : (p ≡ AtEnd) ⊎ ((o : Op) × (word_at (S grant P B₀) p ≡ some o)) → Moved p B (word_at (S grant P B₀) p)
      go (inl e) = subst (λ (p : Place). Moved p B (word_at (S grant P B₀) p)) (sym e) refl
      go (inr (o, e)) = subst (Moved p B) (sym e) (ap (λ (a : Reply). record { run = cond (done a) (at grant P B₀ (next (S grant P B₀) p) B).run (at grant P B₀ p B).run; bench = (stepped grant P B₀ o B).bench }) (zero-told o e))

  -- only the place and the bench of a run change, and the invariant holds
  both : (t : ℕ) → (after t ≡ at grant P B₀ (place_after (S grant P B₀) t) (after t).bench) × Holds grant P B₀ (place_after (S grant P B₀) t) (after t).bench
  both zero =
      let s = sound-is B₀.machine B₀.registers B₀.marks (bench-sound B₀ R.sane) in
      let n = permitted-lengths B₀.machine.rlen B₀.machine.mlen B₀.machine.elen s.lengths in (
        refl,
        record {
          here = (record { regs-length = s.state.regs-length ∙ sym n.2; marks-length = s.state.marks-length ∙ sym n.2 }, record { same_length = refl; outside = λ q o. refl });
          begun = refl;
          sane = R.sane;
          same = refl;
          seals = refl;
        },
      )
  both (suc t) =
      let p : Place = place_after (S grant P B₀) t in
      let e : after t ≡ at grant P B₀ p (after t).bench = (both t).0 in
      let h : Holds grant P B₀ p (after t).bench = (both t).1 in (
        subst (λ (r : Running). (turn grant r).after ≡ at grant P B₀ (next (S grant P B₀) p) (turn grant r).after.bench) (sym e) (moves p (after t).bench h),
        subst (λ (r : Running). Holds grant P B₀ (next (S grant P B₀) p) (turn grant r).after.bench) (sym e) (advance p (after t).bench h).0,
      )

  stays : (t : ℕ) → after t ≡ at grant P B₀ (place_after (S grant P B₀) t) (after t).bench
  stays t = (both t).0

  holding : (t : ℕ) → Holds grant P B₀ (place_after (S grant P B₀) t) (after t).bench
  holding t = (both t).1

  to-come : (t : ℕ) → rest (S grant P B₀) (place_after (S grant P B₀) t) ≡ drop t (words (S grant P B₀))
  to-come t = rest-after (S grant P B₀) (Turns.sound (J grant P B₀) (sealed B₀.seals) A) t

  at-end : (t : ℕ) → steps (S grant P B₀) ≤ t → place_after (S grant P B₀) t ≡ AtEnd
  at-end t l = go (one_word (S grant P B₀) (place_after (S grant P B₀) t))
    where
      none : rest (S grant P B₀) (place_after (S grant P B₀) t) ≡ []
      none = to-come t ∙ drop_of_length-le (words (S grant P B₀)) {i = t} (omega (arith, length-words (S grant P B₀) (Turns.sound (J grant P B₀) (sealed B₀.seals) A)))

      go : (place_after (S grant P B₀) t ≡ AtEnd) ⊎ ((o : Op) × (word_at (S grant P B₀) (place_after (S grant P B₀) t) ≡ some o)) → place_after (S grant P B₀) t ≡ AtEnd
      go (inl e) = e
      go (inr (o, e)) =
          let z : suc (length (rest (S grant P B₀) (next (S grant P B₀) (place_after (S grant P B₀) t)))) ≡ 0 =
          ap length (ap (λ (w : Option Op). before w (rest (S grant P B₀) (next (S grant P B₀) (place_after (S grant P B₀) t)))) (sym e) ∙ sym (rest-next (S grant P B₀) (Turns.sound (J grant P B₀) (sealed B₀.seals) A) (place_after (S grant P B₀) t)) ∙ none) in
          absurd (omega arith)

  not_end : (t : ℕ) → t < steps (S grant P B₀) → place_after (S grant P B₀) t ≡ AtEnd → ⊥
  not_end t l e =
      let z : 0 ≡ suc (length (drop (suc t) (words (S grant P B₀)))) =
      ap length (ap (rest (S grant P B₀)) (sym e) ∙ to-come t ∙ drop-cons (words (S grant P B₀)) t Op.set_type (omega (arith, length-words (S grant P B₀) (Turns.sound (J grant P B₀) (sealed B₀.seals) A)))) in
      omega arith

  -- the word at the place after t turns is word t of the list
  here-is : (t : ℕ) → t < steps (S grant P B₀) → (o : Op) × ((word_at (S grant P B₀) (place_after (S grant P B₀) t) ≡ some o) × (handed_for P o ≡ word_of (J grant P B₀) t))
  here-is t l = go (one_word (S grant P B₀) p)
    where
      p : Place
      p = place_after (S grant P B₀) t

      go : (p ≡ AtEnd) ⊎ ((o : Op) × (word_at (S grant P B₀) p ≡ some o)) → (o : Op) × ((word_at (S grant P B₀) p ≡ some o) × (handed_for P o ≡ word_of (J grant P B₀) t))
      go (inl e) = absurd (not_end t l e)
      go (inr (o, e)) = (
        o,
        (
          e,
          ap (λ (w : List Op). handed_for P (get_or w 0 Op.set_type)) (
              ap (λ (w : Option Op). before w (rest (S grant P B₀) (next (S grant P B₀) p))) (sym e)
              ∙ sym (rest-next (S grant P B₀) (Turns.sound (J grant P B₀) (sealed B₀.seals) A) p) ∙ to-come t ∙ drop-cons (words (S grant P B₀)) t Op.set_type (omega (arith, length-words (S grant P B₀) (Turns.sound (J grant P B₀) (sealed B₀.seals) A))))
              ∙ sym (get_d_map (handed_for P) (words (S grant P B₀)) t Op.set_type (plain 0) (omega (arith, length-words (S grant P B₀) (Turns.sound (J grant P B₀) (sealed B₀.seals) A)))),
        ),
      )

  -- what the run at the place after t turns hands out
  handing : (t : ℕ) → word_handed_out grant (at grant P B₀ (place_after (S grant P B₀) t) (after t).bench).run ≡ word_at (S grant P B₀) (place_after (S grant P B₀) t)
  handing t = hands (place_after (S grant P B₀) t) (after t).bench (holding t)

  hands_out : (t : ℕ) → t < steps (S grant P B₀) → (turn grant (after t)).handed ≡ some (word_of (J grant P B₀) t)
  hands_out t l =
      let (o, (e, w)) = here-is t l in
      let r : Running = at grant P B₀ (place_after (S grant P B₀) t) (after t).bench in
      ap (λ (r : Running). (turn grant r).handed) (stays t)
      ∙ ap (λ (o : Option Op). (turn_with grant r o).handed) (handing t ∙ e)
      ∙ ap (λ (h : Handed). some h) w

  asks-for : (t : ℕ) → t < steps (S grant P B₀) → Asks (ask grant (after t).run) 0 (some (word_of (J grant P B₀) t)) (after (suc t)).run
  asks-for t l =
      let (o, (e, w)) = here-is t l in
      let R : Run = (at grant P B₀ (place_after (S grant P B₀) t) (after t).bench).run in
      let q : ask grant (after t).run ≡ ask_with grant R (some o) = ap (λ (r : Running). ask grant r.run) (stays t) ∙ ap (ask_with grant R) (handing t ∙ e) in
      record {
        answers = ap (λ (a : Ask). a.answer.number) q;
        hands_out = ap (λ (a : Ask). a.handed) q ∙ ap (λ (h : Handed). some h) w;
        leaves = ap (λ (a : Ask). a.run) q ∙ sym (ap (λ (r : Running). r.run) (stays (suc t)));
      }

  is-done : (t : ℕ) → t < steps (S grant P B₀) → (turn grant (after t)).answer ≡ reply Done
  is-done t l = subst (λ (r : Running). (turn grant r).answer ≡ reply Done) (sym (stays t))
      (elim (advance (place_after (S grant P B₀) t) (after t).bench (holding t)).1 [ inl e ↦ absurd (not_end t l e) | inr e ↦ e ])

  ended : (t : ℕ) → steps (S grant P B₀) ≤ t → turn grant (after t) ≡ record { answer = reply (Err BadArguments); handed = none; after = after t }
  ended t l =
      let e : after t ≡ at grant P B₀ AtEnd (after t).bench = stays t ∙ ap (λ (p : Place). at grant P B₀ p (after t).bench) (at-end t l) in
      let h : Holds grant P B₀ AtEnd (after t).bench = subst (λ (p : Place). Holds grant P B₀ p (after t).bench) (at-end t l) (holding t) in
      subst (λ (r : Running). turn grant r ≡ record { answer = reply (Err BadArguments); handed = none; after = r }) (sym e)
      (ap (turn_with grant (at grant P B₀ AtEnd (after t).bench)) (hands AtEnd (after t).bench h))

  asks-no-more : (t : ℕ) → steps (S grant P B₀) ≤ t → Asks (ask grant (after t).run) 8 none (after t).run
  asks-no-more t l =
      let R : Run = (at grant P B₀ (place_after (S grant P B₀) t) (after t).bench).run in
      let q : ask grant (after t).run ≡ ask_with grant R none = ap (λ (r : Running). ask grant r.run) (stays t) ∙ ap (ask_with grant R) (handing t ∙ ap (word_at (S grant P B₀)) (at-end t l)) in
      record {
        answers = ap (λ (a : Ask). a.answer.number) q;
        hands_out = ap (λ (a : Ask). a.handed) q;
        leaves = ap (λ (a : Ask). a.run) q ∙ sym (ap (λ (r : Running). r.run) (stays t));
      }

  counted : (t : ℕ) → answered_done grant (at grant P B₀ AtType B₀) t ≡ min t (steps (S grant P B₀))
  counted zero = omega arith
  counted (suc t) = go (le-or-lt (steps (S grant P B₀)) t) (counted t)
    where
      more : Reply → ℕ
      more a = answered_done grant (at grant P B₀ AtType B₀) t + cond (done a) 1 0

      go : (steps (S grant P B₀) ≤ t) ⊎ (t < steps (S grant P B₀)) → answered_done grant (at grant P B₀ AtType B₀) t ≡ min t (steps (S grant P B₀))
          → answered_done grant (at grant P B₀ AtType B₀) (suc t) ≡ min (suc t) (steps (S grant P B₀))
      go (inl l) ih =
          let e : answered_done grant (at grant P B₀ AtType B₀) (suc t) ≡ answered_done grant (at grant P B₀ AtType B₀) t + 0 = ap more (ap (λ (u : Turn). u.answer) (ended t l)) in
          omega (arith, e, ih)
      go (inr l) ih =
          let e : answered_done grant (at grant P B₀ AtType B₀) (suc t) ≡ answered_done grant (at grant P B₀ AtType B₀) t + 1 = ap more (is-done t l) in
          omega (arith, e, ih)

  right : (t : ℕ) → Right grant (J grant P B₀) (at grant P B₀ AtType B₀) t
  right t = record {
    next-done = λ l. record { answers = ap (λ (a : Reply). a.number) (is-done t l); hands_out = hands_out t l; leaves = refl };
    past_end = λ l. record {
      answers = ap (λ (u : Turn). u.answer.number) (ended t l);
      hands_out = ap (λ (u : Turn). u.handed) (ended t l);
      leaves = ap (λ (u : Turn). u.after) (ended t l);
    };
    asks = asks-for t;
    asks-past-end = asks-no-more t;
    kept = kept_at (J grant P B₀) (place_after (S grant P B₀) t) (held (after t).bench) (after t).bench.memory (holding t).here;
    product = λ l i j li lj. (subst (λ (p : Place). At (J grant P B₀) p (held (after t).bench) (after t).bench.memory) (at-end t l) (holding t).here).1 i j li li lj;
    count = counted t;
    tells = ap (λ (r : Running). steps_in grant r.run) (stays t) ∙ tells (place_after (S grant P B₀) t) (after t).bench (holding t);
  }

-- ---- the start

module _ (grant : Choice) (G : EachGrants grant) (P : Plan) (B : Bench) (bytes : MemoryBytes B.memory) where
  ready : Passed (run_start_checks grant P B) → Ready grant P B
  unfolding planned
  ready c =
      let t = every-each (format B.machine.elen P.sew P.factor ∷ leb P.m 1024 ∷ leb P.k 1024 ∷ leb P.n 1024 ∷ kind_fit P ∷ []) c.1.0 in
      record {
        grants = G;
        sane = c.0;
        lengths = (sound-is B.machine B.registers B.marks (bench-sound B c.0)).lengths;
        rule-is = (sound-is B.machine B.registers B.marks (bench-sound B c.0)).rule-is;
        plan = c.1.0;
        accepts = accepted grant G P B bytes (sound-is B.machine B.registers B.marks (bench-sound B c.0)).lengths t.0 t.1.1.1.1.0 c.1.1.0 c.1.1.1.0;
        formatted = widest-format B.machine.elen P.sew P.factor (permitted-elen B.machine.rlen B.machine.mlen B.machine.elen (sound-is B.machine B.registers B.marks (bench-sound B c.0)).lengths).0 t.0;
        m≤ = leb-true P.m 1024 t.1.0;
        k≤ = leb-true P.k 1024 t.1.1.0;
        n≤ = leb-true P.n 1024 t.1.1.1.0;
        addressed = bytes.addressed;
      }

  is-passed : (start_run grant P B).answer.number ≡ 0 → Passed (run_start_checks grant P B)
  unfolding start_run
  is-passed e = passed (run_start_checks grant P B) refl (number-done (reply (verdict (run_start_checks grant P B))) e)

  runs-fresh : (start_run grant P B).answer.number ≡ 0 → (start_run grant P B).run ≡ fresh_run B.machine P
  unfolding start_run
  runs-fresh e = ap (λ (t : Bool). cond t (fresh_run B.machine P) (no_run P)) (number-done (reply (verdict (run_start_checks grant P B))) e)

  answers : Answered P B (start_run grant P B).answer
  unfolding start_run
  answers = record {
    gives-0 = λ n i s. ap number (no-refusal (run_start_checks grant P B) (n.no-fault, (numbers-planned P B n, (is-inside P B.memory i, (is-separate B.seals P s, tt)))));
    only_then = λ e. let c = is-passed e in
        (numbers-are P B c.0 c.1.0, inside_is P B.memory c.1.1.0, separate-is B.seals P c.1.1.1.0);
    gives-8 = λ d. eight d (sound_bench B) refl (planned B.machine.elen P) refl;
    gives-6 = λ n d. six n d (lying P B.memory) refl;
    gives-9 = λ n i d. nine n i d (separate (sealed B.seals) P) refl;
  }
    where
      rest_of : Bool → Bool → Bool → Bool → ℕ
      rest_of s p l d = number (verdict ((s otherwise BadArguments) ∷ (p otherwise BadArguments) ∷ (l otherwise OutsideMemory) ∷ (d otherwise Overlap) ∷ []))

      eight : ¬ Numbers P B → (s : Bool) → sound_bench B ≡ s → (p : Bool) → planned B.machine.elen P ≡ p
          → rest_of s p (lying P B.memory) (separate (sealed B.seals) P) ≡ 8
      eight d true es true ep = absurd (d (numbers-are P B es ep))
      eight d true es false ep = refl
      eight d false es p ep = refl

      six : Numbers P B → ¬ Inside P B.memory → (l : Bool) → lying P B.memory ≡ l
          → rest_of (sound_bench B) (planned B.machine.elen P) l (separate (sealed B.seals) P) ≡ 6
      six n d true e = absurd (d (inside_is P B.memory e))
      six n d false e = rw (n.no-fault, numbers-planned P B n)

      nine : Numbers P B → Inside P B.memory → ¬ Separate B.seals P → (d : Bool) → separate (sealed B.seals) P ≡ d
          → rest_of (sound_bench B) (planned B.machine.elen P) (lying P B.memory) d ≡ 9
      nine n i d true e = absurd (d (separate-is B.seals P e))
      nine n i d false e = rw (n.no-fault, numbers-planned P B n, is-inside P B.memory i)

-- ---- demand 3

pub demand-3 : RunsAreRight
unfolding start_run
demand-3 grant G P B bytes = record {
  answered = answers grant G P B bytes;
  unchanged = refl;
  as_many = λ e. length-map (handed_for P) (words (shape (job_of grant P B))) ∙ length-words (shape (job_of grant P B)) (Turns.sound (job_of grant P B) (sealed B.seals) (ready grant G P B bytes (is-passed grant G P B bytes e)).accepts);
  turns = λ e t. subst (λ (r : Run). Right grant (job_of grant P B) (record { run = r; bench = B }) t) (sym (runs-fresh grant G P B bytes e)) (right grant P B (ready grant G P B bytes (is-passed grant G P B bytes e)) t);
  idle = started-idle grant P B;
}

-- for our choice of sizes
pub demand-3-ours : OurRunsAreRight
demand-3-ours = demand-3 chosen chosen-grants

-- and for each of our rules
pub demand-3-smaller : SmallerRunsAreRight
unfolding chosen
demand-3-smaller P B e bytes = (ap chosen e, demand-3-ours P B bytes)

pub demand-3-halving : HalvingRunsAreRight
unfolding chosen
demand-3-halving P B e bytes = (ap chosen e, demand-3-ours P B bytes)
