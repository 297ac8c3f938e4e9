-- What turns answer and leave, from what carrying out their words does.
use Rattle.numbers.proofs.Kit.{◌≡◌, refl, sym, ap, ◌∙◌, subst, Bool, true, false, cond, Option, none, some, ℕ, ◌+◌, arith, Err}
use Rattle.machine.specs.declared.Refusal.TheVariants.{BadArguments}
use Rattle.machine.specs.declared.Reply.{Reply}
use Rattle.machine.specs.Answers.{reply, done}
use Rattle.machine.specs.Geometry.{Bench}
use Rattle.machine.specs.Setting.{chosen}
use Rattle.machine.specs.Faults.{sound, seals_fit, sound_bench}
use Rattle.machine.proofs.NoFault.{bench-sound, sound-bench}
use Rattle.run.specs.declared.Run.{Run}
use Rattle.run.specs.Words.{Op}
use Rattle.run.specs.Places.{word_at}
use Rattle.run.specs.Turn.{sound_run, run_shape, moved, Running, running, turn, TurnOutcome, turn_outcome, TurnsOutcome, turns}
use Rattle.run.proofs.HandedLaws.{turn_with}
use Rattle.run.proofs.RefusalLaws.{turn-refused}
use Rattle.run_carry.specs.Parts.{Carried, carried_by, carried_at}
use Rattle.run_turn.specs.Parts.{Taking}
use Rattle.run_turn.proofs.TurnLaws.{leaving, turn-sound, turn-run, taking, joined, turns-join, turns-stop, turns_more}

-- ---- a turn

-- the turn of a sound run, from what carrying out its word answers and leaves
pub turn-carried : (R : Run) (B : Bench) → sound_run chosen R ≡ true → (k : Carried) → k ≡ carried_at R B → (t : Bool) → done k.answer ≡ t
    → leaving k.answer (running (cond t (moved chosen R) R) k.bench) ≡ turn_outcome chosen (running R B)
turn-carried R B ok k e t d =
    ap (λ (t : Bool). leaving k.answer (running (cond t (moved chosen R) R) k.bench)) (sym d)
    ∙ ap (λ (k : Carried). leaving k.answer (running (cond (done k.answer) (moved chosen R) R) k.bench)) e
    ∙ go (word_at (run_shape chosen R) R.place)
    ∙ ap (λ (o : Option Op). leaving (turn_with chosen (running R B) o).answer (turn_with chosen (running R B) o).after)
    (ap (λ (t : Bool). cond t (word_at (run_shape chosen R) R.place) none) (sym ok))
  where
    go : (o : Option Op)
        → leaving (carried_by R.plan o B).answer (running (cond (done (carried_by R.plan o B).answer) (moved chosen R) R) (carried_by R.plan o B).bench)
        ≡ leaving (turn_with chosen (running R B) o).answer (turn_with chosen (running R B) o).after
    go none = refl
    go (some o) = refl

pub turn_moved : (R : Run) (B : Bench) → sound_run chosen R ≡ true → (k : Carried) → k ≡ carried_at R B → done k.answer ≡ true → (R' : Run) → R' ≡ moved chosen R
    → leaving k.answer (running R' k.bench) ≡ turn_outcome chosen (running R B)
turn_moved R B ok k e d R' eR = ap (λ (R : Run). leaving k.answer (running R k.bench)) eR ∙ turn-carried R B ok k e true d

-- a word that is refused changes nothing
pub word_kept : (R : Run) (B : Bench) → sound_run chosen R ≡ true → (k : Carried) → k ≡ carried_at R B → done k.answer ≡ false → B ≡ k.bench
word_kept R B ok k e d =
    let h = turn-carried R B ok k e false d in
    let f : done (turn chosen (running R B)).answer ≡ false = sym (ap (λ (o : TurnOutcome). done o.answer) h) ∙ d in
    sym (ap (λ (r : Running). r.bench) (turn-refused chosen (running R B) f)) ∙ ap (λ (o : TurnOutcome). o.after.bench) (sym h)

-- a run that no start can have made: every turn is refused
pub turn-unsound : (R : Run) (B : Bench) → sound_run chosen R ≡ false → leaving (reply (Err BadArguments)) (running R B) ≡ turn_outcome chosen (running R B)
turn-unsound R B h =
    ap (λ (t : Bool). let o : Option Op = cond t (word_at (run_shape chosen R) R.place) none in leaving (turn_with chosen (running R B) o).answer (turn_with chosen (running R B) o).after) (sym h)

pub turns-unsound : (R : Run) (B : Bench) (n : ℕ) → sound_run chosen R ≡ false → taking 0 (running R B) ≡ turns chosen (running R B) n
turns-unsound R B n h = turns-stop (running R B) 0 n (omega arith) (ap (λ (o : TurnOutcome). done o.answer) (sym (turn-unsound R B h)))

-- ---- turns that were answered 0

pub none-taken : {R : Run} {B : Bench} → sound_run chosen R ≡ true → sound B.machine B.registers B.marks ≡ true → seals_fit B.seals ≡ true → Taking (running R B) 0 R B
none-taken {R} {B} ok s fit = record { taken = refl; run_sound = ok; bench-sound = sound-bench B s fit }

module _ {r : Running} {n : ℕ} {R : Run} {B : Bench} (t : Taking r n R B) where
  -- the state but for its ranges
  pub taken-sane : sound B.machine B.registers B.marks ≡ true
  taken-sane = bench-sound B t.bench-sound

  -- one more, from what it answers and leaves
  pub turn-taken : (a : Reply) (R' : Run) (B' : Bench) → leaving a (running R' B') ≡ turn_outcome chosen (running R B) → done a ≡ true → Taking r (n + 1) R' B'
  turn-taken a R' B' h d = record {
    taken = turns_more r (running R B) n t.taken (leaving a (running R' B')) h d;
    run_sound = ap (λ (o : TurnOutcome). sound_run chosen o.after.run) h ∙ turn-run (running R B) t.run_sound;
    bench-sound = ap (λ (o : TurnOutcome). sound_bench o.after.bench) h ∙ turn-sound (running R B) t.bench-sound;
  }

  -- or from what carrying out its word does
  pub word-taken : (k : Carried) → k ≡ carried_at R B → done k.answer ≡ true → (R' : Run) → R' ≡ moved chosen R → Taking r (n + 1) R' k.bench
  word-taken k e d R' eR = turn-taken k.answer R' k.bench (turn_moved R B t.run_sound k e d R' eR) d

  -- or several
  pub more-taken : {c : ℕ} {R' : Run} {B' : Bench} → Taking (running R B) c R' B' → Taking r (n + c) R' B'
  more-taken {c} u = record {
    taken = ap (λ (o : TurnsOutcome). taking (n + o.count) o.after) u.taken ∙ ap (λ (o : TurnsOutcome). joined o c) t.taken ∙ sym (turns-join r n c);
    run_sound = u.run_sound;
    bench-sound = u.bench-sound;
  }

pub taken-from : {r r' : Running} {n : ℕ} {R : Run} {B : Bench} → r ≡ r' → Taking r n R B → Taking r' n R B
taken-from {r} {r'} {n} {R} {B} e t = subst (λ (r : Running). Taking r n R B) e t

-- the same count, run and state by other names
pub taken_as : {r : Running} {n n' : ℕ} {R R' : Run} {B B' : Bench} → n ≡ n' → R ≡ R' → B ≡ B' → Taking r n R B → Taking r n' R' B'
taken_as {r} {n} {n'} {R} {R'} {B} {B'} en eR eB t =
    subst (λ (n : ℕ). Taking r n R' B') en (subst (λ (R : Run). Taking r n R B') eR (subst (λ (B : Bench). Taking r n R B) eB t))

-- the run at the place where a turn, or turns, end
pub turn_at : (a : Reply) (U U' : Run) (B : Bench) (t : TurnOutcome) → U ≡ U' → leaving a (running U' B) ≡ t → leaving a (running U B) ≡ t
turn_at a U U' B t e h = ap (λ (U : Run). leaving a (running U B)) e ∙ h

pub at-end : (n : ℕ) (U U' : Run) (B : Bench) (t : TurnsOutcome) → U ≡ U' → taking n (running U' B) ≡ t → taking n (running U B) ≡ t
at-end n U U' B t e h = ap (λ (U : Run). taking n (running U B)) e ∙ h
