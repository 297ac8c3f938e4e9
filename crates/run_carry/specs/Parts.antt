-- What the contracts of inner functions name; a reader of the demand need not read it.
use Rattle.std.specs.Prelude.{◌≡◌, ◌*◌}
use Rattle.numbers.specs.Kit.{true, false, List, [], Option, none, some, ℕ, Err}
use Rattle.machine.specs.declared.Refusal.TheVariants.{BadArguments}
use Rattle.machine.specs.declared.Machine.{Machine}
use Rattle.machine.specs.declared.Reply.{Reply}
use Rattle.machine.specs.Answers.{reply, done}
use Rattle.machine.specs.Geometry.{Range, Bench, bench_of, acc_at}
use Rattle.machine.specs.Faults.{sound}
use Rattle.machine.specs.Refusals.{marked}
use Rattle.machine.specs.ArithmeticWords.{width_ok}
use Rattle.machine.specs.Setting.{chosen, mill, sew}
use Rattle.unit_settings.specs.Parts.{ours}
use Rattle.machine.specs.Step.{Outcome, step}
use Rattle.run.specs.declared.Plan.{Plan}
use Rattle.run.specs.declared.Run.{Run}
use Rattle.run.specs.Words.{Op, multiply}
use Rattle.run.specs.Encoding.{own, handed_for}
use Rattle.run.specs.Places.{word_at}
use Rattle.run.specs.Turn.{run_shape}

-- what carrying out a word answers and leaves, but for the run's own scalars
pub record Carried : Type 0 where
  pub answer : Reply
  pub bench : Bench

abbrev pub carried : Reply → Machine → List Range → (registers marks memory : List ℕ) → Carried
carried a m seals registers marks memory = record { answer = a; bench = bench_of m seals registers marks memory }

-- the word of an operation of a run
abbrev pub carried_for : Plan → Op → Bench → Carried
carried_for P o B = let out : Outcome = step (handed_for P o).word (own (handed_for P o)) B in record { answer = out.answer; bench = out.bench }

-- a word, if there is one; past the last, 8
abbrev pub carried_by : Plan → Option Op → Bench → Carried
carried_by P none B = record { answer = reply (Err BadArguments); bench = B }
carried_by P (some o) B = carried_for P o B

-- the word at the place of a run
abbrev pub carried_at : Run → Bench → Carried
carried_at R B = carried_by R.plan (word_at (run_shape chosen R) R.place) B

-- the multiply of a run is not refused, in a state that is not at fault, with some marks of these registers; it asks for no memory and
-- no sealed range
pub record Multiplies (P : Plan) (m : Machine) (regs : List ℕ) : Type 0 where
  pub marks : List ℕ
  pub is-sound : sound m regs marks ≡ true
  pub is-done : done (carried_for P multiply (bench_of m [] regs marks [])).answer ≡ true

-- what the multiplies of a block of C ask whatever k is: a legal type, a permitted width, and acc0 written
pub record Steady (P : Plan) (m : Machine) (marks : List ℕ) : Type 0 where
  pub typed : mill m.mtype ≡ false
  pub wide : width_ok m.elen m.mtype P.factor ≡ true
  pub written : marked marks (acc_at (ours m) 0) m.tile_m (m.tile_n * (P.factor * sew m.mtype)) ≡ true
