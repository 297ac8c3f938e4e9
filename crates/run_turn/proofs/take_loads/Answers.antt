use Rattle.numbers.proofs.Kit.{◌≡◌, refl, true, false, List, [], ◌-◌, arith}
use Rattle.machine.specs.Answers.{is_done}
use Rattle.machine.specs.Geometry.{Range, bench_of}
use Rattle.machine.specs.Faults.{seals_fit}
use Rattle.unit_settings.proofs.FaultLaws.{ready}
use Rattle.run.specs.declared.Place.TheVariants.{AtK, AtA, AtB}
use Rattle.run.specs.Turn.{Running, running}
use Rattle.run_place.specs.Parts.{at_place}
use Rattle.run_carry.proofs.SumsLaws.{none-fit, steady-sized, still-steady, sums-answered, sums-multiply}
use Rattle.run_turn.specs.Parts.{Taking}
use Rattle.run_turn.proofs.TurnLaws.{answer-refused, answer-done}
use Rattle.run_turn.proofs.ProgressLaws.{word_kept, word-taken, taken-sane, taken_as}
use Rattle.run_turn.proofs.StepLaws.{here-planned, here-placed, here-small, set-taken}
use Rattle.run_turn.proofs.take_loads.Goals as goal
use Rattle.run_turn.proofs.take_loads.Goals.{After-sized-machine, Else-is_err, Start}

abbrev from : Start → List Range → Running
from s seals = let a = s.args in running (at_place a.run (AtK a.row a.column a.term)) (bench_of a.m seals a.registers.now a.marks.now a.memory.now)

-- k is set
set : (c : After-sized-machine) → let a = c.args in
    (seals : List Range) → seals_fit seals ≡ true → Taking (from (goal.at.After-sized-machine c).Start seals) 1 (at_place a.run (AtA a.row a.column a.term)) (bench_of c.sized-machine.result seals a.registers.now a.marks.now a.memory.now)
set c =
    let a = c.args in
    set-taken a.run a.row a.column a.term c.requires.term_value a.m c.sized-machine.result a.registers.now a.marks.now a.memory.now c.requires.marks_value c.requires.steady.typed c.sized-machine.ensures

-- A is loaded
yes-a : (c : Else-is_err) → is_done c.load_a-first.result ≡ true
yes-a c = answer-done c.load_a-first.result c.is_err.ensures.value c.if-is_err.false

loaded : (c : Else-is_err) → let w = c.load_a-first in let a = c.args in
    (seals : List Range) → seals_fit seals ≡ true → Taking (from (goal.at.Else-is_err c).Start seals) 2 (at_place a.run (AtB a.row a.column a.term)) (bench_of c.sized-machine.result seals w.new.registers w.new.marks a.memory.now)
loaded c seals fit = let w = c.load_a-first in word-taken (set (goal.at.Else-is_err c).After-sized-machine seals fit) _ (w.ensures seals fit) (yes-a c) _ refl

pub overflow_sub-plan : goal.overflow_sub-plan
overflow_sub-plan c =
    let a = c.args in
    omega (arith, (here-placed a.run a.row a.column a.term c.requires.term_value).2)

pub sized-machine-requires : goal.sized-machine-requires
sized-machine-requires c =
    ready c.args.m c.args.registers.now c.args.marks.now c.requires.marks_value

pub load_a-first-requires : goal.load_a-first-requires
load_a-first-requires c =
    let a = c.args in
    let b = here-placed a.run a.row a.column a.term c.requires.term_value in
    record {
      marks_value = taken-sane (set (goal.at.load_a-first-requires c).After-sized-machine [] none-fit);
      plan_value = here-planned a.run a.row a.column a.term c.requires.term_value;
      row_bound = (b.0, omega (arith, b.2, here-small a.run a.row a.column a.term c.requires.term_value));
    }

pub returns-then-is_err : goal.returns-then-is_err
returns-then-is_err c =
    let w = c.load_a-first in
    let no : is_done w.result ≡ false = answer-refused w.result c.is_err.ensures.value c.if-is_err.true in
    record {
      taking = λ seals fit. taken_as refl refl (word_kept _ _ (set (goal.at.returns-then-is_err c).After-sized-machine seals fit).run_sound _ (w.ensures seals fit) no) (set (goal.at.returns-then-is_err c).After-sized-machine seals fit);
      count_bound = omega arith;
      loaded = λ h. absurd (omega (arith, h));
    }

pub load_b-second-requires : goal.load_b-second-requires
load_b-second-requires c =
    let a = c.args in
    let b = here-placed a.run a.row a.column a.term c.requires.term_value in
    record {
      marks_value = taken-sane (loaded (goal.at.load_b-second-requires c).Else-is_err [] none-fit);
      plan_value = here-planned a.run a.row a.column a.term c.requires.term_value;
      term_bound = (omega (arith, b.2, here-small a.run a.row a.column a.term c.requires.term_value), b.1);
    }

pub returns-then-is_err-2 : goal.returns-then-is_err-2
returns-then-is_err-2 c =
    let w = c.load_b-second in
    let no : is_done w.result ≡ false = answer-refused w.result c.is_err-2.ensures.value c.if-is_err-2.true in
    record {
      taking = λ seals fit. taken_as refl refl (word_kept _ _ (loaded (goal.at.returns-then-is_err-2 c).Else-is_err seals fit).run_sound _ (w.ensures seals fit) no) (loaded (goal.at.returns-then-is_err-2 c).Else-is_err seals fit);
      count_bound = omega arith;
      loaded = λ h. absurd (omega (arith, h));
    }

pub returns : goal.returns
returns c =
    let w = c.load_b-second in
    let v = c.load_a-first in
    let a = c.args in
    let P = a.run.plan in
    let m = c.sized-machine.result in
    let ok = here-planned a.run a.row a.column a.term c.requires.term_value in
    let yes : is_done w.result ≡ true = answer-done w.result c.is_err-2.ensures.value c.if-is_err-2.false in
    let t = taken-sane (word-taken (loaded (goal.at.returns c).Else-is_err [] none-fit) _ (w.ensures [] none-fit) yes _ refl) in
    let h = steady-sized a.m a.marks.now (P.k - a.term) m c.sized-machine.ensures P c.requires.steady in
    record {
      taking = λ seals fit. word-taken (loaded (goal.at.returns c).Else-is_err seals fit) _ (w.ensures seals fit) yes _ refl;
      count_bound = omega arith;
      loaded = λ _. record {
        place_is = refl;
        steady = still-steady P ok m a.registers.now a.marks.now a.memory.now (taken-sane (set (goal.at.returns c).After-sized-machine [] none-fit)) h a.row a.column a.term
            v.result _ _ v.ensures (yes-a (goal.at.returns c).Else-is_err) (taken-sane (loaded (goal.at.returns c).Else-is_err [] none-fit)) w.result _ _ w.ensures yes t;
        multiplies = sums-multiply P ok m a.registers.now a.marks.now a.memory.now (taken-sane (set (goal.at.returns c).After-sized-machine [] none-fit)) h a.row a.column a.term
            v.result _ _ v.ensures (yes-a (goal.at.returns c).Else-is_err) (taken-sane (loaded (goal.at.returns c).Else-is_err [] none-fit)) w.result _ _ w.ensures yes t;
        answered = sums-answered P ok m a.registers.now a.marks.now a.memory.now (taken-sane (set (goal.at.returns c).After-sized-machine [] none-fit)) h a.row a.column a.term
            v.result _ _ v.ensures (yes-a (goal.at.returns c).Else-is_err) (taken-sane (loaded (goal.at.returns c).Else-is_err [] none-fit)) w.result _ _ w.ensures yes t a.memory.now;
      };
    }
