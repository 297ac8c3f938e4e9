-- A whole run delivers what its statement says.
use Rattle.numbers.proofs.Kit.{◌≡◌, refl, sym, ◌∙◌, subst, Bool, true, false, ℕ, min, arith, eqb, eqb-true, eqb-false}
use Rattle.machine.specs.Geometry.{Bench}
use Rattle.machine.specs.Setting.{chosen}
use Rattle.run.specs.declared.Plan.{Plan}
use Rattle.run.specs.Words.{steps}
use Rattle.run.specs.Plan.{OutsideKept, shape}
use Rattle.run.specs.Start.{start_run}
use Rattle.run.specs.Statement.{RunFromStart, job_of}
use Rattle.run.specs.Whole.{whole, WholeDelivers}
use Rattle.run.proofs.Demand1.{whole-refusal-changes-nothing}
use Rattle.run.proofs.Demand3.{demand-3-ours}

min_self : (n : ℕ) → min n n ≡ n
min_self n = omega arith

-- memory outside C is kept, whether the start is accepted or not
kept : (P : Plan) (B : Bench) → RunFromStart chosen P B → OutsideKept (job_of chosen P B) (whole chosen P B).bench.memory
kept P B D = go (eqb (start_run chosen P B).answer.number 0) refl
  where
    go : (t : Bool) → eqb (start_run chosen P B).answer.number 0 ≡ t → OutsideKept (job_of chosen P B) (whole chosen P B).bench.memory
    go true h = (D.turns (eqb-true (start_run chosen P B).answer.number 0 h) (steps (shape (job_of chosen P B)))).kept
    go false h =
        subst (λ (C : Bench). OutsideKept (job_of chosen P B) C.memory) (sym (whole-refusal-changes-nothing chosen P B (eqb-false (start_run chosen P B).answer.number 0 h)).1)
        (record { same_length = refl; outside = λ q d. refl })

pub whole-delivers : WholeDelivers
whole-delivers P B bytes =
    let all : ℕ = steps (shape (job_of chosen P B)) in
    let D : RunFromStart chosen P B = demand-3-ours P B bytes in
    record {
      answered = D.answered;
      refused = whole-refusal-changes-nothing chosen P B;
      counted = λ e. (D.turns e all).count ∙ min_self all;
      product = λ e. (D.turns e all).product (omega arith);
      kept = kept P B D;
    }
