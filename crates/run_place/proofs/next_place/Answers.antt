use Rattle.numbers.proofs.Kit.{◌≡◌, subst, true}
use Rattle.run.specs.declared.Place.{Place}
use Rattle.run_plan.specs.Parts.{in_matrices}
use Rattle.run_plan.proofs.PlanLaws.{at-m, at_store, at-multiply}
use Rattle.run_place.proofs.RunPlaceLaws.{run-numbered, run-placed}
use Rattle.run_place.proofs.next_place.Goals as goal
use Rattle.run_place.proofs.next_place.Goals.{Start}

-- the place that the match has found lies in the matrices
lies : (s : Start) {q : Place} → s.args.run.place ≡ q → in_matrices s.args.run.plan q ≡ true
lies s e = subst (λ (q : Place). in_matrices s.args.run.plan q ≡ true) e (run-placed s.args.run s.requires)

pub head_columns-requires : goal.head_columns-requires
head_columns-requires c =
    record {
      run_value = run-numbered c.args.run c.requires;
      row_le_m = at-m c.args.run.plan _ (lies (goal.at.head_columns-requires c).Start c.in-AtM.is);
    }

pub most_terms-most-requires : goal.most_terms-most-requires
most_terms-most-requires c = run-numbered c.args.run c.requires

pub block_end-end-requires : goal.block_end-end-requires
block_end-end-requires c = (at-multiply c.args.run.plan _ _ _ (lies (goal.at.block_end-end-requires c).Start c.in-AtMultiply.is)).1.1

pub most_columns-most-requires : goal.most_columns-most-requires
most_columns-most-requires c = run-numbered c.args.run c.requires

pub block_end-end-requires-in-AtStore : goal.block_end-end-requires-in-AtStore
block_end-end-requires-in-AtStore c = (at_store c.args.run.plan _ _ (lies (goal.at.block_end-end-requires-in-AtStore c).Start c.in-AtStore.is)).1

pub head_columns-requires-in-AtStore : goal.head_columns-requires-in-AtStore
head_columns-requires-in-AtStore c =
    record {
      run_value = run-numbered c.args.run c.requires;
      row_le_m = (at_store c.args.run.plan _ _ (lies (goal.at.head_columns-requires-in-AtStore c).Start c.in-AtStore.is)).0;
    }
