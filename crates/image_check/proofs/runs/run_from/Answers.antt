-- `image_check::runs::run_from` meets its contract.
use Rattle.numbers.proofs.Kit.{◌≡◌, ap, ◌∙◌, ℕ, min, arith}
use Rattle.image_check.specs.Parts.{plain_run, next_at, run_from}
use Rattle.image_check.specs.Parts.Next.{NextRun}
use Rattle.image_check.proofs.RunsLaws.{RunOk, next_known}
use Rattle.image_check.proofs.ScanLaws.{least-one, run-good, run-bad}
use Rattle.image_check.proofs.runs.run_from.Goals as goal
use Rattle.image_check.proofs.runs.run_from.Goals.{In-Ok}

-- the run that was read
run_is : (c : In-Ok) → let n = c.in-Ok.run' in
    let a = c.args in
    next_at a.s.now a.at a.t.left (min a.t.kept 1) a.t.room ≡ NextRun n.gap n.size n.at
run_is c =
    let a = c.args in
    run-good (next_at a.s.now a.at a.t.left (min a.t.kept 1) a.t.room) (c.in-Ok.ensures ∙ ap (λ (x : ℕ). plain_run (next_at a.s.now a.at a.t.left x a.t.room)) c.smaller.ensures)

run_ok : (c : In-Ok) → let n = c.in-Ok.run' in
    let a = c.args in
    RunOk a.s.now a.at a.t.left (min a.t.kept 1) a.t.room n.gap n.size n.at
run_ok c =
    let r = c.requires in
    let a = c.args in
    next_known a.s.now a.at a.t.left (min a.t.kept 1) a.t.room r.1.0 r.0 (least-one a.t.kept) r.1.1 _ _ _ (run_is c)

pub returns-in-Err : goal.returns-in-Err
unfolding run_from
returns-in-Err c =
    let a = c.args in
    rw (run-bad (next_at a.s.now a.at a.t.left (min a.t.kept 1) a.t.room) (c.in-Err.ensures ∙ ap (λ (x : ℕ). plain_run (next_at a.s.now a.at a.t.left x a.t.room)) c.smaller.ensures))

pub overflow_add-end : goal.overflow_add-end
overflow_add-end c = let r = run_ok (goal.at.overflow_add-end c).In-Ok in omega (arith, r.in_image)

pub overflow_add-result-2 : goal.overflow_add-result-2
overflow_add-result-2 c = let r = run_ok (goal.at.overflow_add-result-2 c).In-Ok in omega (arith, r.in-room)

pub overflow_sub-result-2 : goal.overflow_sub-result-2
overflow_sub-result-2 c = let r = run_ok (goal.at.overflow_sub-result-2 c).In-Ok in omega (arith, r.in-room)

pub returns : goal.returns
unfolding run_from
returns c = rw (run_is (goal.at.returns c).In-Ok)
