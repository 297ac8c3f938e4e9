use Rattle.std.specs.Prelude.{Ok, Err}
use mathlib.Core.Path.{refl, sym, ◌∙◌}
use mathlib.Core.Bool.{true, false}
use Rattle.machine.proofs.CodeLaws.{refused-not-done}
use Rattle.run.specs.Turn.{asked_as}
use Rattle.c_run.proofs.RunLaws.{next-shown}
use Rattle.c_run.proofs.next.Goals as goal

pub returns-in-Ok : goal.returns-in-Ok
returns-in-Ok c =
    let a = c.args in
    next-shown a.run.now a.step.now true c.run_of-held.result (asked_as c.run_of-held.result (Ok c.in-Ok.asked)) c.put_run.new.block c.put_handed.new.block c.packed-in-Ok.result
    (sym c.is_fit.ensures ∙ c.if-not-is_fit.false) c.if-step-ne24.false c.run_of-held.ensures c.in-Ok.ensures
    refl c.put_run.ensures c.put_handed.ensures c.packed-in-Ok.ensures

pub returns-in-Err : goal.returns-in-Err
returns-in-Err c =
    let a = c.args in
    next-shown a.run.now a.step.now false c.run_of-held.result (asked_as c.run_of-held.result (Err c.in-Err.refusal)) a.run.now a.step.now c.packed-in-Err.result
    (sym c.is_fit.ensures ∙ c.if-not-is_fit.false) c.if-step-ne24.false c.run_of-held.ensures c.in-Err.ensures
    (refused-not-done c.in-Err.refusal) refl refl c.packed-in-Err.ensures
