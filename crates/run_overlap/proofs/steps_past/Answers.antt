use Rattle.numbers.proofs.Kit.{arith}
use Rattle.run_overlap.proofs.OverlapLaws.{steps-passed, steps_next, steps-fit}
use Rattle.run_overlap.proofs.steps_past.Goals as goal

pub overflow_add-result : goal.overflow_add-result
overflow_add-result c =
    let a = c.args in
    omega (arith, c.requires.to_bound, steps-fit a.from a.to a.gap (omega (arith, c.requires.gap_nonzero)) (omega (arith, c.if-to-from.false)))

pub returns : goal.returns
returns c =
    let a = c.args in
    record {
      passed = steps-passed a.from a.to a.gap (omega (arith, c.requires.gap_nonzero)) (omega (arith, c.if-to-from.false));
      next = steps_next a.from a.to a.gap (omega (arith, c.requires.gap_nonzero)) (omega (arith, c.if-to-from.false));
    }
