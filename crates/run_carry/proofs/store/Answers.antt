use Rattle.numbers.proofs.Kit.{ap, ap₂, ◌∙◌, ℕ, ◌*◌}
use Rattle.machine.specs.declared.Form.TheVariants.{Plain}
use Rattle.machine.specs.declared.Matrix.TheVariants.{MatrixC}
use Rattle.machine.specs.Operation.{Operation}
use Rattle.unit_ranges.specs.Ranges.{seals_in}
use Rattle.run.specs.Encoding.{address_in}
use Rattle.run_carry.proofs.CarriedLaws.{stores-for, c-carried}
use Rattle.run_carry.proofs.store.Goals as goal

pub returns : goal.returns
returns c =
    let a = c.args in
    let w = c.wide_bytes-bytes.ensures.value in
    let e = c.element_address-start.ensures ∙ ap (address_in a.plan.c a.row) (ap (λ (b : ℕ). a.column * b) w) in
    let o = ap₂ (λ (w p : ℕ). Operation.store Plain MatrixC 0 w p a.plan.c.stride) w e in
    c-carried a.plan c.requires.plan_value a.m (seals_in a.seals.now) a.registers.now a.marks.now a.memory.now c.requires.marks_value c.requires.seals_value c.store.result a.row a.column _
    (stores-for o c.store.ensures)
