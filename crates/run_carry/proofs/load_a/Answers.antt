use Rattle.numbers.proofs.Kit.{sym, ap, ap₂, ◌∙◌, subst, ℕ, ◌*◌, ◌≤◌, arith}
use Rattle.machine.specs.declared.Form.{Form}
use Rattle.machine.specs.declared.Matrix.TheVariants.{MatrixA}
use Rattle.machine.specs.Operation.{Operation}
use Rattle.run.specs.Plan.{narrow, form_of}
use Rattle.run.specs.Encoding.{address_in}
use Rattle.run.proofs.FormLaws.{most-in}
use Rattle.run_carry.proofs.CarriedLaws.{loads-for, a-carried}
use Rattle.run_carry.proofs.load_a.Goals as goal

pub load-requires : goal.load-requires
load-requires c =
    let b = most-in (form_of c.args.plan) c.args.row c.args.term 1024 c.requires.row_bound.0 c.requires.row_bound.1 in
    record {
      marks_value = c.requires.marks_value;
      plan_value = c.requires.plan_value;
      row_bound = (subst (λ (x : ℕ). x ≤ 1024) (sym c.a_row-line.ensures) b.0, subst (λ (x : ℕ). x ≤ 1024) (sym c.a_column-column.ensures) b.1);
      md_bound = omega arith;
    }

pub returns : goal.returns
returns c =
    let a = c.args in
    let P = a.plan in
    let o =
    ap (λ (g : Form). Operation.load g MatrixA 0 (narrow P) (address_in P.a c.a_row-line.result (c.a_column-column.result * narrow P)) P.a.stride) c.form_of-form.ensures
    ∙ ap₂ (λ (i j : ℕ). Operation.load (form_of P) MatrixA 0 (narrow P) (address_in P.a i (j * narrow P)) P.a.stride) c.a_row-line.ensures c.a_column-column.ensures in
    λ seals fit. a-carried P c.requires.plan_value a.m seals a.registers.now a.marks.now a.memory.now c.requires.marks_value fit c.load.result a.row a.term _ _ (loads-for o c.load.ensures)
