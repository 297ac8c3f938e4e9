use Rattle.numbers.proofs.Kit.{ap, ◌∙◌, ℕ, ◌+◌, ◌%◌, ◌^◌, arith}
use Rattle.run_plan.proofs.PlanLaws.{start-by}
use Rattle.run_plan.proofs.start_of.Goals as goal

pub returns : goal.returns
returns c =
    let a = c.args in
    ap (λ (x : ℕ). ((a.layout.address + x) % 2 ^ 64 + a.bytes) % 2 ^ 64) c.row_times.ensures
    ∙ start-by a.layout a.row a.bytes c.requires (omega arith) (omega arith) (omega arith)
