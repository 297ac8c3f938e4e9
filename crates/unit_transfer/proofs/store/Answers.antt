use Rattle.numbers.proofs.Kit.{◌≡◌, ap₂, ◌∙◌, ℕ, ◌*◌, mul-le-mul_left, arith}
use Rattle.unit_transfer.proofs.FormLaws.{all-bytes}
use Rattle.unit_transfer.proofs.store.Goals as goal

pub store_checked-requires-clause-bytes_bound : goal.store_checked-requires-clause-bytes_bound
store_checked-requires-clause-bytes_bound c =
    let a = c.args in
    let e : c.memory_rows-lines.result * (c.memory_columns.result * a.t.width) ≡ a.t.rows * (a.t.columns * a.t.width) =
    ap₂ (λ (l n : ℕ). l * (n * a.t.width)) c.memory_rows-lines.ensures c.memory_columns.ensures ∙ all-bytes a.form a.t.rows a.t.columns a.t.width in
    omega (arith, e, c.requires.pitch_in_bounds, mul-le-mul_left a.t.rows c.requires.width_bound)
