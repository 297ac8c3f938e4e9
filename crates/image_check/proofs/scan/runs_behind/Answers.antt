-- `image_check::scan::runs_behind` meets its contract.
use Rattle.numbers.proofs.Kit.{◌^◌, ◌≤◌, arith, pow_mono, eq-eqb, ne_eqb}
use Rattle.image_check.specs.Parts.{runs_behind}
use Rattle.image_check.proofs.scan.runs_behind.Goals as goal

pub returns-then-f-ne-ALL_READ : goal.returns-then-f-ne-ALL_READ
unfolding runs_behind
returns-then-f-ne-ALL_READ c = rw (ne_eqb c.args.f.next 12 c.if-f-ne-ALL_READ.true)

pub overflow_mul-result : goal.overflow_mul-result
overflow_mul-result c =
    let st = c.before.before.before in
    let w : 2 ^ st.args.f.mlen ≤ 2 ^ 16 = pow_mono {i = st.args.f.mlen} {j = 16} st.requires.mlen-ok.1 in
    omega (arith, w, c.power.ensures)

pub returns : goal.returns
unfolding runs_behind
returns c = rw (eq-eqb c.args.f.next 12 c.if-f-ne-ALL_READ.false, c.power.ensures)
