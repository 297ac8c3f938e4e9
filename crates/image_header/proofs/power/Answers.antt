-- `image_header::power` meets its contract.
use Rattle.numbers.proofs.Kit.{◌∙◌, ◌^◌, ◌≤◌, mod-eq_of_lt, arith, pow_mono}
use Rattle.image_header.proofs.power.Goals as goal

pub returns : goal.returns
returns c =
    let k = c.args.k in
    let w : 2 ^ k ≤ 2 ^ 16 = pow_mono {i = k} {j = 16} c.requires in
    mod-eq_of_lt (omega (arith, w)) ∙ omega arith
