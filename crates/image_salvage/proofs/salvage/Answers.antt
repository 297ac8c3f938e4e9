-- `image_salvage::salvage` meets its contract.
use mathlib.Core.Path.{◌∙◌}
use Prim.Native.Nat.{ℕ, ◌<◌}
use native.Mathlib.Omega.{arith}
use lib.ListN.{get_or}
use Rattle.numbers_format.specs.Numbers.{ByteString}
use Rattle.image_check.proofs.CheckLaws.{scan-fields, scan-headed}
use Rattle.image_salvage.proofs.StepLaws.{bytes-all}
use Rattle.image_salvage.proofs.FreshLaws.{salvage-bad, salvage-good}
use Rattle.image_salvage.proofs.salvage.Goals as goal
use Rattle.image_salvage.proofs.salvage.Goals.{After-scan-found}

-- the input's bytes
input : (k : After-scan-found) → ByteString k.args.image.now
input k =
    let s = k.args.image.now in
    let small : (q : ℕ) → get_or s q 0 < 256 = λ q. omega (arith, k.type_inv.image q) in
    bytes-all s small

pub returns-then-fields-ne-ALL_READ : goal.returns-then-fields-ne-ALL_READ
returns-then-fields-ne-ALL_READ c =
    let a = c.args in
    salvage-bad a.image.now (input (goal.at.returns-then-fields-ne-ALL_READ c).After-scan-found) c.scan-found.result.fields (scan-fields a.image.now c.scan-found.result c.scan-found.ensures) a.room.now c.if-fields-ne-ALL_READ.true

pub returns : goal.returns
returns c =
    let a = c.args in
    c.rescue.ensures ∙ salvage-good a.image.now (input (goal.at.returns c).After-scan-found) _ _ _ _ _ (scan-headed a.image.now c.scan-found.result c.scan-found.ensures c.if-fields-ne-ALL_READ.false) a.room.now
