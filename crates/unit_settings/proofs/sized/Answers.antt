use mathlib.Core.Path.{◌≡◌, sym, ap, ◌∙◌}
use mathlib.Core.Bool.{true, false}
use Prim.Native.Nat.{ℕ}
use Rattle.machine.specs.Setting.{mill, chosen}
use Rattle.unit_settings.specs.Parts.{with_size, granted}
use Rattle.unit_settings.proofs.sized.Goals as goal
use Rattle.unit_settings.proofs.sized.Goals.{Else-is_mill}

pub returns-then-is_mill : goal.returns-then-is_mill
returns-then-is_mill c =
    let e : mill c.args.m.mtype ≡ true = sym c.is_mill.ensures ∙ c.if-is_mill.true in
    rw e

-- mtype is not mill
no-mill : (c : Else-is_mill) → mill c.args.m.mtype ≡ false
no-mill c = sym c.is_mill.ensures ∙ c.if-is_mill.false

pub largest-requires : goal.largest-requires
largest-requires c =
    record {
      ready = c.requires;
      mtype_value = no-mill c;
    }

pub returns : goal.returns
returns c =
    let a = c.args in
    let e : mill a.m.mtype ≡ false = no-mill (goal.at.returns c).Else-is_mill in
    let size : c.chosen-size.result ≡ granted a.m a.dimension a.asked = c.chosen-size.ensures ∙ ap (λ (x : ℕ). chosen a.m.rule x a.asked) c.largest.ensures in
    c.with_size.ensures ∙ ap (with_size a.m a.dimension) size ∙ sym (rw e)
