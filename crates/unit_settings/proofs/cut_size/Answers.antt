use mathlib.Core.Path.{◌≡◌, sym, ◌∙◌}
use mathlib.Core.Bool.{false}
use Rattle.machine.specs.Setting.{mill}
use Rattle.unit_settings.proofs.cut_size.Goals as goal
use Rattle.unit_settings.proofs.cut_size.Goals.{Else-is_mill}

pub returns-then-is_mill : goal.returns-then-is_mill
returns-then-is_mill c = rw (sym c.is_mill.ensures ∙ c.if-is_mill.true)

-- mtype is not mill
no-mill : (c : Else-is_mill) → mill c.args.m.mtype ≡ false
no-mill c = sym c.is_mill.ensures ∙ c.if-is_mill.false

pub largest-requires : goal.largest-requires
largest-requires c =
    record {
      ready = c.requires;
      mtype_value = no-mill (goal.at.largest-requires c).Else-is_mill;
    }
