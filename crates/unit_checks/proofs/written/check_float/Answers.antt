use Rattle.numbers.proofs.Kit.{◌≡◌, sym, ◌∙◌, false}
use Rattle.machine.specs.Setting.{mill}
use Rattle.unit_settings.proofs.TypeLaws.{ready-legal}
use Rattle.unit_checks.proofs.CheckLaws.{float-rest}
use Rattle.unit_checks.proofs.written.check_float.Goals as goal
use Rattle.unit_checks.proofs.written.check_float.Goals.{Else-is_mill}

-- mtype is legal
legal : (c : Else-is_mill) → mill c.args.m.mtype ≡ false
legal c = sym c.is_mill.ensures ∙ c.if-is_mill.false

pub sew_bytes-requires : goal.sew_bytes-requires
sew_bytes-requires c = ready-legal c.args.m c.requires.marks_ready.of-machine (legal c)

pub returns : goal.returns
returns c =
    let a = c.args in
    c.check_product.ensures ∙ float-rest a.m a.marks.now a.md a.ms1 a.ms2 c.requires.marks_ready.of-machine (legal (goal.at.returns c).Else-is_mill) (sym c.sew_bytes.ensures.value ∙ c.if-sew_bytes-ne4.false)
