use Rattle.numbers.proofs.Kit.{◌≡◌, refl, true, [], ◌∷◌, ◌++◌, ◌*◌}
use Rattle.machine.specs.Answers.{verdict, is_done}
use Rattle.machine.specs.Operation.{times}
use Rattle.machine.specs.Setting.{sew}
use Rattle.unit_checks.specs.Parts.{multiply_checks, source_checks, accumulator_check}
use Rattle.unit_checks.proofs.CheckLaws.{type-legal, part-done}
use Rattle.unit_execute.proofs.EffectLaws.{product-asks, product-registers}
use Rattle.unit_settings.proofs.FaultLaws.{ready}
use Rattle.unit_execute.proofs.reckoning.multiply_tiles.Goals as goal
use Rattle.unit_execute.proofs.reckoning.multiply_tiles.Goals.{Start}

-- answers 2 to 4 have passed
fits : (s : Start) → is_done (verdict (multiply_checks s.args.m (times s.args.factor))) ≡ true
fits s =
    let a = s.args in
    let p = s.requires.permitted in
    part-done (multiply_checks a.m (times a.factor)) (source_checks a.m p.marks a.ms1 a.ms2 ++ (accumulator_check a.m p.marks a.md (times a.factor * sew a.m.mtype) ∷ [])) refl p.is-done

pub sew_bytes-w-requires : goal.sew_bytes-w-requires
sew_bytes-w-requires c =
    type-legal c.args.m (times c.args.factor) (ready c.args.m c.args.registers.now c.requires.permitted.marks c.requires.permitted.is-sound) (fits (goal.at.sew_bytes-w-requires c).Start)

pub tiles_of-requires : goal.tiles_of-requires
tiles_of-requires c = ready c.args.m c.args.registers.now c.requires.permitted.marks c.requires.permitted.is-sound

pub multiply_tile-requires : goal.multiply_tile-requires
multiply_tile-requires c =
    let a = c.args in
    let p = c.requires.permitted in let r = product-asks a.m a.registers.now p.marks p.is-sound (times a.factor) c.sew_bytes-w.result c.factor_of-f.result c.factor_of-f.ensures.0 c.sew_bytes-w.ensures.value a.md a.ms1 a.ms2 p.is-done c.requires.md_bound in
    rw c.tiles_of.ensures (record { d_bound = r.0; registers = r.1.0; width = r.1.1.0; width_2 = r.1.1.1.0; factor_bound = r.1.1.1.1.0; m_le_rows = r.1.1.1.1.1.0; n_le_most_pitch = r.1.1.1.1.1.1 })

pub returns : goal.returns
returns c =
    let a = c.args in
    let p = c.requires.permitted in
    product-registers a.m a.registers.now p.marks p.is-sound (times a.factor) c.sew_bytes-w.result c.factor_of-f.result c.factor_of-f.ensures.0 c.sew_bytes-w.ensures.value a.md a.ms1 a.ms2 p.is-done _
    (rw c.tiles_of.ensures at c.multiply_tile.ensures)
