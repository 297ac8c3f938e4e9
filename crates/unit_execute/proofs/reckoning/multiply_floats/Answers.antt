use Rattle.unit_settings.proofs.FaultLaws.{ready}
use Rattle.unit_execute.proofs.EffectLaws.{float-asks, float-registers}
use Rattle.unit_execute.proofs.reckoning.multiply_floats.Goals as goal

pub tiles_of-requires : goal.tiles_of-requires
tiles_of-requires c = ready c.args.m c.args.registers.now c.requires.permitted.marks c.requires.permitted.is-sound

pub multiply_tile-requires : goal.multiply_tile-requires
multiply_tile-requires c =
    let a = c.args in
    let p = c.requires.permitted in let r = float-asks a.m a.registers.now p.marks p.is-sound a.md a.ms1 a.ms2 p.is-done c.requires.md_bound in
    rw c.tiles_of.ensures (record { d_bound = r.0; registers = r.1.0; m_le_rows = r.1.1.0; n_bound = r.1.1.1 })

pub returns : goal.returns
returns c =
    let a = c.args in
    let p = c.requires.permitted in
    float-registers a.m a.registers.now p.marks p.is-sound a.md a.ms1 a.ms2 p.is-done _ (rw c.tiles_of.ensures at c.multiply_tile.ensures)
