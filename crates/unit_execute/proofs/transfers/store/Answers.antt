use Rattle.numbers.proofs.Kit.{◌≡◌, sym, ap, ◌∙◌, true, Err}
use Rattle.machine.specs.Geometry.{sealed}
use Rattle.unit_ranges.specs.Ranges.{seals_in}
use Rattle.std.proofs.lemmas.Result.{err_from_is_err_and}
use Rattle.machine.proofs.CodeLaws.{refused-not-done}
use Rattle.machine.specs.Answers.{verdict, is_done}
use Rattle.unit_checks.specs.Parts.{transfer_checks}
use Rattle.unit_settings.proofs.FaultLaws.{ready}
use Rattle.unit_execute.proofs.TransferLaws.{room, store-refused, store-done}
use Rattle.unit_execute.proofs.transfers.store.Goals as goal

pub check_transfer-requires : goal.check_transfer-requires
check_transfer-requires c =
    ready c.args.m c.args.registers.now c.args.marks.now c.requires.marks_value

pub returns-in_err-check_transfer : goal.returns-in_err-check_transfer
returns-in_err-check_transfer c =
    let a = c.args in
    let p = err_from_is_err_and c.from_residual.result c.from_residual.ensures.1 in
    rw (p.1, p.2)
    (store-refused a.m a.registers.now a.marks.now a.memory.now a.form a.matrix a.ms3 a.width a.base a.stride (sealed (seals_in a.seals.now)) (Err c.in_err-check_transfer.field-0.0) c.in_err-check_transfer.ensures
    (refused-not-done c.in_err-check_transfer.field-0.0))

pub tile_of-p-requires : goal.tile_of-p-requires
tile_of-p-requires c =
    record {
      ready = ready c.args.m c.args.registers.now c.args.marks.now c.requires.marks_value;
      r_bound = c.requires.ms3_bound;
    }

pub store-requires : goal.store-requires
store-requires c =
    let a = c.args in
    let q = room a.m a.registers.now a.marks.now a.memory.now a.form a.matrix a.ms3 a.width a.base a.stride c.requires.marks_value c.requires.ms3_bound (sym (ap is_done c.in_ok-check_transfer.ensures)) c.tile_of-p.result c.tile_of-p.ensures in
    record {
      pitch_in_bounds = q.0;
      marks_len = q.1.0;
      width_bound = q.1.1.0;
      width = q.1.1.1.0;
      width_le_pitch = q.1.1.1.1;
      seals_value = c.requires.seals_value;
    }

pub returns : goal.returns
returns c =
    let a = c.args in
    store-done a.m a.registers.now a.marks.now a.memory.now a.form a.matrix a.ms3 a.width a.base a.stride (sealed (seals_in a.seals.now)) c.tile_of-p.result c.tile_of-p.ensures (sym (ap is_done c.in_ok-check_transfer.ensures)) c.store.result _
    c.store.ensures.value c.store.ensures.memory_after
