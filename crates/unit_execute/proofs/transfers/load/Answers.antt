use Rattle.numbers.proofs.Kit.{◌≡◌, sym, ap, ◌∙◌, true, Err}
use Rattle.std.proofs.lemmas.Result.{err_from_is_err_and}
use Rattle.machine.proofs.CodeLaws.{refused-not-done}
use Rattle.machine.specs.Answers.{verdict, is_done}
use Rattle.unit_checks.specs.Parts.{transfer_checks}
use Rattle.unit_settings.proofs.FaultLaws.{ready}
use Rattle.unit_execute.proofs.TransferLaws.{room, load-refused, load-done}
use Rattle.unit_execute.proofs.transfers.load.Goals as goal

pub check_transfer-requires : goal.check_transfer-requires
check_transfer-requires c =
    ready c.args.m c.args.registers.now c.args.marks.now c.requires.marks_value

pub returns-in_err-check_transfer : goal.returns-in_err-check_transfer
returns-in_err-check_transfer c =
    let a = c.args in
    let p = err_from_is_err_and c.from_residual.result c.from_residual.ensures.1 in
    rw (p.1, p.2)
    (load-refused a.m a.registers.now a.marks.now a.memory.now a.form a.matrix a.md a.width a.base a.stride (Err c.in_err-check_transfer.field-0.0) c.in_err-check_transfer.ensures
    (refused-not-done c.in_err-check_transfer.field-0.0))

pub tile_of-p-requires : goal.tile_of-p-requires
tile_of-p-requires c =
    record {
      ready = ready c.args.m c.args.registers.now c.args.marks.now c.requires.marks_value;
      r_bound = c.requires.md_bound;
    }

pub load-requires : goal.load-requires
load-requires c =
    let a = c.args in let r = room a.m a.registers.now a.marks.now a.memory.now a.form a.matrix a.md a.width a.base a.stride c.requires.marks_value c.requires.md_bound (sym (ap is_done c.in_ok-check_transfer.ensures)) c.tile_of-p.result c.tile_of-p.ensures in record { pitch_in_bounds = r.0; marks_len = r.1.0; width_bound = r.1.1.0; width = r.1.1.1.0; width_le_pitch = r.1.1.1.1 }

pub returns : goal.returns
returns c =
    let a = c.args in
    load-done a.m a.registers.now a.marks.now a.memory.now a.form a.matrix a.md a.width a.base a.stride c.tile_of-p.result c.tile_of-p.ensures (sym (ap is_done c.in_ok-check_transfer.ensures)) c.load.result _ _
    c.load.ensures.value c.load.ensures.registers_after c.load.ensures.marks_after
