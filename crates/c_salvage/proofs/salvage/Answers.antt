-- `c_salvage::salvage` meets its contract.
use Rattle.c_salvage.proofs.SalvageLaws.{salvage-short, salvage-refused, salvage-done}
use Rattle.c_salvage.proofs.salvage.Goals as goal

pub returns-then-report-ne-REPORT_BYTES : goal.returns-then-report-ne-REPORT_BYTES
returns-then-report-ne-REPORT_BYTES c =
    let a = c.args in
    salvage-short a.image.now a.room.now a.report.now c.if-report-ne-REPORT_BYTES.true

pub returns-in-Ok : goal.returns-in-Ok
returns-in-Ok c =
    let a = c.args in
    salvage-done a.image.now a.room.now a.report.now _ _ c.if-report-ne-REPORT_BYTES.false _ _ c.in-Ok.ensures (c.packed_length.ensures c.in-Ok.salvaged.place) c.put_report.ensures

pub returns-in-Err : goal.returns-in-Err
returns-in-Err c =
    let a = c.args in
    salvage-refused a.image.now a.room.now a.report.now _ _ c.if-report-ne-REPORT_BYTES.false _ c.in-Err.ensures c.packed_error.ensures
