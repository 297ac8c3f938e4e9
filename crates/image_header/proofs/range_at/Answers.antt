-- `image_header::range_at` meets its contract.
use Rattle.std.proofs.lemmas.Result.{err_from_is_err_and}
use Rattle.numbers.proofs.Kit.{◌-◌}
use Rattle.numbers_coded.specs.At.{number_at}
use Rattle.numbers_coded.proofs.FromLaws.{good-is, bad-is}
use Rattle.image_header.specs.Fields.{range_at}
use Rattle.image_header.proofs.range_at.Goals as goal

pub returns-in_err-start : goal.returns-in_err-start
unfolding range_at
returns-in_err-start c =
    let a = c.args in
    let p = err_from_is_err_and c.from_residual.result c.from_residual.ensures.1 in
    rw (p.1, p.2, bad-is (number_at a.s.now a.at 0 0xffff_ffff_ffff_ffff) c.in_err-start.ensures)

pub returns-in_err-size : goal.returns-in_err-size
unfolding range_at
returns-in_err-size c =
    let a = c.args in
    let start = c.in_ok-start.start in
    let p = err_from_is_err_and c.from_residual-in_err-size.result c.from_residual-in_err-size.ensures.1 in
    rw (p.1, p.2, good-is (number_at a.s.now a.at 0 0xffff_ffff_ffff_ffff) c.in_ok-start.ensures, bad-is (number_at a.s.now start.at 0 (0xffff_ffff_ffff_ffff - start.value)) c.in_err-size.ensures)

pub returns : goal.returns
unfolding range_at
returns c =
    let a = c.args in
    let start = c.in_ok-start.start in
    rw (good-is (number_at a.s.now a.at 0 0xffff_ffff_ffff_ffff) c.in_ok-start.ensures, good-is (number_at a.s.now start.at 0 (0xffff_ffff_ffff_ffff - start.value)) c.in_ok-size.ensures)
