-- `image_read::read_image` meets its contract.
use Rattle.std.proofs.lemmas.Result.{err_from_is_err_and}
use Rattle.numbers.proofs.Kit.{sym, ◌∙◌}
use Rattle.image_read.proofs.BlockLaws.{block-short, block_read, block_unread}
use Rattle.image_read.proofs.read_image.Goals as goal

pub returns-in_err-check_image : goal.returns-in_err-check_image
returns-in_err-check_image c =
    let a = c.args in
    let p = err_from_is_err_and c.from_residual.result c.from_residual.ensures.1 in
    rw (p.1, p.2) (block-short a.image.now a.block.now a.registers.now a.marks.now _ c.if-block-ne-BLOCK_BYTES.true (sym c.in_err-check_image.was ∙ c.check_image.ensures))

pub returns-then-block-ne-BLOCK_BYTES : goal.returns-then-block-ne-BLOCK_BYTES
returns-then-block-ne-BLOCK_BYTES c =
    let a = c.args in
    block-short a.image.now a.block.now a.registers.now a.marks.now _ c.if-block-ne-BLOCK_BYTES.true (sym c.in_ok-check_image.was ∙ c.check_image.ensures)

pub returns-in_err-found : goal.returns-in_err-found
returns-in_err-found c =
    let a = c.args in
    let p = err_from_is_err_and c.from_residual-in_err-found.result c.from_residual-in_err-found.ensures.1 in
    rw (p.1, p.2) (block_unread a.image.now a.block.now a.registers.now a.marks.now c.if-block-ne-BLOCK_BYTES.false _ _ _ c.in_err-found.ensures.marks_after)

pub returns : goal.returns
returns c =
    let a = c.args in
    block_read a.image.now a.block.now a.registers.now a.marks.now c.if-block-ne-BLOCK_BYTES.false _ _ c.in_ok-found.found c.put_seals.new.block c.in_ok-found.ensures.marks_after c.put_seals.ensures
