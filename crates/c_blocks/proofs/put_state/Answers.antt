use Rattle.numbers.proofs.Kit.{ap, ◌∙◌, arith}
use Rattle.numbers.specs.Tile.{put_le}
use Rattle.c_blocks.proofs.BlockLaws.{put-state-is}
use Rattle.c_blocks.proofs.put_state.Goals as goal

pub returns : goal.returns
returns c =
    let m = c.args.m in
    put-state-is m c.args.block.now c.write-4.new.s (λ q. omega (arith, c.slice_known-1.given q)) (λ q. omega (arith, c.type_inv.block q)) c.requires.same_machine
    (c.write-4.ensures ∙ ap (put_le 40 8 m.tile_n) (c.write-3.ensures ∙ ap (put_le 32 8 m.tile_k) (c.write-2.ensures ∙ ap (put_le 24 8 m.tile_m) c.write.ensures)))
