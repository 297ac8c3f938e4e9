use Rattle.numbers.proofs.Kit.{arith}
use Rattle.c_run_blocks.proofs.RunBlockLaws.{put-place-is}
use Rattle.c_run_blocks.proofs.put_place.Goals as goal

pub returns : goal.returns
returns c =
    let p = c.put_spot in
    let s = c.spot_of-spot in
    put-place-is c.args.run s.result c.args.block.now p.new.block (λ q. omega (arith, c.slice_known-1.given q)) (λ q. omega (arith, c.type_inv.block q))
    c.requires.run_kept s.ensures p.ensures
