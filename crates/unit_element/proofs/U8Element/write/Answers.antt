use Rattle.numbers.proofs.Kit.{◌^◌, ◌<◌, arith}
use Rattle.numbers.proofs.WordLaws.{put-bytes}
use Rattle.std.proofs.Common.{rules}
use Rattle.unit_element.proofs.U8Element.write.Goals as goal

pub returns : goal.returns
returns c =
    let small : c.args.v < 256 ^ 1 = search rules in
    put-bytes 0 c.args.at c.args.v c.args.v c.args.s.now (omega arith)
