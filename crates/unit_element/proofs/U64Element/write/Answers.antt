use Rattle.numbers.proofs.Kit.{refl}
use Rattle.numbers.proofs.WordLaws.{put-bytes}
use Rattle.unit_element.proofs.U64Element.write.Goals as goal

pub returns : goal.returns
returns c = put-bytes 7 c.args.at c.args.v _ c.args.s.now refl
