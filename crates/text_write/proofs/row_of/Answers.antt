use mathlib.Core.Path.{refl}
use Rattle.machine.specs.Listing.{listing}
use Rattle.text_write.specs.declared.TheConstants.{BY_NUMBER}
use Rattle.text_write.proofs.TextLaws.{row-led}
use Rattle.text_write.proofs.row_of.Goals as goal

pub returns : goal.returns
unfolding listing
returns c = row-led BY_NUMBER c.args.word c.args.number _ refl c.requires.0 refl c.requires.1
