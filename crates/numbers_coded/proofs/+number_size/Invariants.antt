-- `numbers_coded::number_size` meets its contract: what is left of the number falls.
use Rattle.numbers_coded.proofs.+number_size.Given as goal

abbrev pub decreases-number_size : goal.decreases-number_size
decreases-number_size l = l.n
