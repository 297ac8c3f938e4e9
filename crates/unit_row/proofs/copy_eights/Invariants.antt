use Rattle.numbers.proofs.Kit.{◌≡◌, ◌*◌, get_or, set}
use Rattle.numbers.specs.Upto.{upto}
use Rattle.unit_row.proofs.copy_eights.Given as goal

abbrev pub invariant-loop-eight : goal.invariant-loop-eight
invariant-loop-eight l = l.dst ≡ upto (8 * l.eight) (λ b ys. set ys b (get_or l.src b 0)) l.initial.dst
