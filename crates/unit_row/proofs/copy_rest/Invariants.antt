use Rattle.numbers.proofs.Kit.{◌≡◌, ◌+◌, ◌-◌, get_or, set}
use Rattle.numbers.specs.Upto.{upto}
use Rattle.unit_row.proofs.copy_rest.Given as goal

abbrev pub invariant-loop-i : goal.invariant-loop-i
invariant-loop-i l = l.dst ≡ upto (l.i - l.done) (λ b ys. set ys (l.done + b) (get_or l.src (l.done + b) 0)) l.initial.dst
