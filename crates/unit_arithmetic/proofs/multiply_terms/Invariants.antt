-- Each element of C has the products of the first `l` terms, once a block was taken.
use Rattle.numbers.proofs.Kit.{◌≡◌, ◌⊎◌, ◌+◌, ◌-◌, ◌<◌, max}
use Rattle.unit_arithmetic.specs.Products.{added}
use Rattle.unit_arithmetic.proofs.BlockLaws.{first_terms}
use Rattle.unit_arithmetic.proofs.multiply_terms.Given as goal

abbrev pub invariant-loop-l : goal.invariant-loop-l
invariant-loop-l l = (l.l < max l.p.k 1) × (((l.l ≡ 0) × (l.s ≡ l.initial.s)) ⊎ (l.s ≡ added (first_terms l.p l.l) l.width l.wide l.initial.s))

abbrev pub decreases-loop-l : goal.decreases-loop-l
decreases-loop-l l = l.p.k + 1 - l.l
