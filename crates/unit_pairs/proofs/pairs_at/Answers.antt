-- Four pairs.
use Rattle.numbers.proofs.Kit.{◌≡◌, ap₂, ◌∙◌, ℕ, ◌+◌, ◌*◌, arith}
use Rattle.numbers.specs.Reduce.{reduce}
use Rattle.unit_pairs.specs.Pairs.{pair, lane}
use Rattle.unit_pairs.proofs.PairLaws.{each-of-four}
use Rattle.unit_pairs.proofs.pairs_at.Goals as goal

pub returns : goal.returns
returns c =
    let a = c.args in
    let y : a.from ≡ a.from + 2 * 0 = omega arith in
    let z : a.at ≡ a.at + 2 * 0 = omega arith in
    each-of-four (λ q. lane _ q ≡ reduce 0x1_0000_0000 (pair a.xs.now (a.from + 2 * q) a.b.now (a.at + 2 * q)))
    (c.pair_at.ensures ∙ ap₂ (λ (h o : ℕ). reduce 0x1_0000_0000 (pair a.xs.now h a.b.now o)) y z)
    c.pair_at-2.ensures
    c.pair_at-3.ensures
    c.pair_at-4.ensures
