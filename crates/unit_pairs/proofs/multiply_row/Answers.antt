-- The row of A in pairs, then the row of C plus all pairs.
use Rattle.numbers.proofs.Kit.{◌≡◌, ◌∙◌, ℕ, ◌+◌, ◌*◌, ◌-◌, ◌/◌, ◌<◌, arith, get_or}
use Rattle.numbers.specs.Tile.{get_le}
use Rattle.numbers.proofs.ElementLaws.{put_row-cong}
use Rattle.unit_sums.specs.Rows.{product_row}
use Rattle.unit_pairs.specs.Pairs.{factor_places, pairs_row}
use Rattle.unit_pairs.proofs.PairLaws.{zeros, pairs-product}
use Rattle.unit_pairs.proofs.multiply_row.Goals as goal

pub repeat_row-requires-clause-by_index : goal.repeat_row-requires-clause-by_index
repeat_row-requires-clause-by_index c = zeros factor_places

pub returns : goal.returns
returns c =
    let a = c.args in
    let s = a.s.now in
    let x = c.repeat_row in
    let bytes : (q : ℕ) → get_or s q 0 < 256 = λ q. omega (arith, c.slice_known-1.given q) in
    let pairs : ℕ = (a.k + 3) / 4 * 2 in
    let e : pairs ≡ (a.k + 1) / 2 + (pairs - (a.k + 1) / 2) = omega arith in
    c.add_row.ensures
    ∙ put_row-cong 4 a.c a.n (pairs_row s a.c x.new.d a.bs.now 0 pairs) (product_row s 4 a.width a.pitch a.k a.a a.b a.c) s
    (λ j h. pairs-product s bytes a.width c.requires.narrow a.a a.b a.pitch a.k a.n x.new.d a.bs.now x.ensures c.requires.by_index
    (get_le s (a.c + j * 4) 4) j pairs (pairs - (a.k + 1) / 2) h e)
