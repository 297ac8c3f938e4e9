use Rattle.numbers.proofs.Kit.{◌∙◌, ◌+◌, ◌*◌, ◌^◌, arith, get_or}
use Rattle.std.specs.Prelude.{map}
use Rattle.std.proofs.Common.{rules}
use Rattle.std.proofs.Math.Nat.{zero-mod}
use Rattle.numbers.proofs.ElementLaws.{pow-256}
use Rattle.numbers.proofs.ReduceLaws.{reduce-lt}
use Rattle.unit_sums.specs.Rows.{signed_le, residue_at}
use Rattle.unit_sums.proofs.RowLaws.{row-of-lanes}
use Rattle.unit_lanes.proofs.LaneLaws.{in_range-of, row-low, product-lt}
use Rattle.unit_lanes.proofs.multiply_row.Goals as goal

pub returns : goal.returns
returns g c =
    let e = g.E.Element in
    let w = g.N.Element.BYTES in
    let o = g.O.Element.BYTES in
    let a = c.args in
    let f = c.fetch_row in
    row-of-lanes e.BYTES o w a.s.now (λ q. search rules) c.requires.widths.0 c.requires.widths.1
    a.s.now g.row.L a.pitch a.k a.a a.b a.c a.n (map e.number f.new.d) (map e.number c.add_products.new.sums) (map e.number a.d.now) c.store_row.new.s c.requires.lanes.0
    f.ensures.fetched c.requires.fetched c.add_products.ensures
    (c.store_row.ensures ∙ row-low e.BYTES o a.c a.n (λ j. get_or (map e.number c.add_products.new.sums) j 0) a.s.now c.requires.widths.1
    (λ j h. product-lt e.BYTES a.k (get_or (map e.number f.new.d) j 0) (λ l. residue_at e.BYTES a.s.now (a.a + l * w) w) (λ l. get_or (map e.number a.d.now) (l * g.row.L + j) 0)
    (get_or (map e.number c.add_products.new.sums) j 0) (c.add_products.ensures j (omega arith))))

pub add_products-requires-clause-in_range : goal.add_products-requires-clause-in_range
add_products-requires-clause-in_range g c =
    let e = g.E.Element in
    let o = g.O.Element.BYTES in
    let a = c.args in
    λ j h. in_range-of e.number (256 ^ e.BYTES) c.low-sums.result g.row.L a.n (λ q. residue_at e.BYTES a.s.now (a.c + q * o) o) (map e.number c.fetch_row.new.d)
    (pow-256 e.BYTES) (c.low-sums.ensures ∙ zero-mod (256 ^ e.BYTES)) (λ q. reduce-lt (256 ^ e.BYTES) (pow-256 e.BYTES) (signed_le a.s.now (a.c + q * o) o))
    (c.fetch_row.ensures.fetched, c.fetch_row.ensures.others) j
