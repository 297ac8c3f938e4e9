use Rattle.numbers.proofs.Kit.{◌∙◌, ◌+◌, ◌*◌, ◌^◌, arith, get_or}
use Rattle.std.specs.Prelude.{map}
use Rattle.std.proofs.Common.{rules}
use Rattle.machine.specs.ArithmeticWords.{product}
use Rattle.std.proofs.Math.Nat.{zero-mod}
use Rattle.numbers.proofs.ElementLaws.{pow-256}
use Rattle.numbers.proofs.ReduceLaws.{reduce-lt}
use Rattle.unit_sums.specs.Rows.{signed_le, residue_at}
use Rattle.unit_sums.proofs.RowLaws.{row-of-lanes}
use Rattle.unit_sums.proofs.TurnLaws.{rule-two}
use Rattle.unit_lanes.proofs.LaneLaws.{in_range-of, row-low, product-lt}
use Rattle.unit_lanes.proofs.multiply_two.Goals as goal

pub returns : goal.returns
returns g c =
    let e = g.E.Element in
    let w = g.N.Element.BYTES in
    let o = g.O.Element.BYTES in
    let a = c.args in
    let f = c.fetch_row in
    let t = c.fetch_row-2 in
    let v = c.store_row in
    let u = c.store_row-2 in
    rule-two (product o w a.k) o w a.pitch (4 * a.pitch) g.row.L a.a a.b a.c a.s.now v.new.s u.new.s
    (row-of-lanes e.BYTES o w a.s.now (λ q. search rules) c.requires.widths.0 c.requires.widths.1
    a.s.now g.row.L a.pitch a.k a.a a.b a.c g.row.L (map e.number f.new.d) (map e.number c.add_two.new.sums) (map e.number a.d.now) v.new.s (omega arith)
    f.ensures.fetched c.requires.fetched c.add_two.ensures.first
    (v.ensures ∙ row-low e.BYTES o a.c g.row.L (λ j. get_or (map e.number c.add_two.new.sums) j 0) a.s.now c.requires.widths.1
    (λ j h. product-lt e.BYTES a.k (get_or (map e.number f.new.d) j 0) (λ l. residue_at e.BYTES a.s.now (a.a + l * w) w) (λ l. get_or (map e.number a.d.now) (l * g.row.L + j) 0)
    (get_or (map e.number c.add_two.new.sums) j 0) (c.add_two.ensures.first j (omega arith)))))
    (row-of-lanes e.BYTES o w a.s.now (λ q. search rules) c.requires.widths.0 c.requires.widths.1
    v.new.s g.row.L a.pitch a.k (a.a + a.pitch) a.b (a.c + 4 * a.pitch) g.row.L (map e.number t.new.d) (map e.number c.add_two.new.others) (map e.number a.d.now) u.new.s (omega arith)
    t.ensures.fetched c.requires.fetched c.add_two.ensures.second
    (u.ensures ∙ row-low e.BYTES o (a.c + 4 * a.pitch) g.row.L (λ j. get_or (map e.number c.add_two.new.others) j 0) v.new.s c.requires.widths.1
    (λ j h. product-lt e.BYTES a.k (get_or (map e.number t.new.d) j 0) (λ l. residue_at e.BYTES a.s.now ((a.a + a.pitch) + l * w) w) (λ l. get_or (map e.number a.d.now) (l * g.row.L + j) 0)
    (get_or (map e.number c.add_two.new.others) j 0) (c.add_two.ensures.second j (omega arith)))))

pub add_two-requires-clause-in_range : goal.add_two-requires-clause-in_range
add_two-requires-clause-in_range g c =
    let e = g.E.Element in
    let o = g.O.Element.BYTES in
    let a = c.args in (
      λ j h. in_range-of e.number (256 ^ e.BYTES) c.low-sums.result g.row.L g.row.L (λ q. residue_at e.BYTES a.s.now (a.c + q * o) o) (map e.number c.fetch_row.new.d)
          (pow-256 e.BYTES) (c.low-sums.ensures ∙ zero-mod (256 ^ e.BYTES)) (λ q. reduce-lt (256 ^ e.BYTES) (pow-256 e.BYTES) (signed_le a.s.now (a.c + q * o) o))
          (c.fetch_row.ensures.fetched, c.fetch_row.ensures.others) j,
      λ j h. in_range-of e.number (256 ^ e.BYTES) c.low-others.result g.row.L g.row.L (λ q. residue_at e.BYTES a.s.now ((a.c + 4 * a.pitch) + q * o) o) (map e.number c.fetch_row-2.new.d)
          (pow-256 e.BYTES) (c.low-others.ensures ∙ zero-mod (256 ^ e.BYTES)) (λ q. reduce-lt (256 ^ e.BYTES) (pow-256 e.BYTES) (signed_le a.s.now ((a.c + 4 * a.pitch) + q * o) o))
          (c.fetch_row-2.ensures.fetched, c.fetch_row-2.ensures.others) j,
    )
