use Rattle.numbers.proofs.Kit.{◌≡◌, ◌∙◌, ◌^◌, length, length-take, length-replicate, mod-eq_of_lt, arith}
use Rattle.std.specs.Prelude.{map}
use Rattle.std.proofs.Common.{rules}
use Rattle.std.proofs.Math.Nat.{zero-mod}
use Rattle.unit_sums.proofs.KernelLaws.{zeros, above-one}
use Rattle.unit_sums.proofs.RowLaws.{row-of-products}
use Rattle.unit_sums.proofs.multiply.Goals as goal

pub add_products-requires-clause-zero : goal.add_products-requires-clause-zero
add_products-requires-clause-zero g c =
    let e = g.E.Element in
    zeros e.number c.low-sums.result (c.low-sums.ensures ∙ zero-mod (256 ^ e.BYTES)) c.args.n g.row.MOST

pub returns : goal.returns
returns g c =
    let e = g.E.Element in
    let a = c.args in
    let d = c.add_products.new.acc in
    let n : length d ≡ a.n = c.add_products.auto.acc ∙ simp (length-take, length-replicate) (omega arith) in
    let big = above-one e.BYTES g.met.E.Element.is_width in
    row-of-products e.BYTES a.s.now a.width a.pitch a.k a.a a.b a.c a.n (e.number c.low.result) (map e.number d) c.finish_row.new.s
    big (λ q. search rules) (c.low.ensures ∙ mod-eq_of_lt big) (λ j h. c.add_products.ensures j (omega arith)) (rw n at c.finish_row.ensures)
