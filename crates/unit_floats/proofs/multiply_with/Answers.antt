-- The first `i` rows of C are those of the product, and every element is read as at entry.
use Rattle.numbers.proofs.Kit.{refl, sym, ap, ◌∙◌, ◌+◌, ◌-◌, ◌*◌, ◌≤◌, arith, length}
use Rattle.numbers.specs.Tile.{put_tile}
use Rattle.numbers.specs.Binary32.{value_of, float_product}
use Rattle.numbers.proofs.Binary32Laws.{product-cong}
use Rattle.unit_sums.proofs.TurnLaws.{same-b, rule-rows}
use Rattle.unit_arithmetic.specs.declared.product.Product.{Product}
use Rattle.unit_arithmetic.proofs.BlockLaws.{rows-lie}
use Rattle.unit_floats.specs.Rows.{float_row, floats_added, first_rows}
use Rattle.unit_floats.proofs.multiply_with.Goals as goal

pub loop-i-init : goal.loop-i-init
unfolding put_tile
loop-i-init c = (omega arith, refl)

pub multiply_next-i-requires-clause-lies_in : goal.multiply_next-i-requires-clause-lies_in
multiply_next-i-requires-clause-lies_in c =
    let a = c.args in
    rw (c.rows.ensures, c.loop-i.auto.s) (rows-lie a.p 4 4 (length a.s.now) c.loop-i.i (a.p.m - c.loop-i.i) c.requires.lies_in (omega arith) (omega arith))

pub multiply_next-i-requires-clause-fetched : goal.multiply_next-i-requires-clause-fetched
multiply_next-i-requires-clause-fetched c =
    let a = c.args in
    let p = a.p in
    let l = c.loop-i in
    let h = c.requires.lies_in in
    rw c.rows.ensures
    (λ r j lr lj. c.fetch_tile.ensures r j lr lj
    ∙ ap value_of (sym (same-b 4 4 p.pitch (4 * p.pitch) p.k p.n p.a p.b p.c p.m a.s.now h.b-row h.c-row h.a-before h.b-before
    (λ i. float_row a.s.now p.pitch p.k (p.a + i * p.pitch) p.b (p.c + i * (4 * p.pitch))) l.i l.s l.invariant.1 r j lr lj)))

pub loop-i-preserved : goal.loop-i-preserved
loop-i-preserved c =
    let a = c.args in
    let p = a.p in
    let l = c.loop-i in
    let w = c.multiply_next-i in
    let h = c.requires.lies_in in
    let all : l.i + w.result ≤ p.m = omega (arith, w.ensures.result_nonzero.1, ap (λ (q : Product). q.m) c.rows.ensures, l.invariant.0) in (
      all,
      rule-rows 4 4 p.pitch (4 * p.pitch) p.k p.n p.a p.b p.c p.m a.s.now h.b-row h.c-row h.a-before h.b-before
          (float_product p.k) (λ old x y u v. product-cong old p.k x y u v)
          l.i w.result l.s all l.invariant.1 (p.a + l.i * p.pitch) (p.c + l.i * (4 * p.pitch)) w.new.s refl refl
          (w.ensures.s_after ∙ ap (λ (q : Product). floats_added (first_rows q w.result) l.s) c.rows.ensures),
    )
