use Rattle.numbers.proofs.Kit.{◌≡◌, refl, sym, ap, ◌∙◌, ℕ, ◌+◌, ◌*◌, ◌^◌, ◌≤◌, arith}
use Rattle.numbers.proofs.Kit.{List, mul-le-mul_right}
use Rattle.numbers.specs.Reduce.{signed, reduce}
use Rattle.numbers.specs.Tile.{put_tile}
use Rattle.machine.specs.ArithmeticWords.{product}
use Rattle.unit_sums.specs.Rows.{product_row}
use Rattle.unit_sums.proofs.TurnLaws.{product-reads, same-b, product-turn, rule-rows}
use Rattle.unit_lanes.proofs.multiply_rows.Goals.{In-loop-p, then-n, else-n}
use Rattle.unit_lanes.proofs.multiply_rows.Goals as goal

pub loop-p-init : goal.loop-p-init
unfolding put_tile
loop-p-init g c = refl

-- in a turn, the block is as wide as the lanes, and two rows are left
whole : (g : _) (c : In-loop-p g) → (c.args.n ≡ g.row.L) × (2 * c.loop-p.p + 2 ≤ c.args.m)
whole g c = elim c.if-n.branch [ then-n w ↦ (w.if-n.true, omega arith) | else-n w ↦ absurd (omega arith) ]

pub multiply_two-requires-clause-k_in_bounds : goal.multiply_two-requires-clause-k_in_bounds
multiply_two-requires-clause-k_in_bounds g c =
    let h = whole g (goal.at.multiply_two-requires-clause-k_in_bounds g c).In-loop-p in
    let f = mul-le-mul_right c.args.pitch h.1 in
    let e = ap (λ (n : ℕ). n * g.O.Element.BYTES) h.0 in
    (omega (arith, c.requires.width_bound_2), omega (arith, c.requires.width_bound_2))

pub multiply_two-requires-clause-fetched : goal.multiply_two-requires-clause-fetched
multiply_two-requires-clause-fetched g c =
    let e = g.E.Element in
    let w = g.N.Element.BYTES in
    let o = g.O.Element.BYTES in
    let a = c.args in
    let l = c.loop-p in
    let h = whole g (goal.at.multiply_two-requires-clause-fetched g c).In-loop-p in
    λ q j lq lj. c.fetch_tile.ensures q j lq (omega arith)
    ∙ ap (λ (x : ℕ). reduce (256 ^ e.BYTES) (signed (256 ^ w) x)) (sym (same-b o w a.pitch (4 * a.pitch) a.k a.n a.a a.b a.c a.m a.s.now
    c.requires.width_bound.0 c.requires.width_bound.1.1 c.requires.width_bound_2.0 c.requires.width_bound_2.1.0
    (λ i. product_row a.s.now o w a.pitch a.k (a.a + i * a.pitch) a.b (a.c + i * (4 * a.pitch)))
    (2 * l.p) l.s l.invariant q j lq (omega arith)))

pub loop-p-preserved : goal.loop-p-preserved
loop-p-preserved g c =
    let e = g.E.Element in
    let w = g.N.Element.BYTES in
    let o = g.O.Element.BYTES in
    let a = c.args in
    let l = c.loop-p in
    let t = c.multiply_two in
    let h = whole g (goal.at.loop-p-preserved g c).In-loop-p in
    let from : ℕ = a.a + 2 * l.p * a.pitch in
    let to : ℕ = a.c + 2 * l.p * (4 * a.pitch) in
    let tile : ℕ → List ℕ = λ n. put_tile (λ i. to + i * (4 * a.pitch)) 2 n o (λ i. product_row l.s o w a.pitch a.k (from + i * a.pitch) a.b (to + i * (4 * a.pitch))) l.s in
    let two : 2 * l.p + 2 ≡ 2 * (l.p + 1) = omega arith in
    rule-rows o w a.pitch (4 * a.pitch) a.k a.n a.a a.b a.c a.m a.s.now
    c.requires.width_bound.0 c.requires.width_bound.1.1 c.requires.width_bound_2.0 c.requires.width_bound_2.1.0
    (product o w a.k) (product-reads o w a.k)
    (2 * l.p) 2 l.s h.1 l.invariant from to t.new.s refl refl (t.ensures ∙ ap tile (sym h.0))
    ∙ ap (λ (m : ℕ). put_tile (λ i. a.c + i * (4 * a.pitch)) m a.n o (λ i. product_row a.s.now o w a.pitch a.k (a.a + i * a.pitch) a.b (a.c + i * (4 * a.pitch))) a.s.now) two

pub multiply_row-requires-clause-fetched : goal.multiply_row-requires-clause-fetched
multiply_row-requires-clause-fetched g c =
    let e = g.E.Element in
    let w = g.N.Element.BYTES in
    let o = g.O.Element.BYTES in
    let a = c.args in
    let l = c.loop-i in
    λ q j lq lj. c.fetch_tile.ensures q j lq lj
    ∙ ap (λ (x : ℕ). reduce (256 ^ e.BYTES) (signed (256 ^ w) x)) (sym (same-b o w a.pitch (4 * a.pitch) a.k a.n a.a a.b a.c a.m a.s.now
    c.requires.width_bound.0 c.requires.width_bound.1.1 c.requires.width_bound_2.0 c.requires.width_bound_2.1.0
    (λ i. product_row a.s.now o w a.pitch a.k (a.a + i * a.pitch) a.b (a.c + i * (4 * a.pitch)))
    l.i l.s l.invariant q j lq lj))

pub loop-i-preserved : goal.loop-i-preserved
loop-i-preserved g c =
    let e = g.E.Element in
    let w = g.N.Element.BYTES in
    let o = g.O.Element.BYTES in
    let a = c.args in
    let l = c.loop-i in
    product-turn o w a.pitch (4 * a.pitch) a.k a.n a.a a.b a.c a.m a.s.now
    c.requires.width_bound.0 c.requires.width_bound.1.1 c.requires.width_bound_2.0 c.requires.width_bound_2.1.0
    l.i l.s c.loop-i-test.true l.invariant (a.a + l.i * a.pitch) (a.c + l.i * (4 * a.pitch)) c.multiply_row.new.s refl refl c.multiply_row.ensures
