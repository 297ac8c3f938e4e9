use Rattle.numbers.proofs.Kit.{◌≡◌, ap, ◌∙◌, ◌+◌, ◌*◌, ◌<◌, sym, ℕ, arith, get_or}
use Rattle.std.specs.Float.{nan}
use Rattle.numbers.specs.Bounds.{most_floats}
use Rattle.numbers.specs.Tile.{put_tile}
use Rattle.numbers.specs.Binary32.{float_product}
use Rattle.unit_sums.proofs.TurnLaws.{rule-two}
use Rattle.unit_floats.specs.Rows.{float_at, float_row}
use Rattle.unit_floats.proofs.RowLaws.{row-of-floats}
use Rattle.unit_floats.proofs.multiply_two.Goals as goal

pub returns : goal.returns
returns c =
    let a = c.args in
    let p = a.p in
    let f = c.fetch_row in
    let g = c.fetch_row-2 in
    let w = c.add_two in
    let u = c.store_row in
    let v = c.store_row-2 in
    let e = c.requires.n_value in
    let fetched : (l j : ℕ) → l < p.k → j < most_floats → get_or a.d.now (l * most_floats + j) nan ≡ float_at a.s.now (p.b + l * p.pitch + j * 4) =
    λ l j hl hj. c.requires.fetched l j hl (omega (arith, e, hj)) in
    rule-two (float_product p.k) 4 4 p.pitch (4 * p.pitch) most_floats p.a p.b p.c a.s.now u.new.s v.new.s
    (row-of-floats a.s.now a.s.now p.pitch p.k p.a p.b p.c most_floats f.new.d w.new.sums a.d.now u.new.s
    (omega arith) f.ensures.by_index fetched w.ensures.by_index u.ensures)
    (row-of-floats a.s.now u.new.s p.pitch p.k (p.a + p.pitch) p.b (p.c + 4 * p.pitch) most_floats g.new.d w.new.others a.d.now v.new.s
    (omega arith) g.ensures.by_index fetched w.ensures.by_index_2 v.ensures)
    ∙ ap (λ (n : ℕ). put_tile (λ i. p.c + i * (4 * p.pitch)) 2 n 4 (λ i. float_row a.s.now p.pitch p.k (p.a + i * p.pitch) p.b (p.c + i * (4 * p.pitch))) a.s.now) (sym e)
