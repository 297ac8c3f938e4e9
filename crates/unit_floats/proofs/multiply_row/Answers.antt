use Rattle.unit_floats.proofs.RowLaws.{row-of-floats}
use Rattle.unit_floats.proofs.multiply_row.Goals as goal

pub returns : goal.returns
returns c =
    let a = c.args in
    let p = a.p in
    row-of-floats a.s.now a.s.now p.pitch p.k p.a p.b p.c p.n c.fetch_row.new.d c.add_products.new.sums a.d.now c.store_row.new.s
    c.requires.n_le_most_floats.0 c.fetch_row.ensures.by_index c.requires.fetched c.add_products.ensures c.store_row.ensures
