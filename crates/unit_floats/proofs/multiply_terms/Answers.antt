-- Each element of C has the products of the first `l` terms, once a block was taken.
use Rattle.numbers.proofs.Kit.{inr, ◌+◌, arith, length}
use Rattle.numbers.specs.Binary32.{float_product}
use Rattle.unit_arithmetic.proofs.BlockLaws.{terms-lie, terms-added}
use Rattle.unit_floats.proofs.RowLaws.{float-joins}
use Rattle.unit_floats.proofs.multiply_terms.Goals as goal

pub multiply_rows-requires-clause-lies_in : goal.multiply_rows-requires-clause-lies_in
multiply_rows-requires-clause-lies_in c =
    let a = c.args in
    rw (c.terms.ensures, c.loop-l.auto.s) (terms-lie a.p 4 4 (length a.s.now) c.loop-l.l c.min-terms.result c.requires.lies_in (omega arith))

pub loop-l-preserved : goal.loop-l-preserved
loop-l-preserved c =
    let a = c.args in
    let l = c.loop-l in
    let w = c.multiply_rows in (
      omega arith,
      inr (terms-added float_product 4 4 float-joins a.p a.s.now l.s w.new.s c.terms.result c.requires.lies_in
          l.l c.min-terms.result (l.l + 16) (omega arith) (omega arith) l.invariant.1 c.terms.ensures w.ensures),
    )

pub returns-2 : goal.returns-2
returns-2 c =
    let a = c.args in
    let l = c.loop-l in
    let w = c.multiply_rows in
    terms-added float_product 4 4 float-joins a.p a.s.now l.s w.new.s c.terms.result c.requires.lies_in
    l.l c.min-terms.result a.p.k (omega arith) (omega arith) l.invariant.1 c.terms.ensures w.ensures
