-- Each element of C has the products of the first `l` terms, once a block was taken.
use Rattle.numbers.proofs.Kit.{inr, ◌+◌, arith, length}
use Rattle.machine.specs.ArithmeticWords.{product}
use Rattle.unit_arithmetic.proofs.BlockLaws.{terms-lie, terms-added, product-joins}
use Rattle.unit_arithmetic.proofs.multiply_terms.Goals as goal

pub multiply_rows-requires-clause-lies_in : goal.multiply_rows-requires-clause-lies_in
multiply_rows-requires-clause-lies_in c =
    let a = c.args in
    rw (c.terms.ensures, c.loop-l.auto.s) (terms-lie a.p a.width a.wide (length a.s.now) c.loop-l.l c.min-terms.result c.requires.lies_in (omega arith))

pub loop-l-preserved : goal.loop-l-preserved
loop-l-preserved c =
    let a = c.args in
    let l = c.loop-l in
    let w = c.multiply_rows in (
      omega arith,
      inr (terms-added (product a.wide a.width) a.width a.wide (product-joins a.wide a.width) a.p a.s.now l.s w.new.s c.terms.result c.requires.lies_in
          l.l c.min-terms.result (l.l + 16) (omega arith) (omega arith) l.invariant.1 c.terms.ensures w.ensures),
    )

pub returns-2 : goal.returns-2
returns-2 c =
    let a = c.args in
    let l = c.loop-l in
    let w = c.multiply_rows in
    terms-added (product a.wide a.width) a.width a.wide (product-joins a.wide a.width) a.p a.s.now l.s w.new.s c.terms.result c.requires.lies_in
    l.l c.min-terms.result a.p.k (omega arith) (omega arith) l.invariant.1 c.terms.ensures w.ensures
