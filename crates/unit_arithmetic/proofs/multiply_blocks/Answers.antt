-- The first `j` columns of C have their products.
use Rattle.numbers.proofs.Kit.{◌+◌, arith, length}
use Rattle.machine.specs.ArithmeticWords.{product}
use Rattle.unit_arithmetic.proofs.BlockLaws.{columns-lie, columns-none, rows-none, columns-added, product-joins}
use Rattle.unit_arithmetic.proofs.multiply_blocks.Goals as goal

pub returns-then-p-eq0 : goal.returns-then-p-eq0
returns-then-p-eq0 c = let a = c.args in rows-none (product a.wide a.width) a.width a.wide a.p a.s.now c.if-p-eq0.true

pub loop-j-init : goal.loop-j-init
loop-j-init c = let a = c.args in (omega arith, columns-none (product a.wide a.width) a.width a.wide a.p a.s.now)

pub multiply_terms-requires-clause-lies_in : goal.multiply_terms-requires-clause-lies_in
multiply_terms-requires-clause-lies_in c =
    let a = c.args in
    rw (c.columns.ensures, c.loop-j.auto.s)
    (columns-lie a.p a.width a.wide (length a.s.now) c.loop-j.j c.min-columns.result c.requires.lies_in c.requires.widths.1.1 (omega arith) (omega arith))

pub loop-j-preserved : goal.loop-j-preserved
loop-j-preserved c =
    let a = c.args in
    let l = c.loop-j in
    let w = c.multiply_terms in (
      omega arith,
      columns-added (product a.wide a.width) a.width a.wide (product-joins a.wide a.width) a.p a.s.now l.s w.new.s c.columns.result c.requires.lies_in
          l.j c.min-columns.result (l.j + c.columns_of-most.result) (omega arith) (omega arith) l.invariant.1 c.columns.ensures w.ensures,
    )

pub returns-else-p-eq0-2 : goal.returns-else-p-eq0-2
returns-else-p-eq0-2 c =
    let a = c.args in
    let l = c.loop-j in
    let w = c.multiply_terms in
    columns-added (product a.wide a.width) a.width a.wide (product-joins a.wide a.width) a.p a.s.now l.s w.new.s c.columns.result c.requires.lies_in
    l.j c.min-columns.result a.p.n (omega arith) (omega arith) l.invariant.1 c.columns.ensures w.ensures
