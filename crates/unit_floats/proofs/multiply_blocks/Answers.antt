-- The first `j` columns of C have their products.
use Rattle.numbers.proofs.Kit.{◌+◌, arith, length}
use Rattle.numbers.specs.Binary32.{float_product}
use Rattle.unit_arithmetic.proofs.BlockLaws.{columns-lie, columns-none, rows-none, columns-added}
use Rattle.unit_floats.proofs.RowLaws.{float-joins}
use Rattle.unit_floats.proofs.multiply_blocks.Goals as goal

pub returns-then-p-eq0 : goal.returns-then-p-eq0
returns-then-p-eq0 c = rows-none float_product 4 4 c.args.p c.args.s.now c.if-p-eq0.true

pub loop-j-init : goal.loop-j-init
loop-j-init c = (omega arith, columns-none float_product 4 4 c.args.p c.args.s.now)

pub multiply_terms-requires-clause-lies_in : goal.multiply_terms-requires-clause-lies_in
multiply_terms-requires-clause-lies_in c =
    let a = c.args in
    rw (c.columns.ensures, c.loop-j.auto.s) (columns-lie a.p 4 4 (length a.s.now) c.loop-j.j c.min-columns.result c.requires.lies_in (omega arith) (omega arith) (omega arith))

pub loop-j-preserved : goal.loop-j-preserved
loop-j-preserved c =
    let a = c.args in
    let l = c.loop-j in
    let w = c.multiply_terms in (
      omega arith,
      columns-added float_product 4 4 float-joins a.p a.s.now l.s w.new.s c.columns.result c.requires.lies_in
          l.j c.min-columns.result (l.j + 16) (omega arith) (omega arith) l.invariant.1 c.columns.ensures w.ensures,
    )

pub returns-else-p-eq0-2 : goal.returns-else-p-eq0-2
returns-else-p-eq0-2 c =
    let a = c.args in
    let l = c.loop-j in
    let w = c.multiply_terms in
    columns-added float_product 4 4 float-joins a.p a.s.now l.s w.new.s c.columns.result c.requires.lies_in
    l.j c.min-columns.result a.p.n (omega arith) (omega arith) l.invariant.1 c.columns.ensures w.ensures
