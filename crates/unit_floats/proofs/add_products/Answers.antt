-- Each sum has its first `l` products.
use Rattle.numbers.proofs.Kit.{◌∙◌, ap}
use Rattle.numbers.specs.Binary32.{value_of}
use Rattle.unit_floats.proofs.RowLaws.{no_product, one_product_more}
use Rattle.unit_floats.proofs.add_products.Goals as goal

pub loop-l-init : goal.loop-l-init
loop-l-init c = let a = c.args in no_product a.s.now a.d.now a.a a.sums.now

pub loop-l-preserved : goal.loop-l-preserved
loop-l-preserved c =
    let a = c.args in
    let l = c.loop-l in
    one_product_more a.s.now a.d.now a.a a.sums.now l.sums c.mac_row.new.sums l.l c.value_of-x.result l.invariant (c.value_of-x.ensures ∙ ap value_of c.read.ensures) c.mac_row.ensures
