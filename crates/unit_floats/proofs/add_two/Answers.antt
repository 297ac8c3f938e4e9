-- Each sum of both rows has its first `l` products.
use Rattle.numbers.proofs.Kit.{◌∙◌, ap}
use Rattle.numbers.specs.Binary32.{value_of}
use Rattle.unit_floats.proofs.RowLaws.{no_product, one_product_more}
use Rattle.unit_floats.proofs.add_two.Goals as goal

pub loop-l-init : goal.loop-l-init
loop-l-init c = let a = c.args in (no_product a.s.now a.d.now a.a a.sums.now, no_product a.s.now a.d.now a.e a.others.now)

pub loop-l-preserved : goal.loop-l-preserved
loop-l-preserved c =
    let a = c.args in
    let l = c.loop-l in
    let w = c.mac_two in (
      one_product_more a.s.now a.d.now a.a a.sums.now l.sums w.new.sums l.l c.value_of-x.result l.invariant.0 (c.value_of-x.ensures ∙ ap value_of c.read.ensures) w.ensures.by_index,
      one_product_more a.s.now a.d.now a.e a.others.now l.others w.new.others l.l c.value_of-y.result l.invariant.1 (c.value_of-y.ensures ∙ ap value_of c.read-in-loop-l.ensures) w.ensures.by_index_2,
    )
