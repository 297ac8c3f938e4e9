-- The loop: the sum has the first `p` pairs.
use Rattle.numbers.proofs.Kit.{refl, ◌∙◌, ◌+◌, ◌*◌, ◌^◌, ◌<◌, arith}
use Rattle.std.proofs.Common.{rules}
use Rattle.numbers.specs.Tile.{get_le}
use Rattle.unit_pairs.specs.Pairs.{pair_places}
use Rattle.unit_pairs.proofs.PairLaws.{no_pairs, pair-added}
use Rattle.unit_pairs.proofs.add_column.Goals as goal

pub loop-p-init : goal.loop-p-init
loop-p-init c =
    let a = c.args in
    let r = c.read-sum in
    let h : r.result < 256 ^ 4 = search rules in
    r.ensures ∙ no_pairs (get_le a.s.now a.c 4) a.xs.now a.from a.b.now a.o (omega (arith, r.ensures, h))

pub loop-p-preserved : goal.loop-p-preserved
loop-p-preserved c =
    let l = c.loop-p in
    let a = c.args in
    let y = c.pair_at-y in
    pair-added (get_le a.s.now a.c 4) a.xs.now a.from a.b.now a.o l.p l.sum y.result (a.from + 8 * l.p) (a.o + l.p * pair_places)
    l.invariant y.ensures refl (omega arith)
