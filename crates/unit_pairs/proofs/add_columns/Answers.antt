-- The loop: the first `j` elements are written, each from what stood there at entry.
use Rattle.numbers.proofs.Kit.{◌≡◌, refl, ap₂, ℕ, ◌+◌, ◌*◌, ◌%◌, arith}
use Rattle.numbers.specs.Tile.{get_le, put_row}
use Rattle.numbers.proofs.ElementLaws.{put_row-next}
use Rattle.unit_pairs.specs.Pairs.{plus_pairs, pairs_row}
use Rattle.unit_pairs.proofs.PairLaws.{after-row}
use Rattle.unit_pairs.proofs.add_columns.Goals as goal

pub loop-j-init : goal.loop-j-init
unfolding put_row
loop-j-init c = refl

pub loop-j-preserved : goal.loop-j-preserved
loop-j-preserved c =
    let l = c.loop-j in
    let a = c.args in
    let F : ℕ → ℕ = pairs_row a.s.now a.c a.xs.now a.b.now a.o a.pairs in
    let to : ℕ = a.c + l.j * 4 in
    let old = after-row a.c l.j F a.s.now l.s l.invariant to to refl (omega arith) in
    let e : 2 * l.j ≡ 2 * (l.j % 4) = omega (arith, c.requires.n_bound) in
    let ev : plus_pairs (get_le l.s to 4) a.xs.now (2 * l.j) a.b.now (a.o + 2 * l.j) a.pairs ≡ F l.j =
    ap₂ (λ (v h : ℕ). plus_pairs v a.xs.now h a.b.now (a.o + 2 * l.j) a.pairs) old e in
    put_row-next 4 a.s.now l.s c.add_column.new.s F a.c l.j to _ l.invariant refl ev c.add_column.ensures
