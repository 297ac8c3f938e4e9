-- The loop: the first `j` elements of the row are written, each from what stood there at entry.
use Rattle.numbers.proofs.Kit.{◌/◌, ◌≡◌, refl, ap, ◌∙◌, ℕ, ◌+◌, ◌*◌, ◌%◌, arith}
use Rattle.numbers.specs.Tile.{put_row}
use Rattle.unit_pairs.specs.Pairs.{pairs_row}
use Rattle.unit_pairs.proofs.PairLaws.{columns-more}
use Rattle.unit_pairs.proofs.add_row.Goals as goal

pub loop-i-init : goal.loop-i-init
unfolding put_row
loop-i-init c = refl

pub loop-i-preserved : goal.loop-i-preserved
loop-i-preserved c =
    let l = c.loop-i in
    let a = c.args in
    let w = c.add_block in
    let e : 4 * l.i + 4 ≡ 4 * (l.i + 1) = omega arith in
    columns-more a.s.now l.s w.new.s a.xs.now a.b.now a.c (4 * l.i) 4 (a.c + 16 * l.i) (8 * l.i) a.pairs
    (omega arith) (omega arith) (omega arith) (omega arith) l.invariant w.ensures
    ∙ ap (λ (n : ℕ). put_row a.c n 4 (pairs_row a.s.now a.c a.xs.now a.b.now 0 a.pairs) a.s.now) e

pub returns : goal.returns
returns c =
    let l = c.loop-i in
    let a = c.args in
    let w = c.add_columns in
    let e : 4 * l.i + a.n % 4 ≡ a.n = omega arith in
    columns-more a.s.now l.s w.new.s a.xs.now a.b.now a.c (4 * l.i) (a.n % 4) (a.c + 16 * (a.n / 4)) (8 * (a.n / 4)) a.pairs
    (omega arith) (omega arith) (omega arith) (omega arith) l.invariant w.ensures
    ∙ ap (λ (n : ℕ). put_row a.c n 4 (pairs_row a.s.now a.c a.xs.now a.b.now 0 a.pairs) a.s.now) e
