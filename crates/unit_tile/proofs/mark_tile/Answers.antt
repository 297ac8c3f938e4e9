use Rattle.numbers.proofs.Kit.{refl, ap, ◌∙◌, ℕ, ◌+◌, ◌*◌, ◌-◌, ◌≤◌, arith, length, length-take, length-drop}
use Rattle.numbers.specs.Tile.{mark_tile}
use Rattle.numbers.proofs.PutLaws.{mark-back, mark_tile-next}
use Rattle.unit_tile.proofs.MarkLaws.{rows-together}
use Rattle.unit_tile.proofs.Room.{together-end}
use Rattle.unit_tile.proofs.mark_tile.Goals as goal
use Rattle.unit_tile.proofs.mark_tile.Goals.{Then-n-pitch}

-- rows that lie one after another
whole : (c : Then-n-pitch) → let a = c.args in a.start + a.rows * a.n ≤ length a.marks.now
whole c =
    let a = c.args in
    together-end a.start a.pitch a.rows a.n (length a.marks.now) c.requires c.if-n-pitch.true

pub overflow_mul-rows : goal.overflow_mul-rows
overflow_mul-rows c = let b = whole (goal.at.overflow_mul-rows c).Then-n-pitch in omega arith

pub mark_row-requires : goal.mark_row-requires
mark_row-requires c = let b = whole (goal.at.mark_row-requires c).Then-n-pitch in simp (length-take, length-drop) (omega arith)

pub returns-then-n-pitch : goal.returns-then-n-pitch
returns-then-n-pitch c =
    let a = c.args in
    let b = whole (goal.at.returns-then-n-pitch c).Then-n-pitch in
    let r = c.mark_row in
    mark-back a.marks.now r.new.dst a.start (length a.marks.now - a.start) (a.rows * a.n) (omega arith) refl r.ensures
    ∙ rows-together a.start a.rows a.n a.marks.now
    ∙ ap (λ (p : ℕ). mark_tile (λ i. a.start + i * p) a.rows a.n a.marks.now) c.if-n-pitch.true

pub loop-i-init : goal.loop-i-init
unfolding mark_tile
loop-i-init c = refl

pub loop-i-preserved : goal.loop-i-preserved
loop-i-preserved c =
    let l = c.loop-i in
    let a = c.args in
    let to : ℕ = a.start + l.i * a.pitch in
    let r = c.mark_row-in-loop-i in
    mark-back l.marks r.new.dst to (length l.marks - to) a.n (omega (arith, c.requires.1 l.i c.loop-i-test.true)) refl r.ensures
    ∙ mark_tile-next (λ i. a.start + i * a.pitch) l.i a.n a.marks.now l.marks to l.invariant refl
