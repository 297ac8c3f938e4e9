-- `image_check::runs::next_run` meets its contract.
use Rattle.std.proofs.lemmas.Result.{err_from_is_err_and}
use Rattle.numbers.proofs.Kit.{◌≡◌, ◌+◌, ◌-◌, ◌*◌, ◌≤◌, arith, length, le-leb, lt-leb}
use Rattle.numbers_coded.specs.At.{number_at}
use Rattle.numbers_coded.specs.At.Number.{Value}
use Rattle.numbers_coded.proofs.FromLaws.{Took, took, good-is, bad-is}
use Rattle.image_check.specs.Parts.{next_at}
use Rattle.image_check.proofs.runs.next_run.Goals as goal
use Rattle.image_check.proofs.runs.next_run.Goals.{In_ok-gap, In_ok-size}

-- the gap, and the length, that were read
gap_is : (c : In_ok-gap) → let g = c.in_ok-gap.gap in
    let a = c.args in
    number_at a.s.now a.at a.least (a.room - (1 + 2 * (a.left - 1))) ≡ Value g.value g.at
gap_is c = let a = c.args in good-is (number_at a.s.now a.at a.least (a.room - (1 + 2 * (a.left - 1)))) c.in_ok-gap.ensures

gap-read : (c : In_ok-gap) → let g = c.in_ok-gap.gap in
    let a = c.args in
    Took a.s.now a.at a.least (a.room - (1 + 2 * (a.left - 1))) g.value g.at
gap-read c = let a = c.args in took a.s.now a.at a.least (a.room - (1 + 2 * (a.left - 1))) _ _ (gap_is c)

size_is : (c : In_ok-size) → let g = c.in_ok-gap.gap in
    let n = c.in_ok-size.size in
    let a = c.args in
    number_at a.s.now g.at 1 (a.room - (g.value + 2 * (a.left - 1))) ≡ Value n.value n.at
size_is c =
    let g = c.in_ok-gap.gap in
    let a = c.args in
    good-is (number_at a.s.now g.at 1 (a.room - (g.value + 2 * (a.left - 1)))) c.in_ok-size.ensures

there : (c : In_ok-size) → c.in_ok-size.size.at ≤ length c.args.s.now
there c =
    let g = c.in_ok-gap.gap in
    let a = c.args in
    (took a.s.now g.at 1 (a.room - (g.value + 2 * (a.left - 1))) _ _ (size_is c)).behind ((gap-read (goal.at.In_ok-size c).In_ok-gap).behind c.requires.at_in_bounds)

pub returns-in_err-gap : goal.returns-in_err-gap
unfolding next_at
returns-in_err-gap c =
    let a = c.args in
    let p = err_from_is_err_and c.from_residual.result c.from_residual.ensures.1 in
    rw (p.1, p.2, bad-is (number_at a.s.now a.at a.least (a.room - (1 + 2 * (a.left - 1)))) c.in_err-gap.ensures)

pub overflow_add-gap : goal.overflow_add-gap
overflow_add-gap c = let t = gap-read (goal.at.overflow_add-gap c).In_ok-gap in omega arith

pub overflow_sub-room-2 : goal.overflow_sub-room-2
overflow_sub-room-2 c = let t = gap-read (goal.at.overflow_sub-room-2 c).In_ok-gap in omega arith

pub returns-in_err-size : goal.returns-in_err-size
unfolding next_at
returns-in_err-size c =
    let g = c.in_ok-gap.gap in
    let a = c.args in
    let p = err_from_is_err_and c.from_residual-in_err-size.result c.from_residual-in_err-size.ensures.1 in
    rw (p.1, p.2, gap_is (goal.at.returns-in_err-size c).In_ok-gap, bad-is (number_at a.s.now g.at 1 (a.room - (g.value + 2 * (a.left - 1)))) c.in_err-size.ensures)

pub overflow_sub-s : goal.overflow_sub-s
overflow_sub-s c = there (goal.at.overflow_sub-s c).In_ok-size

pub returns-then-s-size : goal.returns-then-s-size
unfolding next_at
returns-then-s-size c =
    let n = c.in_ok-size.size in
    let k = (goal.at.returns-then-s-size c).In_ok-size in
    rw (gap_is (goal.at.returns-then-s-size c).In_ok-gap, size_is k, lt-leb (n.at + n.value) (length c.args.s.now) (omega (arith, there k, c.if-s-size.true)))

pub returns : goal.returns
unfolding next_at
returns c =
    let n = c.in_ok-size.size in
    let k = (goal.at.returns c).In_ok-size in
    rw (gap_is (goal.at.returns c).In_ok-gap, size_is k, le-leb (n.at + n.value) (length c.args.s.now) (omega (arith, there k, c.if-s-size.false)))
