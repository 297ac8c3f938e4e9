-- `image_write::runs::tally_of` meets its contract. The invariant: the runs counted and those left are all, whatever the registers hold.
use Rattle.numbers.proofs.Kit.{ap, List, arith, length}
use Rattle.image.specs.Cells.{Run}
use Rattle.image.specs.Images.{runs_bytes}
use Rattle.image_write.proofs.FindLaws.{no_run, Found, found-run, runs_past}
use Rattle.image_write.proofs.runs.tally_of.Goals as goal
use Rattle.image_write.proofs.runs.tally_of.Goals.{After-number_size-in-loop-at}

pub loop-at-init : goal.loop-at-init
loop-at-init c = (omega arith, omega arith, omega arith, λ registers n. (omega arith, omega arith))

pub returns-then-first-marks : goal.returns-then-first-marks
returns-then-first-marks c =
    let ms = c.args.marks.now in
    let two = c.requires.two_valued in
    let l = c.loop-at in
    let first = c.stretch_end-first.result in
    let gap = c.stretch_end-first.ensures in
    record {
      counted = λ registers n. let none_left = ap length (no_run registers ms n two l.at first gap c.if-first-marks.true) in omega (arith, (l.invariant.3 registers n).0, none_left);
      sized = λ registers n. let none_left = ap (λ (rs : List Run). length (runs_bytes rs)) (no_run registers ms n two l.at first gap c.if-first-marks.true) in omega (arith, (l.invariant.3 registers n).1, none_left);
      few = omega (arith, l.invariant.0, l.invariant.2);
    }

pub stretch_end-first-requires : goal.stretch_end-first-requires
stretch_end-first-requires c =
    record {
      from_in_bounds = omega arith;
      two_valued = c.requires.two_valued;
      value_bound = omega arith;
    }

pub stretch_end-end-requires : goal.stretch_end-end-requires
stretch_end-end-requires c =
    record {
      from_in_bounds = c.stretch_end-first.ensures.to.in-marks;
      two_valued = c.requires.two_valued;
      value_bound = omega arith;
    }

-- the run that was found, before the place of the next turn
found : (c : After-number_size-in-loop-at) → let l = c.loop-at in
    Found c.args.marks.now l.at c.stretch_end-first.result c.stretch_end-end.result
found c =
    let l = c.loop-at in
    found-run c.args.marks.now c.requires.marks_len_bound c.requires.two_valued l.at c.stretch_end-first.result c.stretch_end-first.ensures c.stretch_end-end.result c.stretch_end-end.ensures c.if-first-marks.false

pub overflow_add-bytes : goal.overflow_add-bytes
overflow_add-bytes c = let f = found c in omega arith

pub overflow_add-bytes-in-loop-at : goal.overflow_add-bytes-in-loop-at
overflow_add-bytes-in-loop-at c = let f = found c in omega arith

pub overflow_add-bytes-in-loop-at-2 : goal.overflow_add-bytes-in-loop-at-2
overflow_add-bytes-in-loop-at-2 c = let f = found c in omega arith

pub overflow_add-runs : goal.overflow_add-runs
overflow_add-runs c = let f = found c in omega arith

pub loop-at-smaller : goal.loop-at-smaller
loop-at-smaller c = let f = found c in omega arith

pub loop-at-preserved : goal.loop-at-preserved
loop-at-preserved c =
    let f = found c in
    let l = c.loop-at in (
      f.in-marks,
      omega arith,
      omega arith,
      λ registers n. (
        omega (arith, (l.invariant.3 registers n).0, ap length (f.first_run registers n)),
        omega (arith, (l.invariant.3 registers n).1, f.first-bytes registers n, c.number_size.ensures, c.number_size-in-loop-at.ensures),
      ),
    )

pub returns : goal.returns
returns c =
    let ms = c.args.marks.now in
    let l = c.loop-at in
    record {
      counted = λ registers n. let none_left = ap length (runs_past registers ms n l.at (omega (arith, c.loop-at-test.false))) in omega (arith, (l.invariant.3 registers n).0, none_left);
      sized = λ registers n. let none_left = ap (λ (rs : List Run). length (runs_bytes rs)) (runs_past registers ms n l.at (omega (arith, c.loop-at-test.false))) in omega (arith, (l.invariant.3 registers n).1, none_left);
      few = omega (arith, l.invariant.0, l.invariant.2);
    }
