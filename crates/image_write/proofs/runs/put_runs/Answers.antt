-- `image_write::runs::put_runs` meets its contract. The invariant: the runs that are left make of the room what all make.
use Rattle.numbers.proofs.Kit.{refl, sym, ap, ◌∙◌, List, ℕ, ◌+◌, ◌-◌, arith, length, take, drop, sets}
use Rattle.numbers_format.specs.Numbers.{encode}
use Rattle.image.specs.Cells.{Run}
use Rattle.image.specs.Images.{runs_bytes}
use Rattle.image_write.proofs.StretchLaws.{below}
use Rattle.image_write.proofs.PutLaws.{put_three}
use Rattle.image_write.proofs.FindLaws.{runs_at, no_run, some-there, run-size, run-bytes, run_length, runs_past}
use Rattle.image_write.proofs.runs.put_runs.Goals as goal

pub loop-at-init : goal.loop-at-init
loop-at-init c = (omega arith, refl, refl, refl)

pub returns-then-first-marks : goal.returns-then-first-marks
returns-then-first-marks c =
    let bs = c.args.registers.now in
    let ms = c.args.marks.now in
    let n = c.requires.registers_len in
    let two = c.requires.two_valued in
    let l = c.loop-at in
    let first = c.stretch_end-first.result in
    let gap = c.stretch_end-first.ensures in
    sym (ap (λ (rs : List Run). sets l.room l.to (runs_bytes rs)) (no_run bs ms n two l.at first gap c.if-first-marks.true)) ∙ l.invariant.3

pub stretch_end-first-requires : goal.stretch_end-first-requires
stretch_end-first-requires c =
    record {
      from_in_bounds = omega arith;
      two_valued = c.requires.two_valued;
      value_bound = omega arith;
    }

pub stretch_end-end-requires : goal.stretch_end-end-requires
stretch_end-end-requires c =
    record {
      from_in_bounds = c.stretch_end-first.ensures.to.in-marks;
      two_valued = c.requires.two_valued;
      value_bound = omega arith;
    }

pub put_number-to-requires : goal.put_number-to-requires
put_number-to-requires c =
    let bs = c.args.registers.now in
    let ms = c.args.marks.now in
    let n = c.requires.registers_len in
    let two = c.requires.two_valued in
    let l = c.loop-at in
    let first = c.stretch_end-first.result in
    let gap = c.stretch_end-first.ensures in
    let end = c.stretch_end-end.result in
    let marked = c.stretch_end-end.ensures in
    let more = below first (length ms) gap.to.in-marks c.if-first-marks.false in
    let long = run_length bs ms n two l.at first gap end marked more in
    omega (arith, c.requires.marks_in_bounds, l.invariant.0, l.invariant.1, l.invariant.2, long, gap.to.from-there, marked.to.from-there, marked.to.in-marks)

pub put_number-to-requires-in-loop-at : goal.put_number-to-requires-in-loop-at
put_number-to-requires-in-loop-at c =
    let bs = c.args.registers.now in
    let ms = c.args.marks.now in
    let n = c.requires.registers_len in
    let two = c.requires.two_valued in
    let l = c.loop-at in
    let first = c.stretch_end-first.result in
    let gap = c.stretch_end-first.ensures in
    let end = c.stretch_end-end.result in
    let marked = c.stretch_end-end.ensures in
    let more = below first (length ms) gap.to.in-marks c.if-first-marks.false in
    let long = run_length bs ms n two l.at first gap end marked more in
    let p = c.put_number-to in
    omega (arith, c.requires.marks_in_bounds, l.invariant.0, l.invariant.1, l.invariant.2, long, gap.to.from-there, marked.to.from-there, marked.to.in-marks, p.ensures.0, p.auto.room)

pub copy_bytes-requires : goal.copy_bytes-requires
copy_bytes-requires c =
    let bs = c.args.registers.now in
    let ms = c.args.marks.now in
    let n = c.requires.registers_len in
    let two = c.requires.two_valued in
    let l = c.loop-at in
    let first = c.stretch_end-first.result in
    let gap = c.stretch_end-first.ensures in
    let end = c.stretch_end-end.result in
    let marked = c.stretch_end-end.ensures in
    let more = below first (length ms) gap.to.in-marks c.if-first-marks.false in
    let long = run_length bs ms n two l.at first gap end marked more in
    let p = c.put_number-to in
    let p2 = c.put_number-to-in-loop-at in
    record {
      n_in_bounds = omega (arith, c.requires.marks_in_bounds, l.invariant.0, l.invariant.1, l.invariant.2, long, gap.to.from-there, marked.to.from-there, marked.to.in-marks, p.ensures.0, p.auto.room, p2.ensures.0, p2.auto.room);
      n_in_bounds_2 = omega (arith, n, marked.to.from-there, marked.to.in-marks);
    }

pub overflow_add-to : goal.overflow_add-to
overflow_add-to c =
    let bs = c.args.registers.now in
    let ms = c.args.marks.now in
    let n = c.requires.registers_len in
    let two = c.requires.two_valued in
    let l = c.loop-at in
    let first = c.stretch_end-first.result in
    let gap = c.stretch_end-first.ensures in
    let end = c.stretch_end-end.result in
    let marked = c.stretch_end-end.ensures in
    let more = below first (length ms) gap.to.in-marks c.if-first-marks.false in
    let long = run_length bs ms n two l.at first gap end marked more in
    let p = c.put_number-to in
    let p2 = c.put_number-to-in-loop-at in
    omega (arith, c.requires.marks_in_bounds, l.invariant.0, l.invariant.1, l.invariant.2, long, gap.to.from-there, marked.to.from-there, marked.to.in-marks, p.ensures.0, p2.ensures.0)

pub loop-at-smaller : goal.loop-at-smaller
loop-at-smaller c =
    let bs = c.args.registers.now in
    let ms = c.args.marks.now in
    let n = c.requires.registers_len in
    let two = c.requires.two_valued in
    let l = c.loop-at in
    let first = c.stretch_end-first.result in
    let gap = c.stretch_end-first.ensures in
    let end = c.stretch_end-end.result in
    let marked = c.stretch_end-end.ensures in
    let more = below first (length ms) gap.to.in-marks c.if-first-marks.false in
    let long = run_length bs ms n two l.at first gap end marked more in
    omega (arith, gap.to.from-there, marked.to.in-marks, some-there bs ms n two l.at first gap end marked more)

pub loop-at-preserved : goal.loop-at-preserved
loop-at-preserved c =
    let bs = c.args.registers.now in
    let ms = c.args.marks.now in
    let n = c.requires.registers_len in
    let two = c.requires.two_valued in
    let l = c.loop-at in
    let first = c.stretch_end-first.result in
    let gap = c.stretch_end-first.ensures in
    let end = c.stretch_end-end.result in
    let marked = c.stretch_end-end.ensures in
    let more = below first (length ms) gap.to.in-marks c.if-first-marks.false in
    let long = run_length bs ms n two l.at first gap end marked more in
    let p = c.put_number-to in
    let p2 = c.put_number-to-in-loop-at in
    let cb = c.copy_bytes in
    let size = run-size bs ms n two l.at first gap end marked more in (
      marked.to.in-marks,
      cb.auto.room ∙ p2.auto.room ∙ p.auto.room ∙ l.invariant.1,
      omega (arith, long, l.invariant.2, p.ensures.0, p2.ensures.0),
      sym (ap (sets l.room l.to) (run-bytes bs ms n two l.at first gap end marked more)
          ∙ put_three l.room (encode (first - l.at)) (encode (end - first)) (take (end - first) (drop first bs)) (runs_bytes (runs_at bs ms end)) p.new.room p2.new.room cb.new.room
          l.to p.result p2.result (p2.result + (end - first)) p.ensures.1 p.ensures.0 p2.ensures.1 p2.ensures.0 cb.ensures (ap (λ (x : ℕ). p2.result + x) (sym size)))
          ∙ l.invariant.3,
    )

pub returns : goal.returns
returns c =
    let l = c.loop-at in
    sym (ap (λ (rs : List Run). sets l.room l.to (runs_bytes rs)) (runs_past c.args.registers.now c.args.marks.now c.requires.registers_len l.at (omega (arith, c.loop-at-test.false)))) ∙ l.invariant.3
