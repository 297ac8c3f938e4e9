-- `image_read::fill::fill_runs` meets its contract. The invariant: the runs that are left make of registers and marks what all make.
use borrow.Rule.Slice.PartMut.{put_mid}
use Rattle.numbers.proofs.Kit.{◌≡◌, refl, sym, ap, ◌∙◌, List, ℕ, ◌+◌, ◌-◌, min, arith, length, take, drop, replicate, length-replicate, length-take-le, length-drop, sets}
use Rattle.numbers_coded.proofs.CopyLaws.{put_part}
use Rattle.image.specs.Cells.{Run, spread, over}
use Rattle.image_check.specs.Parts.{plain_run, next_at}
use Rattle.image_check.proofs.RunsLaws.{RunOk, next-bad, next_known}
use Rattle.image_check.proofs.ScanLaws.{least-one, run-good, run-bad}
use Rattle.image_read.specs.Parts.{body_at, ones}
use Rattle.image_read.proofs.FillLaws.{filled, filled-start, filled-end, damaged-done, body_end, length-regs, length-marks, still-done, regs-filled, marks-filled}
use Rattle.image_read.proofs.fill.fill_runs.Goals as goal
use Rattle.image_read.proofs.fill.fill_runs.Goals.{In-Ok, After-fill}

-- the run that was read
next : (c : In-Ok) → let l = c.loop-k in
    let n = c.in-Ok.run' in
    RunOk c.args.s.now l.at (c.args.count - l.k) (min l.k 1) (length l.registers - l.to) n.gap n.size n.at
next c =
    let l = c.loop-k in
    let a = c.args in
    next_known a.s.now l.at (a.count - l.k) (min l.k 1) (length l.registers - l.to) l.invariant.at-there (omega (arith, c.loop-k-test.true)) (least-one l.k) (l.invariant.few c.loop-k-test.true) _ _ _
    (run-good (next_at a.s.now l.at (a.count - l.k) (min l.k 1) (length l.registers - l.to)) (c.in-Ok.ensures ∙ ap (λ (x : ℕ). plain_run (next_at a.s.now l.at (a.count - l.k) x (length l.registers - l.to))) c.smaller.ensures))

-- the marks that were set
marked : (c : After-fill) → let l = c.loop-k in
    let n = c.in-Ok.run' in
    let first : ℕ = l.to + n.gap in
    put_mid first (first + n.size - first) l.marks c.fill.new.self ≡ sets l.marks first (replicate n.size 1)
marked c =
    let l = c.loop-k in
    let n = c.in-Ok.run' in
    let r = next (goal.at.After-fill c).In-Ok in
    let first : ℕ = l.to + n.gap in
    let many : ℕ = first + n.size - first in
    let is : many ≡ n.size = omega arith in
    let there : length (take many (drop first l.marks)) ≡ many = length-take-le many (drop first l.marks) (omega (arith, length-drop first l.marks, r.in-room, l.invariant.marks-same)) in
    put_part l.marks c.fill.new.self (replicate n.size 1) first many
    (c.fill.ensures.after (λ y e. e) ∙ ap (λ (x : ℕ). replicate x 1) (there ∙ is))
    (omega (arith, length-replicate {A = ℕ} n.size 1)) (omega (arith, r.in-room, l.invariant.marks-same))

pub loop-k-init : goal.loop-k-init
loop-k-init c =
    let a = c.args in
    let s = a.s.now in
    let regs = a.registers.now in
    let len : length regs - 0 ≡ length regs = omega arith in
    let all : a.count - 0 ≡ a.count = omega arith in
    record {
      at-there = c.requires.start_in_bounds;
      to-there = omega arith;
      few = λ _. omega (arith, c.requires.count_in_bounds);
      registers-same = refl;
      marks-same = c.requires.marks_len;
      sound = rw (len, all) c.requires.registers_value;
      registers-fill = rw (len, all) (filled-start (body_at s a.start a.count 0 (length regs)) regs);
      marks-fill = rw (len, all) (filled-start (ones (body_at s a.start a.count 0 (length regs))) a.marks.now ∙ ap (λ (x : ℕ). over (spread x (ones (body_at s a.start a.count 0 (length regs)))) a.marks.now) c.requires.marks_len);
    }

pub next_run-requires : goal.next_run-requires
next_run-requires c =
    let l = c.loop-k in
    let m = c.smaller in
    let k = least-one l.k in
    record {
      at_in_bounds = l.invariant.at-there;
      left_nonzero = omega (arith, c.loop-k-test.true);
      least_bound = omega (arith, m.ensures, k);
      left_bound = omega (arith, m.ensures, l.invariant.few c.loop-k-test.true);
      room_bound = omega (arith, c.requires.registers_len_bound, l.invariant.registers-same);
    }

pub shape_of-marks-in_default : goal.shape_of-marks-in_default
shape_of-marks-in_default c = let l = c.loop-k in l.invariant.marks-same ∙ l.invariant.registers-same ∙ sym c.requires.marks_len

pub returns-in_default : goal.returns-in_default
returns-in_default c =
    let l = c.loop-k in
    let a = c.args in
    let q = next_at a.s.now l.at (a.count - l.k) (min l.k 1) (length l.registers - l.to) in
    let bad = run-bad q (c.in_default.ensures ∙ ap (λ (x : ℕ). plain_run (next_at a.s.now l.at (a.count - l.k) x (length l.registers - l.to))) c.smaller.ensures) in
    absurd (damaged-done _ (sym (next-bad a.s.now l.at (a.count - l.k) (min l.k 1) (length l.registers - l.to) l.invariant.at-there (omega (arith, c.loop-k-test.true)) (least-one l.k) (l.invariant.few c.loop-k-test.true) _ bad) ∙ l.invariant.sound))

pub overflow_add-first : goal.overflow_add-first
overflow_add-first c = let r = next c in omega (arith, r.in-room)

pub copy_bytes-requires : goal.copy_bytes-requires
copy_bytes-requires c = let r = next (goal.at.copy_bytes-requires c).In-Ok in
    record {
      n_in_bounds = omega (arith, r.in-room);
      n_in_bounds_2 = r.in_image;
    }

pub overflow_add-first-in-loop-k : goal.overflow_add-first-in-loop-k
overflow_add-first-in-loop-k c = let r = next (goal.at.overflow_add-first-in-loop-k c).In-Ok in omega (arith, r.in-room)

pub slice_bounds-fill-end : goal.slice_bounds-fill-end
slice_bounds-fill-end c = let r = next (goal.at.slice_bounds-fill-end c).In-Ok in omega (arith, r.in-room, c.loop-k.invariant.marks-same)

pub overflow_add-at : goal.overflow_add-at
overflow_add-at c = let r = next (goal.at.overflow_add-at c).In-Ok in omega (arith, r.in_image)

pub overflow_add-to : goal.overflow_add-to
overflow_add-to c = let r = next (goal.at.overflow_add-to c).In-Ok in omega (arith, r.in-room)

pub loop-k-preserved : goal.loop-k-preserved
loop-k-preserved c =
    let cb = c.copy_bytes in
    let l = c.loop-k in
    let i = l.invariant in
    let a = c.args in
    let n = c.in-Ok.run' in
    let r = next (goal.at.loop-k-preserved c).In-Ok in
    let ms : List ℕ = put_mid (l.to + n.gap) (l.to + n.gap + n.size - (l.to + n.gap)) l.marks c.fill.new.self in
    let em = marked (goal.at.loop-k-preserved c).After-fill in
    let lr = length-regs _ _ _ _ _ _ _ _ _ _ i.to-there i.marks-same r i.sound cb.new.room ms cb.ensures em in
    let lm = length-marks _ _ _ _ _ _ _ _ _ _ i.to-there i.marks-same r i.sound cb.new.room ms cb.ensures em in
    let less : a.count - (l.k + 1) ≡ a.count - l.k - 1 = omega arith in
    let one : min (l.k + 1) 1 ≡ 1 = omega arith in
    record {
      at-there = r.in_image;
      to-there = omega (arith, r.in-room, lr);
      few = λ h. omega (arith, r.in-room, lr, h, one);
      registers-same = lr ∙ i.registers-same;
      marks-same = lm ∙ i.marks-same ∙ sym lr;
      sound = rw (less, one) (still-done _ _ _ _ _ _ _ _ _ _ i.to-there i.marks-same r i.sound cb.new.room ms cb.ensures em);
      registers-fill = rw (less, one) (sym (regs-filled _ _ _ _ _ _ _ _ _ _ i.to-there i.marks-same r i.sound cb.new.room ms cb.ensures em)) ∙ i.registers-fill;
      marks-fill = rw (less, one) (sym (marks-filled _ _ _ _ _ _ _ _ _ _ i.to-there i.marks-same r i.sound cb.new.room ms cb.ensures em)) ∙ i.marks-fill;
    }

pub shape_of-marks : goal.shape_of-marks
shape_of-marks c = c.loop-k.invariant.marks-same ∙ c.loop-k.invariant.registers-same ∙ sym c.requires.marks_len

pub returns : goal.returns
returns c =
    let l = c.loop-k in
    let s = c.args.s.now in
    let none_left = body_end s l.at (min l.k 1) (length l.registers - l.to) (c.args.count - l.k) (omega (arith, c.loop-k-test.false)) in
    record {
      registers_after = sym (filled-end l.to l.registers) ∙ ap (λ (rs : List Run). filled l.to rs l.registers) (sym none_left) ∙ l.invariant.registers-fill;
      marks_after = sym (filled-end l.to l.marks) ∙ ap (λ (rs : List Run). filled l.to (ones rs) l.marks) (sym none_left) ∙ l.invariant.marks-fill;
    }
