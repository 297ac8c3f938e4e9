use Rattle.numbers.proofs.Kit.{◌≤◌, ◌<◌, le-mul_of_pos_right, arith}
use Rattle.machine.specs.Geometry.{sealed}
use Rattle.unit_ranges.specs.Ranges.{seals_in}
use Rattle.unit_ranges.proofs.RangeLaws.{no_rows, no_bytes, first-inside, ends-span}
use Rattle.unit_ranges.proofs.apart_missed.Goals as goal

pub returns-then-rows-eq0 : goal.returns-then-rows-eq0
returns-then-rows-eq0 c = let a = c.args in no_rows a.base a.stride a.rows a.bytes (sealed (seals_in a.block.now)) c.if-rows-eq0.true

pub returns-then-bytes-eq0 : goal.returns-then-bytes-eq0
returns-then-bytes-eq0 c = let a = c.args in no_bytes a.base a.stride a.rows a.bytes (sealed (seals_in a.block.now)) c.if-bytes-eq0.true

pub last_row-last-requires : goal.last_row-last-requires
last_row-last-requires c =
    let a = c.args in
    let r : 0 < a.rows = omega (arith, c.if-rows-eq0.false) in
    let b : 0 < a.bytes = omega (arith, c.if-bytes-eq0.false) in
    record {
      bytes_value = c.requires.bytes_value;
      len_bound = c.requires.len_bound;
      rows_bound = omega (arith, c.requires.bytes_bound, le-mul_of_pos_right {m = a.bytes} a.rows b);
      rows_nonzero = (r, b);
    }

pub overflow_add-n : goal.overflow_add-n
overflow_add-n c =
    let a = c.args in
    let f = first-inside a.base a.stride a.rows a.bytes a.len c.requires.bytes_value c.if-bytes-eq0.false (omega (arith, c.if-rows-eq0.false)) in
    omega (arith, f, c.last_row-last.ensures.1, c.min-p.ensures, c.max-high.ensures, c.requires.len_bound)

pub each_missed-requires : goal.each_missed-requires
each_missed-requires c =
    let a = c.args in
    let r = c.last_row-last.ensures.0 in
    let m = c.min-p.ensures in
    let h = c.max-high.ensures in
    let f = first-inside a.base a.stride a.rows a.bytes a.len c.requires.bytes_value c.if-bytes-eq0.false (omega (arith, c.if-rows-eq0.false)) in
    let b : 0 < a.bytes = omega (arith, c.if-bytes-eq0.false) in
    let k : c.min-p.result ≤ c.max-high.result = omega (arith, m, h) in
    let span = ends-span a.base a.stride a.rows a.bytes a.len c.min-p.result c.max-high.result c.requires.bytes_value b c.ranges.stride.fits
    (omega (arith, m)) (omega (arith, m, r)) (omega (arith, h)) (omega (arith, h, r)) in
    record {
      block_value = c.requires.block_value;
      bytes_value = c.requires.bytes_value;
      len_bound = c.requires.len_bound;
      bytes_bound = c.requires.bytes_bound;
      spanned = λ i l. ((span i l).0, omega (arith, (span i l).1, k));
      n_bound = omega (arith, f, c.last_row-last.ensures.1, m, h, c.requires.len_bound, k);
    }
