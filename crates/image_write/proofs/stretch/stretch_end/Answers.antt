-- `image_write::stretch::stretch_end` meets its contract.
use Rattle.numbers.proofs.Kit.{sym, ap, ◌∙◌, ℕ, ◌+◌, ◌/◌, ◌<◌, arith, length}
use lib.Count.{count_trailing_zeros}
use Rattle.image_write.specs.Parts.{Stretch}
use Rattle.image_write.proofs.StretchLaws.{AllSame, one_more, joined, behind, within-limit}
use Rattle.image_write.proofs.WordLaws.{word_none, word_some}
use Rattle.image_write.proofs.stretch.stretch_end.Goals as goal
use Rattle.image_write.proofs.stretch.stretch_end.Goals.{After-others-word, After-zero_bytes}

pub returns-then-marks-from : goal.returns-then-marks-from
returns-then-marks-from c = record {
  to = record { from-there = omega arith; in-marks = omega arith; all_same = λ q k l. absurd (omega arith) };
  within = omega arith;
  other = λ k. c.if-marks-from.true;
}

pub returns-then-marks-from-2 : goal.returns-then-marks-from-2
returns-then-marks-from-2 c =
    let a = c.args in
    record {
      to = record {
        from-there = omega arith;
        in-marks = omega arith;
        all_same = one_more a.marks.now a.from a.from a.value (λ q k l. absurd (omega arith)) c.if-marks-from.false;
      };
      within = omega arith;
      other = λ k. c.if-marks-from-2.true;
    }

-- the first two marks have the value
two-same : (c : After-others-word) → let a = c.args in AllSame a.marks.now a.from (a.from + 2) a.value
two-same c =
    let a = c.args in
    λ q k l.
    one_more a.marks.now a.from (a.from + 1) a.value
    (one_more a.marks.now a.from a.from a.value (λ p m n. absurd (omega arith)) c.if-marks-from.false) c.if-marks-from-2.false q k (omega arith)

-- the mark that was found in the next eight
found : (c : After-zero_bytes) → let a = c.args in
    (c.zero_bytes.result < 8) × Stretch a.marks.now (a.from + 2) (a.from + 2 + 8) a.value (a.from + 2 + c.zero_bytes.result)
found c =
    let a = c.args in
    let w = c.others-word in
    word_some a.marks.now c.requires.two_valued (a.from + 2) a.value c.requires.value_bound c.zero_bytes.result (omega arith)
    (c.zero_bytes.ensures ∙ ap (λ (x : ℕ). count_trailing_zeros 64 x / 8) w.ensures) (λ z. c.if-word-ne0.true (w.ensures ∙ z))

pub overflow_add-result-then-word-ne0-2 : goal.overflow_add-result-then-word-ne0-2
overflow_add-result-then-word-ne0-2 c = let f = found c in omega (arith, f.0)

pub returns-then-word-ne0 : goal.returns-then-word-ne0
returns-then-word-ne0 c =
    let a = c.args in
    let f = found c in
    let end = a.from + 2 + c.zero_bytes.result in
    behind a.marks.now a.from (a.from + 2) (length a.marks.now) a.value end (omega arith) (two-same (goal.at.returns-then-word-ne0 c).After-others-word)
    (within-limit a.marks.now (a.from + 2) (a.from + 2 + 8) (length a.marks.now) a.value end (omega (arith, f.0)) (omega arith) f.1)

pub returns : goal.returns
returns c =
    let a = c.args in
    let w = c.others-word in
    let next = word_none a.marks.now c.requires.two_valued (a.from + 2) a.value c.requires.value_bound (sym w.ensures ∙ c.if-word-ne0.false) in
    behind a.marks.now a.from (a.from + 10) (length a.marks.now) a.value c.long_end-2.result (omega arith)
    (joined a.marks.now a.from (a.from + 2) a.value (a.from + 10) (two-same (goal.at.returns c).After-others-word) (λ q k l. next q k (omega arith))) c.long_end-2.ensures
