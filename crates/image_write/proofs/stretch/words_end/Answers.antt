-- `image_write::stretch::words_end` meets its contract.
use Rattle.numbers.proofs.Kit.{sym, ap, ◌∙◌, ℕ, ◌+◌, ◌/◌, ◌<◌, arith}
use lib.Count.{count_trailing_zeros}
use Rattle.image_write.specs.Parts.{Stretch}
use Rattle.image_write.proofs.StretchLaws.{joined, behind, within-limit}
use Rattle.image_write.proofs.WordLaws.{word_none, word_some}
use Rattle.image_write.proofs.stretch.words_end.Goals as goal
use Rattle.image_write.proofs.stretch.words_end.Goals.{After-zero_bytes}

pub loop-i-init : goal.loop-i-init
loop-i-init c = (omega arith, omega arith, λ q k l. absurd (omega arith))

pub others-word-requires : goal.others-word-requires
others-word-requires c =
    record {
      at_in_bounds = omega (arith, c.requires.from_le_limit, c.loop-i.invariant.1);
      two_valued = c.requires.two_valued;
      value_bound = c.requires.value_bound;
    }

-- the mark that was found
found : (c : After-zero_bytes) → let l = c.loop-i in
    let a = c.args in
    (c.zero_bytes.result < 8) × Stretch a.marks.now l.i (l.i + 8) a.value (l.i + c.zero_bytes.result)
found c =
    let l = c.loop-i in
    let a = c.args in
    let w = c.others-word in
    word_some a.marks.now c.requires.two_valued l.i a.value c.requires.value_bound c.zero_bytes.result (omega (arith, c.requires.from_le_limit, l.invariant.1))
    (c.zero_bytes.ensures ∙ ap (λ (x : ℕ). count_trailing_zeros 64 x / 8) w.ensures) (λ z. c.if-word-ne0.true (w.ensures ∙ z))

pub overflow_add-result : goal.overflow_add-result
overflow_add-result c = let f = found c in omega (arith, f.0)

pub returns-then-word-ne0 : goal.returns-then-word-ne0
returns-then-word-ne0 c =
    let l = c.loop-i in
    let a = c.args in
    let f = found c in
    let end = l.i + c.zero_bytes.result in
    behind a.marks.now a.from l.i a.limit a.value end l.invariant.0 l.invariant.2
    (within-limit a.marks.now l.i (l.i + 8) a.limit a.value end (omega (arith, f.0)) (omega arith) f.1)

pub loop-i-preserved : goal.loop-i-preserved
loop-i-preserved c =
    let l = c.loop-i in
    let a = c.args in (
      omega arith,
      omega arith,
      joined a.marks.now a.from l.i a.value (l.i + 8) l.invariant.2
          (word_none a.marks.now c.requires.two_valued l.i a.value c.requires.value_bound (sym c.others-word.ensures ∙ c.if-word-ne0.false)),
    )

pub returns : goal.returns
returns c =
    let l = c.loop-i in
    let a = c.args in
    behind a.marks.now a.from l.i a.limit a.value c.end_before.result l.invariant.0 l.invariant.2 c.end_before.ensures
