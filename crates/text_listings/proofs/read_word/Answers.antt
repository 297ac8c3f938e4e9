use Rattle.numbers.proofs.Kit.{sym, ap, ◌∙◌, arith, get_or}
use Rattle.text_read.specs.Parts.{as_line}
use Rattle.text_listings.proofs.ListLaws.{digit-is, power-bound, next-bound, word_none, word-other, word_more, word_end, word-start}
use Rattle.text_listings.proofs.read_word.Goals as goal

pub loop-i-init : goal.loop-i-init
loop-i-init c = (omega arith, word-start c.args.line.now)

pub returns-then-line-i : goal.returns-then-line-i
returns-then-line-i c =
    let l = c.loop-i in
    word_none c.args.line.now l.i l.word (omega arith) c.if-line-i.true ∙ sym (ap as_line l.invariant.1)

pub returns-in-None : goal.returns-in-None
returns-in-None c =
    let l = c.loop-i in
    word-other c.args.line.now l.i l.word (omega arith) c.if-line-i.false c.in-None.ensures ∙ sym (ap as_line l.invariant.1)

pub overflow_add-word : goal.overflow_add-word
overflow_add-word c =
    let l = c.loop-i in
    let p = power-bound l.i (omega arith) in
    let d = digit-is (get_or c.args.line.now l.i 0) c.in-Some.d c.in-Some.ensures in
    omega (arith, l.invariant.0, d.2)

pub loop-i-preserved : goal.loop-i-preserved
loop-i-preserved c =
    let l = c.loop-i in
    let s = c.args.line.now in
    let d = digit-is (get_or s l.i 0) c.in-Some.d c.in-Some.ensures in
    (next-bound l.i l.word c.in-Some.d l.invariant.0 d.2, l.invariant.1 ∙ word_more s l.i l.word (omega arith) c.if-line-i.false c.in-Some.d c.in-Some.ensures)

pub returns : goal.returns
returns c =
    let l = c.loop-i in
    word_end c.args.line.now l.i l.word (omega arith) c.if-line-gt8.false ∙ sym (ap as_line l.invariant.1)
