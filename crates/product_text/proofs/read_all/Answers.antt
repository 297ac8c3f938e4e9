-- The words of the text come one by one.
use Rattle.std.proofs.Common.{rules}
use Rattle.numbers.proofs.Kit.{◌≡◌, sym, ap, ◌∙◌, ◌<◌, arith, length, drop, get_or, length-set}
use borrow.Author.Tests.{tests}
use Rattle.std.proofs.lemmas.List.{length_push}
use Rattle.std.proofs.lemmas.Iterator.Splits.{YieldsList-from_slice_split}
use Rattle.std.proofs.lemmas.Iterator.Consumers.{YieldsList-from_filter, YieldsList-turn, YieldsList-end}
use Rattle.product_text.specs.Text.{separator, words}
use Rattle.product_text.specs.Parts.{held_in, front, front_of}
use Rattle.product_text.proofs.ReadLaws.{some_byte, words-are, held_of, value-ahead, other-ahead, none-ahead, read_more, read-end, read-many, read-bad, put-more, put_last, put_full}
use Rattle.product_text.proofs.read_all.Goals as goal
use Rattle.product_text.proofs.read_all.Goals.{After-read_word}

-- the word of a turn
turn : (c : After-read_word) → (c.loop-word.n < length (words c.args.text.now)) × (c.in-Some.word.now ≡ get_or (words c.args.text.now) c.loop-word.n c.in-Some.word.now)
turn c =
    let t = c.args.text.now in
    let n = c.loop-word.invariant.0 in
    rw (n, ← words-are t)
    (YieldsList-turn (YieldsList-from_filter _ some_byte (YieldsList-from_slice_split _ separator t (cc) (cc) (cc) (λ x b q k. search (rules, tests))) (cc) (λ x b q k. search (rules, tests)))
    c.loop-word.yielded _ c.loop-word.yielded_by _ _ c.in-Some.word c.in-Some.is c.next.ensures.steps)

pub loop-word-preserved : goal.loop-word-preserved
loop-word-preserved c =
    let l = c.loop-word in
    let ws = words c.args.text.now in
    let x = c.in_ok-held.held in
    let a = value-ahead ws l.n _ (turn (goal.at.loop-word-preserved c).After-read_word) x (sym c.read_word.ensures ∙ c.in_ok-held.was) in
    let h : l.n < length l.out = omega (arith, c.if-n-out.false) in
    let m = put-more (front_of ws) (front_of (drop l.n ws)) l.out c.args.out.now l.n l.invariant.1 c.loop-word.auto.out l.invariant.3 l.invariant.4 _ x a.1 h in
    (omega (arith, length_push l.yielded c.in-Some.word), simp length-set (omega arith), read_more (held_of ws) (held_of (drop l.n ws)) l.out l.n l.invariant.2 _ x a.0 h, m.0, m.1)

pub returns-then-n-out : goal.returns-then-n-out
unfolding held_in front
returns-then-n-out c =
    let l = c.loop-word in
    let ws = words c.args.text.now in
    let x = c.in_ok-held.held in
    let a = value-ahead ws l.n _ (turn (goal.at.returns-then-n-out c).After-read_word) x (sym c.read_word.ensures ∙ c.in_ok-held.was) in
    record {
      counted = read-many (held_of ws) (held_of (drop l.n ws)) l.out l.n l.invariant.2 _ x a.0 c.if-n-out.true;
      out_after = put_full (front_of ws) (front_of (drop l.n ws)) l.out c.args.out.now l.n l.invariant.1 c.loop-word.auto.out l.invariant.3 l.invariant.4 c.if-n-out.true;
    }

pub returns-in_err-held : goal.returns-in_err-held
unfolding held_in front
returns-in_err-held c =
    let l = c.loop-word in
    let ws = words c.args.text.now in
    let a = other-ahead ws l.n _ (turn (goal.at.returns-in_err-held c).After-read_word) (sym c.read_word.ensures ∙ c.in_err-held.was) in
    rw c.from_residual.ensures (record {
      counted = read-bad (held_of ws) (held_of (drop l.n ws)) l.out l.n l.invariant.2 a.0;
      out_after = put_last (front_of ws) (front_of (drop l.n ws)) l.out c.args.out.now l.n l.invariant.1 c.loop-word.auto.out l.invariant.3 l.invariant.4 a.1;
    })

pub returns : goal.returns
unfolding held_in front
returns c =
    let l = c.loop-word in
    let t = c.args.text.now in
    let ws = words t in
    let e = YieldsList-end (YieldsList-from_filter _ some_byte (YieldsList-from_slice_split _ separator t (cc) (cc) (cc) (λ x b q k. search (rules, tests))) (cc) (λ x b q k. search (rules, tests)))
    l.yielded _ l.yielded_by _ _ c.in-None.is c.next.ensures.steps in
    let a = none-ahead ws l.n (omega (arith, e.1, ap length (words-are t))) in
    record {
      counted = (l.invariant.1, read-end (held_of ws) (held_of (drop l.n ws)) l.out l.n l.invariant.2 a.0);
      out_after = put_last (front_of ws) (front_of (drop l.n ws)) l.out c.args.out.now l.n l.invariant.1 c.loop-word.auto.out l.invariant.3 l.invariant.4 a.1;
    }
