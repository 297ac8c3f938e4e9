use Rattle.numbers.proofs.Kit.{◌≡◌, sym, ap, ◌∙◌, Bool, true, cond, ◌++◌, ◌≤◌, arith, leb, length, take, drop, length-take-le, lt-leb, le-leb}
use Rattle.text_lines.proofs.WriteLaws.{wrote_as}
use Rattle.text_assembly.specs.Lines.{line}
use Rattle.text_write.specs.Parts.{line_text}
use Rattle.c_text.proofs.CallLaws.{text-short, front-written}
use Rattle.c_text.proofs.write_line.Goals as goal
use Rattle.c_text.proofs.write_line.Goals.{After-put_line-size}

size : (c : After-put_line-size) → c.put_line-size.result ≡ length (line_text (line c.args.word))
size c = let w = c.put_line-size.ensures in omega (arith, w.to)

long : (c : After-put_line-size) → c.put_line-size.result ≤ length c.put_line-size.new.out
long c = let w = c.put_line-size.ensures in omega (arith, size c, text-short c.args.word (omega arith), w.same)

own : (c : After-put_line-size) → take c.put_line-size.result c.put_line-size.new.out ≡ line_text (line c.args.word)
own c = c.put_line-size.ensures.text

pub put_line-size-requires : goal.put_line-size-requires
put_line-size-requires c =
    record {
      has_line = c.requires;
      word_in_bounds = omega (arith, text-short c.args.word (omega arith));
    }

pub returns-then-text-size : goal.returns-then-text-size
returns-then-text-size c =
    let n = size (goal.at.returns-then-text-size c).After-put_line-size in
    record {
      value = n;
      text_after = sym (ap (λ (b : Bool). cond b (line_text (line c.args.word) ++ drop c.put_line-size.result c.args.text.now) c.args.text.now) (lt-leb c.put_line-size.result (length c.args.text.now) c.if-text-size.true));
    }

pub slice_bounds-own-end : goal.slice_bounds-own-end
slice_bounds-own-end c = long (goal.at.slice_bounds-own-end c).After-put_line-size

pub slice_bounds-put_text-end : goal.slice_bounds-put_text-end
slice_bounds-put_text-end c = sym (length-take-le c.put_line-size.result c.put_line-size.new.out (long (goal.at.slice_bounds-put_text-end c).After-put_line-size))

pub put_text-requires : goal.put_text-requires
put_text-requires c = omega (arith, length-take-le c.put_line-size.result c.put_line-size.new.out (long (goal.at.put_text-requires c).After-put_line-size), c.if-text-size.false)

pub returns : goal.returns
returns c =
    let d = (goal.at.returns c).After-put_line-size in
    let t = line_text (line c.args.word) in
    let put = wrote_as (own d) c.put_text.ensures in
    let n : c.put_text.result ≡ length t = omega (arith, put.to) in
    let f : leb c.put_text.result (length c.args.text.now) ≡ true = le-leb c.put_text.result (length c.args.text.now) (omega (arith, n, size d, c.if-text-size.false)) in
    record {
      value = n;
      text_after = front-written c.args.text.now c.put_text.new.out t c.put_text.result put ∙ sym (ap (λ (b : Bool). cond b (t ++ drop c.put_text.result c.args.text.now) c.args.text.now) f);
    }
