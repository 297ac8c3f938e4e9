use Rattle.std.specs.Prelude.{Some}
use Rattle.std.specs.Option.{option_map}
use Rattle.numbers.proofs.Kit.{ap, ◌∙◌, subst}
use Rattle.product_text.specs.Parts.{held_in, counted, sizes}
use Rattle.product_text.proofs.ProblemLaws.{read_none, read_some, parse-long, parse-many, parse-all}
use Rattle.product_text.proofs.parse.Goals as goal
use Rattle.product_text.proofs.parse.Goals.{In_ok-n}

-- what was read of the text, where all of it are numbers
read : (c : In_ok-n) → counted (held_in c.args.text.now) c.read_all.new.out (Some c.in_ok-n.n)
read c = subst (counted (held_in c.args.text.now) c.read_all.new.out) c.in_ok-n.was c.read_all.ensures.counted

pub returns-then-text-gt8192 : goal.returns-then-text-gt8192
returns-then-text-gt8192 c =
    let a = c.args in
    let g = parse-long a.text.now a.out.now c.if-text-gt8192.true in
    record {
      value = g.0;
      elements_in = g.1;
      out_after = read_none a.text.now a.out.now c.if-text-gt8192.true;
    }

pub returns-in_err-n : goal.returns-in_err-n
returns-in_err-n c =
    let r = c.read_all in
    let h = c.if-text-gt8192.false in
    let g = parse-many c.args.text.now r.new.out h (r.auto.out ∙ c.requires)
    (subst (counted (held_in c.args.text.now) r.new.out) c.in_err-n.was r.ensures.counted) in
    record {
      value = ap (option_map sizes) c.from_residual.ensures ∙ g.0;
      elements_in = g.1;
      out_after = r.ensures.out_after ∙ read_some c.args.text.now c.args.out.now h;
    }

pub returns : goal.returns
returns c =
    let d = (goal.at.returns c).In_ok-n in
    let a = c.args in
    let h = c.if-text-gt8192.false in
    let g = parse-all a.text.now c.read_all.new.out c.in_ok-n.n (option_map sizes c.check.result) h (read d).0 (read d).1 c.check.ensures in
    record {
      value = g.0;
      elements_in = g.1;
      out_after = c.read_all.ensures.out_after ∙ read_some a.text.now a.out.now h;
    }
