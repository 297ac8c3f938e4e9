use Rattle.numbers.proofs.Kit.{refl, sym, ap, ◌∙◌, true, false, arith, ltb, eq-eqb, ne_eqb, lt-ltb, le-ltb}
use Rattle.image.specs.Images.{exponent}
use Rattle.image_write.proofs.PutLaws.{beyond-by}
use Rattle.image_write.proofs.is_beyond.Goals as goal

pub returns-then-exponent-eq6 : goal.returns-then-exponent-eq6
returns-then-exponent-eq6 c =
    let e = c.exponent.ensures.0 in
    let m = c.args.m in
    beyond-by (exponent m.elen) (exponent m.rlen) (exponent m.mlen) true _ (eq-eqb (exponent m.elen) 6 (sym e ∙ c.if-exponent-eq6.true)) refl

pub returns-then-exponent-gt9 : goal.returns-then-exponent-gt9
returns-then-exponent-gt9 c =
    let e = c.exponent.ensures.0 in
    let r = c.exponent-2.ensures.0 in
    let m = c.args.m in
    beyond-by (exponent m.elen) (exponent m.rlen) (exponent m.mlen) false true (ne_eqb (exponent m.elen) 6 (λ z. c.if-exponent-eq6.false (e ∙ z)))
    (lt-ltb 9 (exponent m.rlen) (omega (arith, r, c.if-exponent-gt9.true)))

pub returns : goal.returns
returns c =
    let e = c.exponent.ensures.0 in
    let r = c.exponent-2.ensures.0 in
    let m = c.args.m in
    ap (ltb 12) c.exponent-3.ensures.0
    ∙ beyond-by (exponent m.elen) (exponent m.rlen) (exponent m.mlen) false false (ne_eqb (exponent m.elen) 6 (λ z. c.if-exponent-eq6.false (e ∙ z)))
    (le-ltb 9 (exponent m.rlen) (omega (arith, r, c.if-exponent-gt9.false)))
