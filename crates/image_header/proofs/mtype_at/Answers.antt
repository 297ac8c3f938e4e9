-- `image_header::mtype_at` meets its contract.
use Rattle.numbers.proofs.Kit.{ap, ◌∙◌, inl, inr, arith}
use Rattle.numbers_coded.specs.At.{plain}
use Rattle.image_header.proofs.HeadLaws.{mtype-end, mtype-small, mtype-eight, mtype-none, mtype-odd, mtype-wide}
use Rattle.image_header.proofs.mtype_at.Goals as goal

pub overflow_sub-elen : goal.overflow_sub-elen
overflow_sub-elen c = let s = c.before.before.before.before.before in omega (arith, s.requires)

pub returns-then-b-elen : goal.returns-then-b-elen
returns-then-b-elen c =
    let s = c.before.before.before.before.before.before.before in
    let w = c.from-b in
    ap plain (mtype-small s.args.s.now s.args.elen s.args.at s.requires w.result c.if-at-s.true w.ensures c.if-b-elen.true)

pub returns-then-b-lt8 : goal.returns-then-b-lt8
returns-then-b-lt8 c =
    let s = c.before.before.before.before.before.before.before.before in
    let w = c.from-b in
    ap plain (mtype-none s.args.s.now s.args.elen s.args.at s.requires w.result c.if-at-s.true w.ensures c.if-b-lt128.true (omega (arith, c.if-b-elen.false)) (inl c.if-b-lt8.true))

pub overflow_sub-elen-then-b-lt128 : goal.overflow_sub-elen-then-b-lt128
overflow_sub-elen-then-b-lt128 c = let s = c.before.before.before.before.before.before.before in omega (arith, s.requires)

pub overflow_add-elen : goal.overflow_add-elen
overflow_add-elen c = let s = c.before.before.before.before.before.before.before in omega (arith, s.requires)

pub returns-then-b-elen-2 : goal.returns-then-b-elen-2
returns-then-b-elen-2 c =
    let s = c.before.before.before.before.before.before.before.before.before in
    let w = c.from-b in
    ap plain (mtype-eight s.args.s.now s.args.elen s.args.at s.requires w.result c.if-at-s.true w.ensures (omega (arith, c.if-b-lt8.false)) c.if-b-elen-2.true)

pub returns-then-b-lt128 : goal.returns-then-b-lt128
returns-then-b-lt128 c =
    let s = c.before.before.before.before.before.before.before.before.before in
    let w = c.from-b in
    ap plain (mtype-none s.args.s.now s.args.elen s.args.at s.requires w.result c.if-at-s.true w.ensures c.if-b-lt128.true (omega (arith, c.if-b-elen.false)) (inr (omega (arith, c.if-b-elen-2.false))))

pub returns-then-b-eq128 : goal.returns-then-b-eq128
returns-then-b-eq128 c =
    let s = c.before.before.before.before.before.before.before in
    let w = c.from-b in
    c.number_at.ensures ∙ ap plain (mtype-wide s.args.s.now s.args.elen s.args.at s.requires w.result c.if-at-s.true w.ensures c.if-b-eq128.true)

pub returns-then-at-s : goal.returns-then-at-s
returns-then-at-s c =
    let s = c.before.before.before.before.before.before.before in
    let w = c.from-b in
    ap plain (mtype-odd s.args.s.now s.args.elen s.args.at s.requires w.result c.if-at-s.true w.ensures (omega (arith, c.if-b-lt128.false, c.if-b-eq128.false)) (omega (arith, w.ensures, c.type_inv.s s.args.at)))

pub returns : goal.returns
returns c =
    let s = c.before.before.before in
    ap plain (mtype-end s.args.s.now s.args.elen s.args.at s.requires (omega (arith, c.if-at-s.false)))
