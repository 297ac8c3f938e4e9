use Rattle.numbers.proofs.Kit.{refl, arith}
use Rattle.text_lines.proofs.WriteLaws.{wrote-more, Small, lines-room, first-room, page-room}
use Rattle.text_lines.proofs.put_accepted.Goals as goal

pub put_first-at-requires : goal.put_first-at-requires
put_first-at-requires c =
    let s = c.before.before.before in
    omega (arith, first-room 0 s.args.steps (omega arith) (omega (arith, s.ranges.steps)), s.requires.0)

pub put_lines-requires : goal.put_lines-requires
put_lines-requires c =
    let s = c.before.before.before.before.before.before.before in
    let a = s.args in
    let w = c.put_first-at.ensures in
    let r = first-room 0 a.steps (omega arith) (omega (arith, s.ranges.steps)) in
    let small : Small a.c.now = λ j. omega (arith, c.type_inv.c j) in
    let m = lines-room a.rows a.cols a.q a.c.now (omega (arith, s.ranges.q)) small in
    let n = page-room a.rows a.cols s.requires.1 s.requires.2 in
    (s.requires.3, omega (arith, r, m, n, w.to, w.same, s.requires.0))

pub returns : goal.returns
returns c = wrote-more refl c.put_first-at.ensures c.put_lines.ensures
