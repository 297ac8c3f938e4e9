use mathlib.Core.Path.{sym, ap, ◌∙◌}
use Prim.Native.Nat.{ℕ, ◌+◌, ◌*◌}
use native.Mathlib.Omega.{arith}
use lib.ListN.{drop}
use Rattle.text_read.specs.Parts.{row_from}
use Rattle.text_read.proofs.RowLaws.{mark-is, mark-value, operand-bound}
use Rattle.text_read.proofs.ReadLaws.{scaled-bound, next-bound}
use Rattle.text_read.proofs.along.Goals as goal

pub overflow_mul-result : goal.overflow_mul-result
overflow_mul-result c =
    let p = c.args.so_far in
    let r = operand-bound c.in-Some.operand p.at c.args.line.now c.requires.0 c.in_ok-found-in-Some.found c.in_ok-found-in-Some.ensures in
    let m = scaled-bound c.in_ok-found-in-Some.found.value p.scale r.0 c.requires.1 in
    omega arith

pub overflow_add-result : goal.overflow_add-result
overflow_add-result c =
    let p = c.args.so_far in
    let r = operand-bound c.in-Some.operand p.at c.args.line.now c.requires.0 c.in_ok-found-in-Some.found c.in_ok-found-in-Some.ensures in
    let m = scaled-bound c.in_ok-found-in-Some.found.value p.scale r.0 c.requires.1 in
    omega (arith, c.requires.2)

pub returns-in_ok-found-in-Some-clause-by_index : goal.returns-in_ok-found-in-Some-clause-by_index
returns-in_ok-found-in-Some-clause-by_index c = λ t.
    let p = c.args.so_far in
    let n = c.in_ok-found-in-Some.found in
    mark-value c.args.line.now c.args.c p.at p.scale p.word c.in-Some.operand (mark-is c.args.c c.in-Some.operand c.in-Some.ensures) n c.in_ok-found-in-Some.ensures t
    ∙ ap (λ (z : ℕ). row_from t (drop n.next c.args.line.now) n.next z (p.word + n.value * p.scale)) (sym c.next_scale.ensures)

pub returns-in_ok-found-in-Some-clause-bounded : goal.returns-in_ok-found-in-Some-clause-bounded
returns-in_ok-found-in-Some-clause-bounded c =
    let p = c.args.so_far in
    let r = operand-bound c.in-Some.operand p.at c.args.line.now c.requires.0 c.in_ok-found-in-Some.found c.in_ok-found-in-Some.ensures in
    let m = scaled-bound c.in_ok-found-in-Some.found.value p.scale r.0 c.requires.1 in
    let b = next-bound p.scale in
    let e = c.next_scale.ensures in
    (r.1, omega arith, omega arith)
