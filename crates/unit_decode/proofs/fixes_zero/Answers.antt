use native.Mathlib.Omega.{arith}
use Rattle.unit_table.proofs.TableLaws.{zero-key, zero-low, zero_high, zero-none, not-between}
use Rattle.unit_decode.proofs.fixes_zero.Goals as goal

pub returns-in-2 : goal.returns-in-2
returns-in-2 c = zero-key c.args.number c.in-2.is

pub returns-in-38-to-52 : goal.returns-in-38-to-52
returns-in-38-to-52 c = zero-low c.args.number (omega arith) (omega arith)

pub returns-in-61-to-74 : goal.returns-in-61-to-74
returns-in-61-to-74 c = zero_high c.args.number (omega arith) (omega arith)

pub returns-in_default : goal.returns-in_default
returns-in_default c =
    let n = c.args.number in
    zero-none n c.in_default.in_default-own.rest.1 (not-between 38 52 n (λ a b. omega arith)) (not-between 61 74 n (λ a b. omega arith))

pub returns-in_default-2 : goal.returns-in_default-2
returns-in_default-2 c =
    let n = c.args.number in
    zero-none n c.in_default.in_default-own.rest.1 (not-between 38 52 n (λ a b. omega arith)) (not-between 61 74 n (λ a b. omega arith))

pub returns-in_default-3 : goal.returns-in_default-3
returns-in_default-3 c =
    let n = c.args.number in
    zero-none n c.in_default.in_default-own.rest.1 (not-between 38 52 n (λ a b. omega arith)) (not-between 61 74 n (λ a b. omega arith))
