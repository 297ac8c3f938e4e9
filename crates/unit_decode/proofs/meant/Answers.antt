use mathlib.Core.Path.{◌≡◌, sym, ◌∙◌}
use mathlib.Core.Logic.{⊎_elim}
use Prim.Native.Nat.{ℕ, ◌≤◌, ◌<◌}
use native.Mathlib.Omega.{arith}
use borrow.Author.Rules.{rules}
use Rattle.unit_table.specs.Table.{numbered}
use Rattle.unit_table.proofs.TableLaws.{no_number, meant-at}
use Rattle.unit_decode.proofs.Laws.{numbered-back, printed-as}
use Rattle.unit_decode.proofs.meant.Goals as goal
use Rattle.unit_decode.proofs.meant.Goals.{After-printed-plain}

-- with the form and the number as printed: what they stand for, and in which range each lies
back : (c : After-printed-plain) → numbered c.form_of-form.result c.printed-plain.result ≡ c.args.number
back c =
    let n = c.args.number in
    numbered-back n c.printed-plain.result c.form_of-form.result c.form_of-form.ensures c.printed-plain.ensures

pub loading-requires : goal.loading-requires
loading-requires c =
    let n = c.args.number in
    ⊎_elim (λ h. (omega arith, c.if-plain-le20.true)) (λ h. (omega arith, c.if-plain-le20.true))
    (printed-as n c.printed-plain.result c.form_of-form.result c.form_of-form.ensures c.printed-plain.ensures)

pub returns-then-plain-le20 : goal.returns-then-plain-le20
returns-then-plain-le20 c =
    let a = c.args in
    c.loading.ensures ∙ meant-at a.number (numbered c.form_of-form.result c.printed-plain.result) a.word (sym (back (goal.at.returns-then-plain-le20 c).After-printed-plain))

pub returns-then-plain-le32 : goal.returns-then-plain-le32
returns-then-plain-le32 c =
    let a = c.args in
    c.storing.ensures ∙ meant-at a.number (numbered c.form_of-form.result c.printed-plain.result) a.word (sym (back (goal.at.returns-then-plain-le32 c).After-printed-plain))

pub arithmetic-requires : goal.arithmetic-requires
arithmetic-requires c =
    let n = c.args.number in
    ⊎_elim (λ h. (omega (arith, c.if-plain-le32.false), c.if-number-le108.true)) (λ h. (omega arith, c.if-number-le108.true))
    (printed-as n c.printed-plain.result c.form_of-form.result c.form_of-form.ensures c.printed-plain.ensures)

pub moving-requires : goal.moving-requires
moving-requires c =
    let n = c.args.number in
    ⊎_elim (λ h. omega (arith, c.if-number-le108.false)) (λ h. omega (arith, c.if-plain-le32.false))
    (printed-as n c.printed-plain.result c.form_of-form.result c.form_of-form.ensures c.printed-plain.ensures)

pub returns-then-number-eq0 : goal.returns-then-number-eq0
returns-then-number-eq0 c = no_number c.args.word ∙ meant-at c.args.number 0 c.args.word c.if-number-eq0.true

pub returns : goal.returns
returns c = c.moving.ensures
