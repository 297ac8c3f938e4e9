use Rattle.numbers.proofs.Kit.{◌≡◌, sym, ap, ◌∙◌, subst, false, [], ◌∷◌, ◌+◌, ◌*◌, ◌≤◌, arith, Err}
use Rattle.machine.specs.declared.Reply.{Reply}
use Rattle.machine.specs.declared.Refusal.{Refusal}
use Rattle.machine.specs.Answers.{verdict, is_done, reply}
use Rattle.machine.specs.Refusals as Refusals
use Rattle.machine.specs.MoveWords.{unwritten_in}
use Rattle.machine.proofs.CodeLaws.{refused-not-done}
use Rattle.unit_moves.proofs.SliceLaws.{needs-done, needs-named, needs-bounded}
use Rattle.unit_moves.proofs.slice_marks.Goals as goal
use Rattle.unit_moves.proofs.slice_marks.Goals.{After-reply_of-named}

pub returns-in-Ok : goal.returns-in-Ok
returns-in-Ok c =
    let a = c.args in
    needs-done a.form a.first a.marks.now (λ i. a.p.start + i * a.p.pitch) a.p.rows a.p.columns a.w (sym (ap is_done c.first_unmarked-found.ensures) ∙ ap is_done c.in-Ok.is)

-- the row and column that are named
named : (c : After-reply_of-named) → let a = c.args in
    c.reply_of-named.result ≡ reply (verdict (Refusals.needs false a.marks.now (λ i. a.p.start + i * a.p.pitch) a.p.rows a.p.columns a.w ∷ []))
named c = c.reply_of-named.ensures ∙ ap reply c.first_unmarked-found.ensures

pub unwritten_in-requires : goal.unwritten_in-requires
unwritten_in-requires c =
    let a = c.args in
    let b = needs-bounded a.form a.first a.marks.now (λ i. a.p.start + i * a.p.pitch) a.p.rows a.p.columns a.w in
    let i : c.reply_of-named.result.row ≤ a.p.rows = subst (λ (x : Reply). x.row ≤ a.p.rows) (sym (named c)) b.0 in
    let j : c.reply_of-named.result.column ≤ a.p.columns = subst (λ (x : Reply). x.column ≤ a.p.columns) (sym (named c)) b.1 in
    (omega (arith, c.requires.rows_bound), omega (arith, c.requires.rows_bound))

pub returns-in-Err : goal.returns-in-Err
returns-in-Err c =
    let a = c.args in
    ap (λ (r : Refusal). Err r) (c.unwritten_in.ensures ∙ ap (λ (x : Reply). unwritten_in a.form a.first x.row x.column) (named (goal.at.returns-in-Err c).After-reply_of-named))
    ∙ needs-named a.form a.first a.marks.now (λ i. a.p.start + i * a.p.pitch) a.p.rows a.p.columns a.w
    (sym (ap is_done c.first_unmarked-found.ensures) ∙ ap is_done c.in-Err.is ∙ refused-not-done c.in-Err.field-0)
