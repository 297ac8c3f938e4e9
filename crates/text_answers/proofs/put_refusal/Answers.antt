use mathlib.Core.Path.{sym}
use mathlib.Core.List.{List, [], ◌∷◌, ◌++◌, append-nil}
use Prim.Native.Nat.{ℕ}
use native.Mathlib.Omega.{arith}
use Rattle.text_lines.specs.Lines.{decimal}
use Rattle.text_lines.proofs.WriteLaws.{Ahead, ahead-start, ahead_step, ahead-as, ahead-end, ahead-room}
use Rattle.text_assembly.specs.Bytes.{bytes}
use Rattle.text_assembly.specs.Programs.{refusal}
use Rattle.text_answers.proofs.put_refusal.Goals as goal
use Rattle.text_answers.proofs.put_refusal.Goals.{After-put_byte-c, After-put_decimal-b, After-put_text-a, Start}

abbrev rest1 : Start → List ℕ
rest1 s = decimal s.args.answer ++ (32 ∷ decimal s.args.column)

abbrev Left : Start → List ℕ → ℕ → List ℕ → Type 0
Left s x next rest = Ahead s.args.out.now s.args.at x next rest (refusal s.args.answer s.args.column)

left1 : (c : After-put_text-a) → Left (goal.at.After-put_text-a c).Start c.put_text-a.new.out c.put_text-a.result (rest1 (goal.at.After-put_text-a c).Start)
left1 c = ahead_step ahead-start c.put_text-a.ensures

left2 : (c : After-put_decimal-b) → Left (goal.at.After-put_decimal-b c).Start c.put_decimal-b.new.out c.put_decimal-b.result ((32 ∷ []) ++ decimal c.args.column)
left2 c = ahead_step (left1 (goal.at.After-put_decimal-b c).After-put_text-a) c.put_decimal-b.ensures

left3 : (c : After-put_byte-c) → Left (goal.at.After-put_byte-c c).Start c.put_byte-c.new.out c.put_byte-c.result (decimal c.args.column ++ [])
left3 c = ahead-as (sym (append-nil (decimal c.args.column))) (ahead_step (left2 (goal.at.After-put_byte-c c).After-put_decimal-b) c.put_byte-c.ensures)

pub put_text-a-requires : goal.put_text-a-requires
put_text-a-requires c =
    let d = (goal.at.put_text-a-requires c).Start in
    let start : Left d c.args.out.now c.args.at (bytes "answer " ++ rest1 d) = ahead-start in
    ahead-room (bytes "answer ") (rest1 d) start c.requires

pub put_decimal-b-requires : goal.put_decimal-b-requires
put_decimal-b-requires c =
    ahead-room (decimal c.args.answer) (32 ∷ decimal c.args.column) (left1 (goal.at.put_decimal-b-requires c).After-put_text-a) c.requires

pub put_byte-c-requires : goal.put_byte-c-requires
put_byte-c-requires c =
    let g = ahead-room (32 ∷ []) (decimal c.args.column) (left2 (goal.at.put_byte-c-requires c).After-put_decimal-b) c.requires in
    omega arith

pub put_decimal-requires : goal.put_decimal-requires
put_decimal-requires c =
    ahead-room (decimal c.args.column) [] (left3 (goal.at.put_decimal-requires c).After-put_byte-c) c.requires

pub returns : goal.returns
returns c = ahead-end (ahead_step (left3 (goal.at.returns c).After-put_byte-c) c.put_decimal.ensures)
