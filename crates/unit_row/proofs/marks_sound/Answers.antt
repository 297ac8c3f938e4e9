use Rattle.numbers.proofs.Kit.{◌≡◌, sym, ap, ◌∙◌, Bool, List, ℕ, ◌+◌, ◌-◌, ◌*◌, ◌/◌, ◌<◌, arith, drop, ltb, length, length-drop, length-take, get_or, get_or-drop, get_or-take}
use Rattle.machine.specs.Tests.{all, all_of}
use Rattle.machine.proofs.TestLaws.{all_of-all}
use Rattle.unit_row.proofs.MarkLaws.{most-more}
use Rattle.unit_row.proofs.marks_sound.Goals as goal

-- the marks, by the largest of all of them
told : (m : List ℕ) (n : ℕ) → n ≡ length m → (t : Bool) → t ≡ all n (λ k. ltb (get_or m k 0) 2) → t ≡ all_of (λ mark. ltb mark 2) m
told m n e t h = h ∙ ap (λ (n : ℕ). all n (λ k. ltb (get_or m k 0) 2)) e ∙ sym (all_of-all (λ mark. ltb mark 2) m)

pub returns-then-marks-eq256 : goal.returns-then-marks-eq256
returns-then-marks-eq256 c = told c.args.marks.now 256 (sym c.if-marks-eq256.true) (ltb c.most_of.result 2) c.most_of.ensures

pub loop-mark-preserved : goal.loop-mark-preserved
loop-mark-preserved c =
    let l = c.loop-mark in
    let m = c.args.marks.now in
    let q : ℕ = 4 * (length m / 4) in
    let h : l.mark-index < length m - q = omega (arith, length-take (length m - q) (drop q m), length-drop q m) in
    ap (λ (r : ℕ). ltb r 2) c.max-most.ensures
    ∙ most-more m (q + l.mark-index) (q + (l.mark-index + 1)) l.most _ (omega arith)
    (get_or-take (length m - q) (drop q m) l.mark-index 0 h ∙ get_or-drop q m l.mark-index 0) l.invariant

pub returns : goal.returns
returns c =
    let l = c.loop-mark in
    let m = c.args.marks.now in
    let q : ℕ = 4 * (length m / 4) in
    told m (q + l.mark-index) (omega (arith, length-take (length m - q) (drop q m), length-drop q m)) (ltb l.most 2) l.invariant
