-- `unit_row::copy_eight` meets its contract: byte k of the eight lies in both slices, and a write keeps the length.
use Rattle.numbers.proofs.Kit.{◌≡◌, refl, sym, ap, ◌∙◌, subst, List, ℕ, zero, suc, ◌+◌, ◌<◌, add-zero, arith, length, get_or, set, length-set, ltb-true}
use mir.Syntax.{w64}
use mir.Val.{Fits}
use Rattle.numbers.specs.Upto.{upto}
use Rattle.unit_row.proofs.copy_eight.Goals as goal
use Rattle.unit_row.proofs.copy_eight.Goals.{Start}

lies : (s : Start) (k : ℕ) → k < 8 → (s.args.i + k < length s.args.src.now) × (s.args.i + k < length s.args.dst.now) × Fits w64 (s.args.i + k)
lies s k h = omega arith

-- what the slice holds when the first and k more bytes are written
abbrev written : (s : Start) → ℕ → List ℕ
written s k = upto k (λ b ys. set ys (s.args.i + suc b) (get_or s.args.src.now (s.args.i + suc b) 0)) (set s.args.dst.now s.args.i (get_or s.args.src.now s.args.i 0))

length-written : (s : Start) (k : ℕ) → length (written s k) ≡ length s.args.dst.now
length-written s zero = length-set s.args.dst.now s.args.i (get_or s.args.src.now s.args.i 0)
length-written s (suc k) = length-set (written s k) (s.args.i + suc k) (get_or s.args.src.now (s.args.i + suc k) 0) ∙ length-written s k

lies-still : (s : Start) (k j : ℕ) → j < 8 → s.args.i + j < length (written s k)
lies-still s k j h = subst (λ (n : ℕ). s.args.i + j < n) (sym (length-written s k)) (lies s j h).1

pub overflow_add-b : goal.overflow_add-b
overflow_add-b c = (lies (goal.at.overflow_add-b c).Start 1 (ltb-true 1 8 refl)).2

pub bounds-src-i-2 : goal.bounds-src-i-2
bounds-src-i-2 c = (lies (goal.at.bounds-src-i-2 c).Start 1 (ltb-true 1 8 refl)).0

pub overflow_add-c : goal.overflow_add-c
overflow_add-c c = (lies (goal.at.overflow_add-c c).Start 2 (ltb-true 2 8 refl)).2

pub bounds-src-i-3 : goal.bounds-src-i-3
bounds-src-i-3 c = (lies (goal.at.bounds-src-i-3 c).Start 2 (ltb-true 2 8 refl)).0

pub overflow_add-d : goal.overflow_add-d
overflow_add-d c = (lies (goal.at.overflow_add-d c).Start 3 (ltb-true 3 8 refl)).2

pub bounds-src-i-4 : goal.bounds-src-i-4
bounds-src-i-4 c = (lies (goal.at.bounds-src-i-4 c).Start 3 (ltb-true 3 8 refl)).0

pub overflow_add-e : goal.overflow_add-e
overflow_add-e c = (lies (goal.at.overflow_add-e c).Start 4 (ltb-true 4 8 refl)).2

pub bounds-src-i-5 : goal.bounds-src-i-5
bounds-src-i-5 c = (lies (goal.at.bounds-src-i-5 c).Start 4 (ltb-true 4 8 refl)).0

pub overflow_add-f : goal.overflow_add-f
overflow_add-f c = (lies (goal.at.overflow_add-f c).Start 5 (ltb-true 5 8 refl)).2

pub bounds-src-i-6 : goal.bounds-src-i-6
bounds-src-i-6 c = (lies (goal.at.bounds-src-i-6 c).Start 5 (ltb-true 5 8 refl)).0

pub overflow_add-g : goal.overflow_add-g
overflow_add-g c = (lies (goal.at.overflow_add-g c).Start 6 (ltb-true 6 8 refl)).2

pub bounds-src-i-7 : goal.bounds-src-i-7
bounds-src-i-7 c = (lies (goal.at.bounds-src-i-7 c).Start 6 (ltb-true 6 8 refl)).0

pub overflow_add-h : goal.overflow_add-h
overflow_add-h c = (lies (goal.at.overflow_add-h c).Start 7 (ltb-true 7 8 refl)).2

pub bounds-src-i-8 : goal.bounds-src-i-8
bounds-src-i-8 c = (lies (goal.at.bounds-src-i-8 c).Start 7 (ltb-true 7 8 refl)).0

pub overflow_add-dst : goal.overflow_add-dst
overflow_add-dst c = (lies (goal.at.overflow_add-dst c).Start 1 (ltb-true 1 8 refl)).2

pub bounds-dst-i-2 : goal.bounds-dst-i-2
bounds-dst-i-2 c = lies-still (goal.at.bounds-dst-i-2 c).Start 0 1 (ltb-true 1 8 refl)

pub overflow_add-dst-2 : goal.overflow_add-dst-2
overflow_add-dst-2 c = (lies (goal.at.overflow_add-dst-2 c).Start 2 (ltb-true 2 8 refl)).2

pub bounds-dst-i-3 : goal.bounds-dst-i-3
bounds-dst-i-3 c = lies-still (goal.at.bounds-dst-i-3 c).Start 1 2 (ltb-true 2 8 refl)

pub overflow_add-dst-3 : goal.overflow_add-dst-3
overflow_add-dst-3 c = (lies (goal.at.overflow_add-dst-3 c).Start 3 (ltb-true 3 8 refl)).2

pub bounds-dst-i-4 : goal.bounds-dst-i-4
bounds-dst-i-4 c = lies-still (goal.at.bounds-dst-i-4 c).Start 2 3 (ltb-true 3 8 refl)

pub overflow_add-dst-4 : goal.overflow_add-dst-4
overflow_add-dst-4 c = (lies (goal.at.overflow_add-dst-4 c).Start 4 (ltb-true 4 8 refl)).2

pub bounds-dst-i-5 : goal.bounds-dst-i-5
bounds-dst-i-5 c = lies-still (goal.at.bounds-dst-i-5 c).Start 3 4 (ltb-true 4 8 refl)

pub overflow_add-dst-5 : goal.overflow_add-dst-5
overflow_add-dst-5 c = (lies (goal.at.overflow_add-dst-5 c).Start 5 (ltb-true 5 8 refl)).2

pub bounds-dst-i-6 : goal.bounds-dst-i-6
bounds-dst-i-6 c = lies-still (goal.at.bounds-dst-i-6 c).Start 4 5 (ltb-true 5 8 refl)

pub overflow_add-dst-6 : goal.overflow_add-dst-6
overflow_add-dst-6 c = (lies (goal.at.overflow_add-dst-6 c).Start 6 (ltb-true 6 8 refl)).2

pub bounds-dst-i-7 : goal.bounds-dst-i-7
bounds-dst-i-7 c = lies-still (goal.at.bounds-dst-i-7 c).Start 5 6 (ltb-true 6 8 refl)

pub overflow_add-dst-7 : goal.overflow_add-dst-7
overflow_add-dst-7 c = (lies (goal.at.overflow_add-dst-7 c).Start 7 (ltb-true 7 8 refl)).2

pub bounds-dst-i-8 : goal.bounds-dst-i-8
bounds-dst-i-8 c = lies-still (goal.at.bounds-dst-i-8 c).Start 6 7 (ltb-true 7 8 refl)

pub shape_of-dst : goal.shape_of-dst
shape_of-dst c = length-written (goal.at.shape_of-dst c).Start 7

pub returns : goal.returns
returns c =
    let a = c.args in
    ap (λ (p : ℕ). upto 7 (λ b ys. set ys (a.i + suc b) (get_or a.src.now (a.i + suc b) 0)) (set a.dst.now p (get_or a.src.now p 0))) (sym (add-zero a.i))
