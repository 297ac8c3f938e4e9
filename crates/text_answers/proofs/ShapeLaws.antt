-- The answer by an entry's shape.
use mathlib.Core.Path.{◌≡◌, refl, sym, ap, ap₂, ◌∙◌}
use mathlib.Core.Bool.{Bool, true, false, cond}
use mathlib.Core.List.{List, [], ◌∷◌, map}
use Prim.Native.Nat.{ℕ, zero, suc, ◌+◌, ◌<◌}
use native.Mathlib.Omega.{arith}
use lib.Dec.{ltb, eqb}
use lib.ListN.{get_or}
use borrow.Author.Tests.{ne_eqb}
use Rattle.machine.specs.declared.Wrong.TheVariants.{LeftOut, Unlisted, Register}
use Rattle.machine.specs.declared.Instruction.{Instruction}
use Rattle.machine.specs.declared.Instruction.TheVariants.{Illegal}
use Rattle.machine.specs.Tests.{is_in, every}
use Rattle.machine.specs.Listing.{field7, field15, field20, listing, in_range, ranged}
use Rattle.unit_table.specs.Table.{meant}
use Rattle.std.specs.Prelude.{Ok, Err}
use Rattle.text_assembly.specs.declared.TextError.TheVariants.{NoLine}
use Rattle.text_assembly.specs.Bytes.{bytes}
use Rattle.text_assembly.specs.Answers.{Texted, code_answer}

abbrev pub shapes : List ℕ
shapes = bytes "-ssssssssttttttttccccttttttttccccmmm.me.e.ee.e.ee.e.ee.e.eeee................................................ttttttttccccttttttttcccc................................................................................................vc....vc..................."

-- by a shape: t, c, v, m, e and s, and others
abbrev pub shape_in : (shape word : ℕ) → Bool
shape_in l w =
    cond (eqb l 116) (ltb (field7 w) 8)
    (cond (eqb l 99) (ltb (field7 w) 2)
    (cond (eqb l 118) (ltb (field15 w) 2)
    (cond (eqb l 109) (every (ltb (field7 w) 2 ∷ ltb (field15 w) 8 ∷ ltb (field20 w) 8 ∷ []))
    (cond (eqb l 101) (every (ltb (field7 w) 2 ∷ ltb (field15 w) 2 ∷ [])) true))))

abbrev pub shape_code : ℕ → Texted
shape_code l = cond (is_in l (116 ∷ 99 ∷ 118 ∷ 109 ∷ 101 ∷ 115 ∷ [])) (Ok tt) (Err (NoLine (cond (eqb l 45) Unlisted LeftOut)))

abbrev pub shape_answer : (shape word : ℕ) → Texted
shape_answer l w = cond (shape_in l w) (shape_code l) (Err (NoLine Register))

-- k numbers from a on
abbrev numbers_from : (a k : ℕ) → List ℕ
numbers_from a zero = []
numbers_from a (suc k) = a ∷ numbers_from (suc a) k

number-at : {A : Type 0} (f : ℕ → A) (d : A) (a k n : ℕ) → n < k → get_or (map f (numbers_from a k)) n d ≡ f (a + n)
number-at f d a zero n l = absurd (omega arith)
number-at f d a (suc k) zero l = let z : a ≡ a + 0 = omega arith in ap f z
number-at f d a (suc k) (suc n) l = let z : suc a + n ≡ a + suc n = omega arith in number-at f d (suc a) k n (omega arith) ∙ ap f z

shape_at : {A : Type 0} (g : ℕ → A) (ls : List ℕ) (n : ℕ) → get_or (map g ls) n (g 0) ≡ g (get_or ls n 0)
shape_at g [] n = refl
shape_at g (l ∷ ls) zero = refl
shape_at g (l ∷ ls) (suc n) = shape_at g ls n

-- what is computed for each of 256 numbers
at_each : {A : Type 0} (f g : ℕ → A) (ls : List ℕ) (n : ℕ) → map f (numbers_from 0 256) ≡ map g ls → n < 256 → f n ≡ g (get_or ls n 0)
at_each f g ls n e l =
    let z : n ≡ 0 + n = omega arith in
    ap f z ∙ sym (number-at f (g 0) 0 256 n l) ∙ ap (λ (xs : List _). get_or xs n (g 0)) e ∙ shape_at g ls n

pub shape-code : (w n : ℕ) → n < 256 → code_answer (meant n w listing) ≡ shape_code (get_or shapes n 0)
unfolding listing
shape-code w n l = at_each (λ (x : ℕ). code_answer (meant x w listing)) shape_code shapes n refl l

pub shape-in : (w n : ℕ) → n < 256 → in_range (meant n w listing) ≡ shape_in (get_or shapes n 0) w
unfolding listing
shape-in w n l = at_each (λ (x : ℕ). in_range (meant x w listing)) (λ (x : ℕ). shape_in x w) shapes n refl l

ranged-code : (i : Instruction) → code_answer (ranged i) ≡ cond (in_range i) (code_answer i) (Err (NoLine Register))
ranged-code i = go (in_range i)
  where
    go : (b : Bool) → code_answer (cond b i (Illegal Register)) ≡ cond b (code_answer i) (Err (NoLine Register))
    go true = refl
    go false = refl

pub by_shape : (w n : ℕ) → n < 256 → code_answer (ranged (meant n w listing)) ≡ shape_answer (get_or shapes n 0) w
by_shape w n l = ranged-code (meant n w listing) ∙ ap₂ (λ (b : Bool) (a : Texted). cond b a (Err (NoLine Register))) (shape-in w n l) (shape-code w n l)

-- ---- for code: one of the shapes, or none

pub with-shape : (w n k : ℕ) → n < 256 → get_or shapes n 0 ≡ k → (r : Texted) → r ≡ shape_answer k w → r ≡ code_answer (ranged (meant n w listing))
with-shape w n k l e r h = h ∙ sym (by_shape w n l ∙ ap (λ (x : ℕ). shape_answer x w) e)

abbrev pub NoShape : ℕ → Type 0
NoShape l = ((((((Unit {0} × (l ≡ 116 → ⊥)) × (l ≡ 99 → ⊥)) × (l ≡ 118 → ⊥)) × (l ≡ 109 → ⊥)) × (l ≡ 101 → ⊥)) × (l ≡ 115 → ⊥)) × (l ≡ 45 → ⊥)

no-shape : (l w : ℕ) → NoShape l → Err (NoLine LeftOut) ≡ shape_answer l w
no-shape l w m = rw (
  ne_eqb l 116 m.0.0.0.0.0.0.1,
  ne_eqb l 99 m.0.0.0.0.0.1,
  ne_eqb l 118 m.0.0.0.0.1,
  ne_eqb l 109 m.0.0.0.1,
  ne_eqb l 101 m.0.0.1,
  ne_eqb l 115 m.0.1,
  ne_eqb l 45 m.1,
)

pub without-shape : (w n : ℕ) → n < 256 → NoShape (get_or shapes n 0) → Err (NoLine LeftOut) ≡ code_answer (ranged (meant n w listing))
without-shape w n l m = no-shape (get_or shapes n 0) w m ∙ sym (by_shape w n l)

pub registers-as : (x y z w : ℕ) → x ≡ field7 w → y ≡ field15 w → z ≡ field20 w
    → every (ltb x 2 ∷ ltb y 8 ∷ ltb z 8 ∷ []) ≡ every (ltb (field7 w) 2 ∷ ltb (field15 w) 8 ∷ ltb (field20 w) 8 ∷ [])
registers-as x y z w a b c = rw (a, b, c)

pub accumulators-as : (x y w : ℕ) → x ≡ field7 w → y ≡ field15 w → every (ltb x 2 ∷ ltb y 2 ∷ []) ≡ every (ltb (field7 w) 2 ∷ ltb (field15 w) 2 ∷ [])
accumulators-as x y w a b = rw (a, b)
