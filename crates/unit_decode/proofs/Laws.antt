-- Register fields in range and out of range, and the form and the number that an entry's number stands for.
use mathlib.Core.Path.{◌≡◌, refl, sym, ap, ap₂, ◌∙◌}
use mathlib.Core.Bool.{Bool, true, false, cond}
use mathlib.Core.Logic.{◌⊎◌, inl, inr}
use Prim.Native.Nat.{ℕ, ◌+◌, ◌-◌, ◌≤◌, ◌<◌}
use native.Mathlib.Omega.{arith}
use lib.Dec.{ltb}
use borrow.Author.Tests.{ltb-true, ltb-false}
use Rattle.machine.specs.declared.Form.{Form}
use Rattle.machine.specs.declared.Form.TheVariants.{Plain, Transposed}
use Rattle.machine.specs.declared.Wrong.TheVariants.{Register}
use Rattle.machine.specs.declared.Instruction.{Instruction}
use Rattle.machine.specs.declared.Instruction.TheVariants.{Illegal}
use Rattle.machine.specs.Listing.{field7, field15, field20, in_range, ranged}
use Rattle.unit_table.specs.Table.{numbered}

pub ranged-out : (i : Instruction) → in_range i ≡ false → Illegal Register ≡ ranged i
ranged-out i h = rw h

pub ranged-in : (i : Instruction) → in_range i ≡ true → i ≡ ranged i
ranged-in i h = rw h

-- an instruction of three fields, by what was read of them
module _ (make : ℕ → ℕ → ℕ → Instruction) (word : ℕ) {low middle high : ℕ} (d : low ≡ field7 word) (a : middle ≡ field15 word) (b : high ≡ field20 word) where
  abbrev whole : Instruction
  whole = make (field7 word) (field15 word) (field20 word)

  same : make low middle high ≡ whole
  same = rw (d, a, b)

  pub fields_out : in_range (make low middle high) ≡ false → Illegal Register ≡ ranged whole
  fields_out h = ranged-out whole (sym (ap in_range same) ∙ h)

  pub fields_in : in_range (make low middle high) ≡ true → make low middle high ≡ ranged whole
  fields_in h = same ∙ ranged-in whole (sym (ap in_range same) ∙ h)

-- an entry's number n, of the form f and printed as p
module _ (n p : ℕ) (f : Form) (ef : f ≡ cond (ltb 108 n) Transposed Plain) (ep : p ≡ cond (ltb 108 n) (n - 100) n) where
  pub numbered-back : numbered f p ≡ n
  numbered-back = ap₂ numbered ef ep ∙ go (ltb 108 n) refl
    where
      go : (t : Bool) → ltb 108 n ≡ t → numbered (cond t Transposed Plain) (cond t (n - 100) n) ≡ n
      go true e = let l = ltb-true 108 n e in omega arith
      go false e = refl

  -- p is n, or 100 less
  pub printed-as : ((p ≡ n) × (n ≤ 108)) ⊎ ((p + 100 ≡ n) × (108 < n))
  printed-as = go (ltb 108 n) refl
    where
      go : (t : Bool) → ltb 108 n ≡ t → ((p ≡ n) × (n ≤ 108)) ⊎ ((p + 100 ≡ n) × (108 < n))
      go true e = let l = ltb-true 108 n e in let q = ep ∙ ap (λ (t : Bool). cond t (n - 100) n) e in inr (omega arith, l)
      go false e = inl (ep ∙ ap (λ (t : Bool). cond t (n - 100) n) e, ltb-false 108 n e)
