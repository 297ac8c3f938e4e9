-- Reading at a place.
use mathlib.Core.Path.{◌≡◌, refl, ap}
use mathlib.Core.Bool.{Bool, true, false, cond, ◌||◌}
use mathlib.Core.List.{List, [], ◌∷◌}
use Prim.Native.Nat.{ℕ, zero, suc, ◌*◌, ◌≤◌, ◌<◌}
use native.Mathlib.Omega.{arith}
use native.Mathlib.Nat.{mul-le-mul_right}
use lib.Dec.{eqb}
use lib.ListN.{length, take, drop, drop_of_length-le}
use lib.Seq.{drop-cons}
use Rattle.std.specs.Prelude.{Ok, Err}
use Rattle.std.specs.List.{list_any}
use Rattle.text_read.specs.Parts.{fault_at, as_line, next_scale, end_at, space_in}

-- ---- words

pub scaled-bound : (n scale : ℕ) → n ≤ 8191 → scale ≤ 0x10_0000 → n * scale ≤ 8588886016
scaled-bound n scale a b = omega (arith, mul-le-mul_right scale a)

pub next-bound : (scale : ℕ) → next_scale scale ≤ 0x10_0000
next-bound scale = go (eqb scale 128) (eqb scale 32768)
  where
    go : (a b : Bool) → cond a 32768 (cond b 0x10_0000 0) ≤ 0x10_0000
    go true b = omega arith
    go false true = omega arith
    go false false = omega arith

pub ended : (s : List ℕ) (at w : ℕ) → length s ≤ at → Ok w ≡ as_line (end_at (drop at s) at w)
ended s at w h = rw (drop_of_length-le s h)

pub not-ended : (s : List ℕ) (at w : ℕ) → at < length s → Err (fault_at at) ≡ as_line (end_at (drop at s) at w)
not-ended s at w h = rw (drop-cons s at 0 h)

-- ---- the first space

pub space-is : (n : ℕ) (s : List ℕ) → list_any (λ b. eqb b 32) (take n s) ≡ space_in n s
space-is zero s = refl
space-is (suc n) [] = refl
space-is (suc n) (b ∷ s) = ap (λ (x : Bool). eqb b 32 || x) (space-is n s)
