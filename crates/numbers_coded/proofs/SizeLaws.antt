-- How many bytes a number takes: at most ten, if it has 64 bits.
use mathlib.Core.Path.{◌≡◌, refl, subst}
use mathlib.Core.Bool.{Bool, true, false}
use Prim.Native.Nat.{ℕ, zero, suc, ◌*◌, ◌/◌, ◌^◌, ◌≤◌, ◌<◌}
use native.Mathlib.Nat.{pow-suc}
use native.Mathlib.Omega.{arith}
use lib.Dec.{ltb}
use lib.ListN.{length}
use borrow.Author.Tests.{ltb-true, ltb-false}
use Rattle.numbers_format.specs.Numbers.{encode}
use Rattle.numbers_coded.proofs.PutLaws.{length_last, length_more}

size_below : (k n : ℕ) → n < 128 ^ suc k → length (encode n) ≤ suc k
size_below zero n h = let e : 128 ^ suc zero ≡ 128 = refl in omega (arith, length_last n (omega arith))
size_below (suc k) n h = go (ltb n 128) refl (size_below k (n / 128))
  where
    go : (t : Bool) → ltb n 128 ≡ t → (n / 128 < 128 ^ suc k → length (encode (n / 128)) ≤ suc k) → length (encode n) ≤ suc (suc k)
    go true e ih = omega (arith, length_last n (ltb-true n 128 e))
    go false e ih =
        let m : n < 128 ^ suc k * 128 = subst (λ (x : ℕ). n < x) (pow-suc 128 (suc k)) h in
        omega (arith, length_more n (ltb-false n 128 e), ih (omega arith))

pub size-bound : (n : ℕ) → n < 2 ^ 64 → length (encode n) ≤ 10
size-bound n h = size_below 9 n (omega arith)
