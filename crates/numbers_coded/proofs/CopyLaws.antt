-- A part of a list that is written over, as bytes that are set one after the other.
use mathlib.Core.Path.{◌≡◌, refl, sym, ap, ap₂, ◌∙◌}
use mathlib.Core.List.{List, ◌++◌}
use Prim.Native.Nat.{ℕ, suc, ◌+◌, ◌-◌, ◌≤◌, ◌<◌}
use native.Mathlib.Omega.{arith}
use lib.ListN.{length, take, drop, get_or, set}
use lib.Seq.{sets, sets-eq, take_all, drop-cons}
use borrow.Rule.Slice.PartMut.{put_mid}
use Rattle.std.proofs.lemmas.Slice.{put_mid-paste}

pub put_part : (xs ys vs : List ℕ) (to k : ℕ) → ys ≡ vs → k ≡ length vs → to + k ≤ length xs → put_mid to k xs ys ≡ sets xs to vs
put_part xs ys vs to k e l h =
    put_mid-paste to k xs ys vs (length vs) e (sym l) refl
    ∙ ap (λ (zs : List ℕ). take to xs ++ zs ++ drop (to + length vs) xs) (take_all (length vs) vs (omega arith))
    ∙ sym (sets-eq vs xs to (omega arith))

-- bytes that are copied one after the other
module _ (xs ys : List ℕ) (to from n : ℕ) where
  pub copy_start : (i : ℕ) → i ≡ 0 → sets xs (to + i) (take (n - i) (drop (from + i) ys)) ≡ sets xs to (take n (drop from ys))
  copy_start i e =
      let l : to + i ≡ to = omega arith in
      let m : n - i ≡ n = omega arith in
      let k : from + i ≡ from = omega arith in
      rw (l, m, k)

  pub copy_more : (i : ℕ) → i < n → from + n ≤ length ys
      → sets xs (to + i) (take (n - i) (drop (from + i) ys)) ≡ sets (set xs (to + i) (get_or ys (from + i) 0)) (to + (i + 1)) (take (n - (i + 1)) (drop (from + (i + 1)) ys))
  copy_more i h k =
      let e : n - i ≡ suc (n - (i + 1)) = omega arith in
      let l : suc (to + i) ≡ to + (i + 1) = omega arith in
      let m : suc (from + i) ≡ from + (i + 1) = omega arith in
      ap₂ (λ (x : ℕ) (z : List ℕ). sets xs (to + i) (take x z)) e (drop-cons ys (from + i) 0 (omega arith))
      ∙ ap₂ (λ (a b : ℕ). sets (set xs (to + i) (get_or ys (from + i) 0)) a (take (n - (i + 1)) (drop b ys))) l m

  pub copy-end : (i : ℕ) → n ≤ i → sets xs (to + i) (take (n - i) (drop (from + i) ys)) ≡ xs
  copy-end i h = let e : n - i ≡ 0 = omega arith in ap (λ (x : ℕ). sets xs (to + i) (take x (drop (from + i) ys))) e
