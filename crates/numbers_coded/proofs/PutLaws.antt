-- Putting a number into lent room group by group.
use mathlib.Core.Path.{◌≡◌, ap}
use mathlib.Core.List.{List}
use Prim.Native.Nat.{ℕ, suc, ◌+◌, ◌/◌, ◌%◌, ◌≤◌, ◌<◌}
use native.Mathlib.Numerals.{add-one}
use lib.ListN.{length, set}
use lib.Seq.{sets}
use Rattle.numbers_format.specs.Numbers.{encode}
use Rattle.numbers_format.proofs.NumberLaws.{encode-last, encode-more}

module _ (room : List ℕ) (i x : ℕ) where
  pub put_last : x < 128 → sets room i (encode x) ≡ set room i x
  put_last h = rw (encode-last x h)

  pub put-more : 128 ≤ x → sets room i (encode x) ≡ sets (set room i (128 + x % 128)) (i + 1) (encode (x / 128))
  put-more h = rw (encode-more x h, add-one i)

pub length_last : (x : ℕ) → x < 128 → length (encode x) ≡ 1
length_last x h = ap length (encode-last x h)

pub length_more : (x : ℕ) → 128 ≤ x → length (encode x) ≡ suc (length (encode (x / 128)))
length_more x h = ap length (encode-more x h)
