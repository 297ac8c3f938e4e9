-- A tile's rows, copied one a turn.
use Rattle.numbers.proofs.Kit.{◌≡◌, ◌∙◌, true, List, ℕ, ℤ, zero, ◌+◌, ◌*◌, ◌-◌, ◌^◌, ◌≤◌, ◌<◌, ◌++◌, take, drop, arith, length, get_or, set, pos, ◌+ℤ◌, ◌*ℤ◌, nat_abs}
use Rattle.std.proofs.Common.{w64, to_z, of_z}
use lib.Signed.{mag}
use Rattle.numbers.specs.Upto.{upto}
use Rattle.numbers.specs.Tile.{put_tile}
use Rattle.numbers.proofs.PutLaws.{copied-back, put_tile-next}
use Rattle.machine.specs.Memory.{row_at, address, in_memory, inside}
use Rattle.machine.specs.Operation.{element}
use Rattle.unit_address.proofs.AddressLaws.{step, passed_on, row_inside, row-reached, row-starts}

-- row i, copied from where it starts in ys to where it starts in xs
pub row_more : (at from_at : ℕ → ℕ) (i cols w : ℕ) (start xs ys s : List ℕ) (p from k n : ℕ) → ((q : ℕ) → get_or ys q 0 < 256)
    → xs ≡ put_tile at i cols w (element ys from_at w) start → p ≡ at i → from ≡ from_at i → from + cols * w ≤ length ys → p ≤ length xs → k ≡ length xs - p → n ≡ cols * w
    → s ≡ upto (length (take n (drop from ys))) (λ b zs. set zs b (get_or (take n (drop from ys)) b 0)) (take k (drop p xs))
    → take p xs ++ (s ++ drop k (drop p xs)) ≡ put_tile at (i + 1) cols w (element ys from_at w) start
row_more at from_at i cols w start xs ys s p from k n small e ep ef h hp ek en es =
    copied-back xs ys s p from (from_at i) k n cols w small en ef (omega arith) hp ek es
    ∙ put_tile-next at i cols w (element ys from_at w) start xs p e ep

-- rows of n bytes that lie in memory, and row i of them; r is the stride as the code reads it
module _ (len base stride rows n i : ℕ) (r : ℤ) (h : inside len base stride rows n ≡ true) (some : zero < n) (word : stride < 2 ^ 64) (l : i < rows) (small : mag r < 2 ^ 63) (e : r ≡ step stride) where
  -- what row_address requires
  pub row_reached : len < 2 ^ 63 → rows < 2 ^ 63
      → (i < 2 ^ 63) × ((nat_abs (to_z w64 (of_z w64 r)) * i < 2 ^ 63) × (in_memory (2 ^ 64) (pos base +ℤ pos i *ℤ to_z w64 (of_z w64 r)) ≡ true))
  row_reached short few = row-reached len base stride rows n h some word short few i l (to_z w64 (of_z w64 r)) (passed_on r stride small e)

  -- and where it finds the row
  pub row_found : (p : ℕ) → p ≡ address (pos base +ℤ pos i *ℤ to_z w64 (of_z w64 r)) → (p ≡ row_at base stride i) × (p + n ≤ len)
  row_found p ep =
      let q : p ≡ row_at base stride i = row-starts len base stride rows n i p (to_z w64 (of_z w64 r)) (passed_on r stride small e) ep in
      (q, omega (arith, q, (row_inside len base stride rows n h some word i l).1))
