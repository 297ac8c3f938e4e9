-- Elements one stride apart: the address of the next by a wrapping add, and the columns of a tile as such elements.
use Rattle.numbers.proofs.Kit.{◌≡◌, sym, ap, ◌∙◌, ◌⊎◌, inl, inr, true, ℕ, zero, suc, ◌+◌, ◌*◌, ◌-◌, ◌%◌, ◌^◌, ◌≤◌, ◌<◌, zero-mul, add-zero, mod-eq_of_lt}
use Rattle.numbers.proofs.Kit.{mul-le-mul_right, arith, ℤ, pos, negsuc, ◌+ℤ◌, ◌*ℤ◌}
use Rattle.numbers.proofs.Kit.{List, ◌++◌, take, drop, length}
use Rattle.numbers.specs.Tile.{get_le, put_row, put_tile}
use Rattle.numbers.proofs.PutLaws.{put_back, put_tile-next}
use Rattle.numbers.proofs.ElementLaws.{put_row-cong}
use Rattle.numbers.proofs.BlockLaws.{le-or-lt}
use Rattle.numbers.proofs.ReduceLaws.{shift}
use Rattle.machine.specs.Memory.{row_z, row_at, address, inside}
use Rattle.machine.proofs.TestLaws.{false-true}
use Rattle.machine.proofs.MemoryLaws.{fits-true, inside-true, inside-at, block_row, block-row_at, block_inside, row_z-up, row_z-down, row_z-below}
use Rattle.unit_element.specs.Element.{Width}

pub width_some : (w : ℕ) → Width w → zero < w
width_some w (inl e) = omega arith
width_some w (inr (inl e)) = omega arith
width_some w (inr (inr (inl e))) = omega arith
width_some w (inr (inr (inr e))) = omega arith

-- the first one lies at the base
pub first-at : (base stride : ℕ) → row_at base stride 0 ≡ base
first-at base stride = go (Rattle.numbers.specs.Reduce.signed (2 ^ 64) stride)
  where
    go : (z : ℤ) → address (pos base +ℤ pos 0 *ℤ z) ≡ base
    go (pos n) = omega (arith, zero-mul n)
    go (negsuc n) = rw (zero-mul (suc n)) (add-zero base)

-- and the next one a stride on
module _ (len base stride n w : ℕ) (h : inside len base stride n w ≡ true) (0<w : zero < w) (small : len < 2 ^ 63) (word : stride < 2 ^ 64) (j : ℕ) (l : j + 1 < n) where
  abbrev p : ℕ
  p = row_at base stride j

  abbrev q : ℕ
  q = row_at base stride (j + 1)

  step_is : row_z (p + 0) stride 1 ≡ pos (q + 0)
  step_is = block_row base stride j 1 0 (inside-at len base stride n w h 0<w j (omega arith)).0 (inside-at len base stride n w h 0<w (j + 1) l).0

  ends : q + w ≤ len
  ends = (inside-at len base stride n w h 0<w (j + 1) l).1

  pub next-at : (p + stride) % 2 ^ 64 ≡ q
  next-at = go (le-or-lt (2 ^ 64) (stride + stride))
    where
      go : (2 ^ 64 ≤ stride + stride) ⊎ (stride + stride < 2 ^ 64) → (p + stride) % 2 ^ 64 ≡ q
      go (inr s) =
          let e : p + 0 + 1 * stride ≡ q + 0 = ap address (sym (row_z-up (p + 0) stride 1 s) ∙ step_is) in
          let f : p + stride ≡ q = omega arith in
          ap (λ (x : ℕ). x % 2 ^ 64) f ∙ mod-eq_of_lt {n = q} (omega (arith, ends))
      go (inl s) = down (2 ^ 64 - 1 - stride) (omega arith) (le-or-lt (1 * suc (2 ^ 64 - 1 - stride)) (p + 0))
        where
          down : (d : ℕ) → stride + suc d ≡ 2 ^ 64 → (1 * suc d ≤ p + 0) ⊎ (p + 0 < 1 * suc d) → (p + stride) % 2 ^ 64 ≡ q
          down d e (inl b) =
              let f : p + 0 - 1 * suc d ≡ q + 0 = ap address (sym (row_z-down (p + 0) stride 1 d s e b) ∙ step_is) in
              shift (2 ^ 64) 0 1 (p + stride) q (omega arith) ∙ mod-eq_of_lt {n = q} (omega (arith, ends))
          down d e (inr b) = absurd (false-true (sym (row_z-below len w (p + 0) stride 1 d s e b) ∙ fits-true len w (q + 0) (row_z (p + 0) stride 1) step_is (omega (arith, ends))))

-- ---- the columns of a tile that lies in memory

-- element i of each row of memory
module _ (len base stride cols rows w : ℕ) (h : inside len base stride cols (rows * w) ≡ true) (0<w : zero < w) (0<cols : zero < cols) (i : ℕ) (l : i < rows) where
  some : zero < rows * w
  some = omega (arith, 0<w, mul-le-mul_right w l)

  within : i * w + w ≤ rows * w
  within = omega (arith, mul-le-mul_right w l)

  pub column-at : (j : ℕ) → j < cols → row_at (base + i * w) stride j ≡ row_at base stride j + i * w
  column-at j g =
      ap (λ (b : ℕ). row_at (b + i * w) stride j) (sym (first-at base stride))
      ∙ block-row_at len base stride cols (rows * w) h 0 (i * w) cols w 0<cols some (omega arith) within j g ∙ ap (λ (k : ℕ). row_at base stride k + i * w) (omega arith)

  pub column-inside : inside len (base + i * w) stride cols w ≡ true
  column-inside =
      ap (λ (b : ℕ). inside len (b + i * w) stride cols w) (sym (first-at base stride))
      ∙ block_inside len base stride cols (rows * w) h 0 (i * w) cols w 0<cols some (omega arith) within

  pub column-ends : base + i * w + w ≤ len
  column-ends =
      let e = (inside-at len base stride cols (rows * w) h some 0 0<cols).1 in
      omega (arith, e, first-at base stride, within)

-- ---- the columns of a tile in the registers

-- element j of each row of a register whose rows are `pitch` bytes apart
module _ (len start pitch rows cols w : ℕ) (h : start + rows * pitch ≤ len) (f : cols * w ≤ pitch) (small : pitch + pitch < 2 ^ 64) (j : ℕ) (l : j < cols) where
  across : j * w + w ≤ cols * w
  across = omega (arith, mul-le-mul_right w l)

  pub register-at : (i : ℕ) → row_at (start + j * w) pitch i ≡ start + i * pitch + j * w
  register-at i = ap address (row_z-up (start + j * w) pitch i small) ∙ omega arith

  pub register-inside : inside len (start + j * w) pitch rows w ≡ true
  register-inside =
      inside-true len (start + j * w) pitch rows w (λ i g.
      fits-true len w (start + j * w + i * pitch) (row_z (start + j * w) pitch i) (row_z-up (start + j * w) pitch i small)
      (omega (arith, h, f, across, mul-le-mul_right pitch g)))

-- ---- a row of elements that lie one stride apart

-- row i, gathered to where it starts in xs from elements of ys
pub row-gathered : (at : ℕ → ℕ) (i cols w : ℕ) (value : ℕ → ℕ → ℕ) (start xs s ys : List ℕ) (p k : ℕ) (from : ℕ → ℕ) → xs ≡ put_tile at i cols w value start → p ≡ at i → p ≤ length xs
    → k ≡ length xs - p → ((j : ℕ) → j < cols → get_le ys (from j) w ≡ value i j) → s ≡ put_row 0 cols w (λ j. get_le ys (from j) w) (take k (drop p xs))
    → take p xs ++ (s ++ drop k (drop p xs)) ≡ put_tile at (i + 1) cols w value start
row-gathered at i cols w value start xs s ys p k from e ep hp ek ev es =
    put_back xs s p k cols w (λ j. get_le ys (from j) w) hp ek es
    ∙ put_row-cong w p cols (λ j. get_le ys (from j) w) (value i) xs ev
    ∙ put_tile-next at i cols w value start xs p e ep
