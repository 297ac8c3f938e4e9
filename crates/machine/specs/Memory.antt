-- 01, "Loading, storing, reckoning", and 02, Seven: rows of elements in memory, the tests on their bytes, and rows stored.
use Rattle.std.specs.Prelude.{◌∷◌, ◌+◌, ◌*◌, ◌-◌, ◌/◌, ◌%◌, ◌^◌, ◌+ℤ◌, ◌*ℤ◌}
use Rattle.numbers.specs.Kit.{Bool, false, not, cond, List, [], ℕ, suc, ltb, ℤ, pos, negsuc}
use Rattle.numbers.specs.Reduce.{signed}
use Rattle.numbers.specs.Tile.{byte_of}
use Rattle.machine.specs.Tests.{all, first, within}

-- "Row i lies at rs1 + i x rs2, with rs1 unsigned and rs2 a signed 64-bit stride, as whole numbers that don't wrap."
abbrev pub row_z : ℕ → ℕ → ℕ → ℤ
row_z base stride i = pos base +ℤ pos i *ℤ signed (2 ^ 64) stride

-- the same as a natural number, of a row that lies in memory
abbrev pub address : ℤ → ℕ
address (pos p) = p
address (negsuc p) = 0

abbrev pub row_at : ℕ → ℕ → ℕ → ℕ
row_at base stride i = address (row_z base stride i)

-- a byte's place in a memory of len bytes
abbrev pub in_memory : ℕ → ℤ → Bool
in_memory len (pos p) = ltb p len
in_memory len (negsuc p) = false

-- every byte of every row of n bytes lies in memory; a row of no byte has no address to check
unfoldable pub inside : ℕ → ℕ → ℕ → ℕ → ℕ → Bool
inside len base stride rows n = all rows (λ i. all n (λ b. in_memory len (row_z base stride i +ℤ pos b)))

-- none of the n bytes from p on is one of those
unfoldable pub misses : (ℕ → Bool) → (p n : ℕ) → Bool
misses those p n = all n (λ b. not (those (p + b)))

-- no byte of a row of n bytes is one of those
unfoldable pub rows_miss : (ℕ → Bool) → (base stride rows n : ℕ) → Bool
rows_miss those base stride rows n = all rows (λ i. misses those (row_at base stride i) n)

-- 02, Seven: no "byte belongs to two rows", each of n bytes; a row of no byte shares none. Answer 9 reads it of C's rows too
unfoldable pub distinct : (ℕ → ℕ) → (rows n : ℕ) → Bool
distinct at rows n = all rows (λ k. all k (λ i. misses (within (at k) n) (at i) n))

-- ---- rows stored

-- the row that byte q belongs to, of rows of n bytes of which no two share one; the number of rows if it belongs to none
abbrev pub row_with : (ℕ → ℕ) → (rows n : ℕ) → ℕ → ℕ
row_with at rows n q = first rows (λ i. within (at i) n q)

-- byte q of memory, which was x: that of the element of w bytes to which it belongs, or as it was
abbrev pub stored_byte : (ℕ → ℕ) → (rows cols w : ℕ) → (ℕ → ℕ → ℕ) → (q x : ℕ) → ℕ
stored_byte at rows cols w value q x =
    let i = row_with at rows (cols * w) q in
    let b = q - at i in
    cond (ltb i rows) (byte_of (value i (b / w)) (b % w)) x

-- each byte of a list anew, by its place and what it was
abbrev pub anew : (ℕ → ℕ → ℕ) → ℕ → List ℕ → List ℕ
anew f p [] = []
anew f p (x ∷ xs) = f p x ∷ anew f (suc p) xs

-- memory with each element (i, j) where it belongs
unfoldable pub stored : (ℕ → ℕ) → (rows cols w : ℕ) → (ℕ → ℕ → ℕ) → List ℕ → List ℕ
stored at rows cols w value mem = anew (stored_byte at rows cols w value) 0 mem
