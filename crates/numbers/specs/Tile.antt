-- Bytes and tiles: numbers stored low byte first, in rows that start anywhere, and their marks.
use Rattle.std.specs.Prelude.{◌+◌, ◌*◌, ◌/◌, ◌%◌, ◌^◌, ◌≤◌, ◌<◌}
use Rattle.numbers.specs.Kit.{List, ℕ, zero, suc, get_or, set}
use Rattle.numbers.specs.Upto.{upto}

-- the number that the w bytes from p stand for, low byte first
abbrev pub get_le : List ℕ → ℕ → ℕ → ℕ
get_le xs p zero = 0
get_le xs p (suc w) = get_le xs p w + get_or xs (p + w) 0 * 256 ^ w

-- byte b of a number
abbrev pub byte_of : ℕ → ℕ → ℕ
byte_of v b = v / 256 ^ b % 256

-- the low w bytes of v stored from p on
unfoldable pub put_le : ℕ → ℕ → ℕ → List ℕ → List ℕ
put_le p w v xs = upto w (λ b ys. set ys (p + b) (byte_of v b)) xs

-- a row of numbers of w bytes stored from p on
unfoldable pub put_row : ℕ → ℕ → ℕ → (ℕ → ℕ) → List ℕ → List ℕ
put_row p cols w value xs = upto cols (λ j ys. put_le (p + j * w) w (value j) ys) xs

-- rows of numbers of w bytes, row i from `at i` on, written upward
unfoldable pub put_tile : (ℕ → ℕ) → ℕ → ℕ → ℕ → (ℕ → ℕ → ℕ) → List ℕ → List ℕ
put_tile at rows cols w value xs = upto rows (λ i ys. put_row (at i) cols w (value i) ys) xs

-- byte q is one of the n bytes from p
abbrev pub In : ℕ → ℕ → ℕ → Type 0
In p n q = (p ≤ q) × (q < p + n)

-- every byte of the rows set to 1
unfoldable pub mark_row : ℕ → ℕ → List ℕ → List ℕ
mark_row p n ms = upto n (λ b ys. set ys (p + b) 1) ms

unfoldable pub mark_tile : (ℕ → ℕ) → ℕ → ℕ → List ℕ → List ℕ
mark_tile at rows n ms = upto rows (λ i ys. mark_row (at i) n ys) ms
