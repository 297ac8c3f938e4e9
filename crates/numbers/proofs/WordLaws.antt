-- For code that keeps numbers in bytes: a number written byte by byte, what is read back of a row that was written,
-- and a row written over itself.
use Rattle.numbers.proofs.Kit.{◌≡◌, refl, sym, ap, ap₂, ◌∙◌, List, ℕ, zero, suc, ◌+◌, ◌*◌, ◌/◌, ◌%◌, ◌^◌, ◌≤◌, ◌<◌, add-zero, pow-zero, div-one}
use Rattle.numbers.proofs.Kit.{length, get_or, set, set-get_or}
use Rattle.numbers.specs.Upto.{upto}
use Rattle.numbers.specs.Tile.{get_le, byte_of, put_le, put_row}
use Rattle.numbers.proofs.UptoLaws.{upto-keeps, upto-cong}
use Rattle.numbers.proofs.TileLaws.{le_bytes, put_row-at}
use Rattle.numbers.proofs.PutLaws.{le-byte}

-- ---- a number byte by byte

-- where code puts byte b, and what is left of the number there
abbrev pub place_at : ℕ → ℕ → ℕ
place_at p zero = p
place_at p (suc b) = p + suc b

abbrev pub rest_at : ℕ → ℕ → ℕ
rest_at v zero = v
rest_at v (suc b) = v / 256 ^ suc b

place_is : (p b : ℕ) → place_at p b ≡ p + b
place_is p zero = sym (add-zero p)
place_is p (suc b) = refl

rest-is : (v b : ℕ) → rest_at v b ≡ v / 256 ^ b
rest-is v zero = rw (pow-zero, div-one)
rest-is v (suc b) = refl

-- w bytes and the last, one after another, are the number's bytes
pub put-bytes : (w p v last : ℕ) (xs : List ℕ) → last ≡ byte_of v w
    → set (upto w (λ b ys. set ys (place_at p b) (rest_at v b % 256)) xs) (place_at p w) last ≡ put_le p (suc w) v xs
unfolding put_le
put-bytes w p v last xs e =
    ap₂ (λ (ys : List ℕ) (q : ℕ). set ys q last)
    (upto-cong w (λ b ys. set ys (place_at p b) (rest_at v b % 256)) (λ b ys. set ys (p + b) (byte_of v b)) xs
    (λ b l ys. ap₂ (λ (q u : ℕ). set ys q (u % 256)) (place_is p b) (rest-is v b)))
    (place_is p w)
    ∙ ap (set (upto w (λ b ys. set ys (p + b) (byte_of v b)) xs) (p + w)) e

-- ---- read back what was written

pub le-put_row : (p cols w : ℕ) (value : ℕ → ℕ) (xs : List ℕ) → p + cols * w ≤ length xs → (j : ℕ) → j < cols
    → get_le (put_row p cols w value xs) (p + j * w) w ≡ value j % 256 ^ w
le-put_row p cols w value xs h j l = le_bytes (put_row p cols w value xs) (p + j * w) w (value j) (put_row-at p cols w value xs h j l)

-- ---- write what was read

module _ (xs : List ℕ) (small : (q : ℕ) → get_or xs q 0 < 256) where
  pub put_le-same : (p w : ℕ) → put_le p w (get_le xs p w) xs ≡ xs
  unfolding put_le
  put_le-same p w =
      upto-keeps (λ ys. ys ≡ xs) w (λ b ys. set ys (p + b) (byte_of (get_le xs p w) b)) xs
      (λ b l ys e. rw (e, le-byte xs small p w b l) (set-get_or xs (p + b) 0)) refl

  pub put_row-same : (p cols w : ℕ) (value : ℕ → ℕ) → ((j : ℕ) → j < cols → value j ≡ get_le xs (p + j * w) w) → put_row p cols w value xs ≡ xs
  unfolding put_row
  put_row-same p cols w value e =
      upto-keeps (λ ys. ys ≡ xs) cols (λ j ys. put_le (p + j * w) w (value j) ys) xs
      (λ j l ys q. ap (put_le (p + j * w) w (value j)) q ∙ ap (λ (v : ℕ). put_le (p + j * w) w v xs) (e j l) ∙ put_le-same (p + j * w) w) refl
