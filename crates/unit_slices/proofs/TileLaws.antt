-- Tiles of equal values, and tiles written over themselves.
use Rattle.numbers.proofs.Kit.{◌≡◌, refl, sym, ap, ◌∙◌, true, List, [], ◌∷◌, ℕ, zero, suc, ◌+◌, ◌*◌, ◌<◌, eqb, get_or, set, eqb-true}
use Rattle.numbers.specs.Tile.{byte_of, put_le, put_row, put_tile, mark_row, mark_tile}
use Rattle.numbers.proofs.UptoLaws.{upto-cong, upto-keeps}
use Rattle.numbers.proofs.PutLaws.{le-byte}
use Rattle.machine.specs.Tests.{all}
use Rattle.machine.specs.Operation.{element}
use Rattle.machine.specs.Refusals.{marked}
use Rattle.machine.proofs.TestLaws.{all-at}

-- ---- equal values

pub put_tile-values : (at : ℕ → ℕ) (rows cols w : ℕ) (value value' : ℕ → ℕ → ℕ) (xs : List ℕ) → ((i j : ℕ) → i < rows → j < cols → value i j ≡ value' i j)
    → put_tile at rows cols w value xs ≡ put_tile at rows cols w value' xs
unfolding put_tile put_row
put_tile-values at rows cols w value value' xs h =
    upto-cong rows (λ i ys. put_row (at i) cols w (value i) ys) (λ i ys. put_row (at i) cols w (value' i) ys) xs (λ i l ys.
    upto-cong cols (λ j zs. put_le (at i + j * w) w (value i j) zs) (λ j zs. put_le (at i + j * w) w (value' i j) zs) ys (λ j k zs.
    ap (λ (v : ℕ). put_le (at i + j * w) w v zs) (h i j l k)))

-- ---- written over itself

set_self : (xs : List ℕ) (i : ℕ) → set xs i (get_or xs i 0) ≡ xs
set_self [] i = refl
set_self (x ∷ xs) zero = refl
set_self (x ∷ xs) (suc i) = ap (λ (ys : List ℕ). x ∷ ys) (set_self xs i)

set_same : (xs : List ℕ) (i v : ℕ) → v ≡ get_or xs i 0 → set xs i v ≡ xs
set_same xs i v e = ap (set xs i) e ∙ set_self xs i

-- a tile of its own elements, of bytes
pub put_tile-self : (at : ℕ → ℕ) (rows cols w : ℕ) (xs : List ℕ) → ((q : ℕ) → get_or xs q 0 < 256) → put_tile at rows cols w (element xs at w) xs ≡ xs
unfolding put_tile put_row put_le
put_tile-self at rows cols w xs bytes =
    upto-keeps (λ ys. ys ≡ xs) rows (λ i ys. put_row (at i) cols w (element xs at w i) ys) xs (λ i l ys e.
    ap (put_row (at i) cols w (element xs at w i)) e
    ∙ upto-keeps (λ zs. zs ≡ xs) cols (λ j zs. put_le (at i + j * w) w (element xs at w i j) zs) xs (λ j k zs e'.
    ap (put_le (at i + j * w) w (element xs at w i j)) e'
    ∙ upto-keeps (λ us. us ≡ xs) w (λ b us. set us (at i + j * w + b) (byte_of (element xs at w i j) b)) xs (λ b n us e''.
    ap (λ (vs : List ℕ). set vs (at i + j * w + b) (byte_of (element xs at w i j) b)) e''
    ∙ set_same xs (at i + j * w + b) (byte_of (element xs at w i j) b) (le-byte xs bytes (at i + j * w) w b n)) refl) refl) refl

-- marks of rows that all have them
pub mark_tile-self : (at : ℕ → ℕ) (rows n : ℕ) (ms : List ℕ) → marked ms at rows n ≡ true → mark_tile at rows n ms ≡ ms
unfolding mark_tile mark_row marked
mark_tile-self at rows n ms h =
    upto-keeps (λ ys. ys ≡ ms) rows (λ i ys. mark_row (at i) n ys) ms (λ i l ys e.
    ap (mark_row (at i) n) e
    ∙ upto-keeps (λ zs. zs ≡ ms) n (λ b zs. set zs (at i + b) 1) ms (λ b k zs e'.
    ap (λ (us : List ℕ). set us (at i + b) 1) e'
    ∙ set_same ms (at i + b) 1 (sym (eqb-true (get_or ms (at i + b) 0) 1
    (all-at n (λ b. eqb (get_or ms (at i + b) 0) 1) (all-at rows (λ i. all n (λ b. eqb (get_or ms (at i + b) 0) 1)) h i l) b k)))) refl) refl
