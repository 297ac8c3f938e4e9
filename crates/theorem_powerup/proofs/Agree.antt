-- Register bytes that agree where they are marked: what is read of them where all is marked is equal, and a tile of equal values
-- written and marked keeps them so.
use Rattle.numbers.proofs.Kit.{◌≡◌, sym, ap, ◌∙◌, subst, inl, inr, true, List, ℕ, zero, suc, ◌+◌, ◌*◌, ◌%◌, ◌^◌, ◌<◌, mul-le-mul_right, add_assoc, arith}
use Rattle.numbers.proofs.Kit.{ℕ_discrete, eqb, length, get_or, set, length-set, List·getD-eq-default, get_or-set_same, get_or-set_other, eqb-true}
use Rattle.numbers.specs.Upto.{upto}
use Rattle.numbers.specs.Tile.{byte_of, put_le, put_row, put_tile, mark_row, mark_tile}
use Rattle.numbers.proofs.TileLaws.{le-cong}
use Rattle.numbers.proofs.PutLaws.{upto-elements, put_tile-low}
use Rattle.numbers.proofs.BlockLaws.{le-or-lt}
use Rattle.machine.specs.Tests.{all}
use Rattle.machine.specs.Operation.{element}
use Rattle.machine.specs.Refusals.{marked}
use Rattle.machine.specs.Alike.{Agree}
use Rattle.machine.proofs.TestLaws.{all-at}

-- three loops side by side
pub upto-beside {ℓ} : {X : Type ℓ} (R : X → X → X → Type 0) (n : ℕ) (f g h : ℕ → X → X) (x y z : X)
    → ((i : ℕ) → i < n → (x y z : X) → R x y z → R (f i x) (g i y) (h i z)) → R x y z → R (upto n f x) (upto n g y) (upto n h z)
upto-beside R zero f g h x y z turn r = r
upto-beside R (suc n) f g h x y z turn r =
    turn n (omega arith) (upto n f x) (upto n g y) (upto n h z) (upto-beside R n f g h x y z (λ i l. turn i (omega arith)) r)

-- ---- reading

marked-at : (ms : List ℕ) (at : ℕ → ℕ) (rows n : ℕ) → marked ms at rows n ≡ true → (i b : ℕ) → i < rows → b < n → get_or ms (at i + b) 0 ≡ 1
unfolding marked
marked-at ms at rows n h i b l l' =
    eqb-true (get_or ms (at i + b) 0) 1 (all-at n (λ b. eqb (get_or ms (at i + b) 0) 1) (all-at rows (λ i. all n (λ b. eqb (get_or ms (at i + b) 0) 1)) h i l) b l')

-- an element of a tile whose bytes are all marked
pub element-same : (ms xs ys : List ℕ) → Agree ms xs ys → (at : ℕ → ℕ) (rows cols w : ℕ) → marked ms at rows (cols * w) ≡ true
    → (i j : ℕ) → i < rows → j < cols → element xs at w i j ≡ element ys at w i j
element-same ms xs ys a at rows cols w h i j l m =
    le-cong xs ys (at i + j * w) (at i + j * w) w (λ b n.
    let k : j * w + b < cols * w = omega (arith, mul-le-mul_right w m) in
    a.same_bytes (at i + j * w + b) (subst (λ (q : ℕ). get_or ms q 0 ≡ 1) (sym (add_assoc (at i) (j * w) b)) (marked-at ms at rows (cols * w) h i (j * w + b) l k)))

-- ---- writing

-- equal values, equal tiles
pub put_tile-cong : (at : ℕ → ℕ) (rows cols w : ℕ) (f g : ℕ → ℕ → ℕ) (xs : List ℕ) → ((i j : ℕ) → i < rows → j < cols → f i j ≡ g i j)
    → put_tile at rows cols w f xs ≡ put_tile at rows cols w g xs
put_tile-cong at rows cols w f g xs e = put_tile-low w at rows cols f g xs (λ i j l m. ap (λ (v : ℕ). v % 256 ^ w) (e i j l m))

set-agree : (p v : ℕ) (ms xs ys : List ℕ) → Agree ms xs ys → Agree (set ms p 1) (set xs p v) (set ys p v)
set-agree p v ms xs ys a = record {
  same_length = length-set xs p v ∙ a.same_length ∙ sym (length-set ys p v);
  same_bytes = λ q h. elim (ℕ_discrete q p) [ yes e ↦ here q e | no d ↦ there q d h ];
}
  where
    here : (q : ℕ) → q ≡ p → get_or (set xs p v) q 0 ≡ get_or (set ys p v) q 0
    here q e = elim (le-or-lt (length xs) p) [
      | inl l ↦ List·getD-eq-default (set xs p v) 0 {n = q} (omega (arith, length-set xs p v)) ∙ sym (List·getD-eq-default (set ys p v) 0 {n = q} (omega (arith, length-set ys p v, a.same_length)))
      | inr l ↦ subst (λ (r : ℕ). get_or (set xs p v) r 0 ≡ get_or (set ys p v) r 0) (sym e) (get_or-set_same xs p v 0 l ∙ sym (get_or-set_same ys p v 0 (omega (arith, a.same_length))))
    ]

    there : (q : ℕ) → ¬ (q ≡ p) → get_or (set ms p 1) q 0 ≡ 1 → get_or (set xs p v) q 0 ≡ get_or (set ys p v) q 0
    there q d h = get_or-set_other xs p q v 0 d ∙ a.same_bytes q (sym (get_or-set_other ms p q 1 0 d) ∙ h) ∙ sym (get_or-set_other ys p q v 0 d)

-- marks of a row, element by element
mark_row-elements : (p cols w : ℕ) (ms : List ℕ) → mark_row p (cols * w) ms ≡ upto cols (λ j. upto w (λ b zs. set zs (p + j * w + b) 1)) ms
unfolding mark_row
mark_row-elements p cols w ms =
    upto-elements cols w (λ b zs. set zs (p + b) 1) (λ j b zs. set zs (p + j * w + b) 1) ms
    (λ j b l l' zs. ap (λ (q : ℕ). set zs q 1) (sym (add_assoc p (j * w) b)))

row-agree : (p cols w : ℕ) (value : ℕ → ℕ) (ms xs ys : List ℕ) → Agree ms xs ys → Agree (mark_row p (cols * w) ms) (put_row p cols w value xs) (put_row p cols w value ys)
unfolding put_row put_le
row-agree p cols w value ms xs ys a =
    subst (λ (ns : List ℕ). Agree ns (put_row p cols w value xs) (put_row p cols w value ys)) (sym (mark_row-elements p cols w ms))
    (upto-beside Agree cols (λ j. upto w (λ b zs. set zs (p + j * w + b) 1)) (λ j zs. put_le (p + j * w) w (value j) zs) (λ j zs. put_le (p + j * w) w (value j) zs) ms xs ys
    (λ j l ns us vs r.
    upto-beside Agree w (λ b zs. set zs (p + j * w + b) 1) (λ b zs. set zs (p + j * w + b) (byte_of (value j) b)) (λ b zs. set zs (p + j * w + b) (byte_of (value j) b)) ns us vs
    (λ b l' ns us vs r. set-agree (p + j * w + b) (byte_of (value j) b) ns us vs r) r) a)

-- a tile of equal values, written and marked
pub tile-agree : (at : ℕ → ℕ) (rows cols w : ℕ) (f g : ℕ → ℕ → ℕ) (ms xs ys : List ℕ) → ((i j : ℕ) → i < rows → j < cols → f i j ≡ g i j) → Agree ms xs ys
    → Agree (mark_tile at rows (cols * w) ms) (put_tile at rows cols w f xs) (put_tile at rows cols w g ys)
unfolding mark_tile put_tile
tile-agree at rows cols w f g ms xs ys e a =
    subst (λ (zs : List ℕ). Agree (mark_tile at rows (cols * w) ms) (put_tile at rows cols w f xs) zs) (put_tile-cong at rows cols w f g ys e)
    (upto-beside Agree rows (λ i zs. mark_row (at i) (cols * w) zs) (λ i zs. put_row (at i) cols w (f i) zs) (λ i zs. put_row (at i) cols w (f i) zs) ms xs ys
    (λ i l ns us vs r. row-agree (at i) cols w (f i) ns us vs r) a)
