-- The loops of the kernels, once over the width: what holds in each turn, at its start, after one turn more, and at its end.
use Rattle.numbers.proofs.Kit.{pow-le-pow_right, ⊎_elim, take, replicate, zero, suc}
use Rattle.numbers.proofs.Kit.{◌≡◌, refl, sym, ap, ap₂, ◌∙◌, List, ℕ, ◌+◌, ◌*◌, ◌^◌, ◌≤◌, ◌<◌, zero-mul, arith, length, set, get_or, ◌*ℤ◌}
use Rattle.std.specs.Prelude.{map}
use Rattle.std.proofs.lemmas.List.{map-set, get_or-map, length-map}
use Rattle.numbers.specs.Reduce.{signed, reduce}
use Rattle.numbers.specs.Tile.{get_le, put_le, put_row}
use Rattle.numbers.proofs.TileLaws.{le-cong, put_row-out}
use Rattle.numbers.proofs.ElementLaws.{pow-256, put_row-next}
use Rattle.numbers.proofs.SumLaws.{sum-none, same_sum, same-product, again}
use Rattle.numbers.proofs.PutLaws.{row_fits, next_row}
use Rattle.machine.specs.ArithmeticWords.{product}
use Rattle.unit_element.specs.Element.{Width}
use Rattle.unit_sums.specs.Rows.{signed_le, plus_product, residue_at, plus_times}
use Rattle.unit_sums.proofs.LoopLaws.{set_below, set-above}
use Rattle.unit_sums.proofs.RowLaws.{product-added}

-- element or row j of n, at `from`, ends by the end
pub inside : (at w n j from len : ℕ) → from ≡ at + j * w → j < n → at + n * w ≤ len → from + w ≤ len
inside at w n j from len e l h = omega (arith, row_fits j n w l)

-- ---- mac_row: below j the accumulators have their product, from j on they are as at entry; each is read as its number

abbrev pub Added : ℕ → (acc₀ s : List ℕ) (at w x : ℕ) (acc : List ℕ) (j : ℕ) → Type 0
Added W acc₀ s at w x acc j =
    ((q : ℕ) → q < j → get_or acc q 0 ≡ plus_product W (get_or acc₀ q 0) x s (at + q * w) w)
    × ((q : ℕ) → j ≤ q → get_or acc q 0 ≡ get_or acc₀ q 0)

-- the accumulator after a product with the element y at p, as a residue
pub plus-at : (W : ℕ) (s : List ℕ) (p w r v x y : ℕ) → r ≡ plus_times W v x y → y ≡ residue_at W s p w → r ≡ plus_product W v x s p w
plus-at W s p w r v x y er ey =
    let m = 256 ^ W in
    er ∙ same_sum m (pow-256 W) (signed m v) (signed m v) (signed m x *ℤ signed m y) (signed m x *ℤ signed_le s p w) refl
    (same-product m (pow-256 W) (signed m x) (signed m x) (signed m y) (signed_le s p w) refl
    (ap (λ (y : ℕ). reduce m (signed m y)) ey ∙ again m (pow-256 W) (signed_le s p w)))

pub add-next : {A : Type 0} (number : A → ℕ) (W : ℕ) (acc₀ : List A) (s : List ℕ) (at w x : ℕ) (acc : List A) (j p : ℕ) (r v : A) (y : ℕ)
    → Added W (map number acc₀) s at w x (map number acc) j → j < length acc → p ≡ at + j * w
    → number r ≡ plus_times W (number (get_or acc j v)) x y → y ≡ residue_at W s p w → Added W (map number acc₀) s at w x (map number (set acc j r)) (j + 1)
add-next number W acc₀ s at w x acc j p r v y inv h ep er ey =
    let e : map number (set acc j r) ≡ set (map number acc) j (number r) = map-set number acc j r in
    let l : j < length (map number acc) = simp length-map h in
    rw e (
      set_below 0 (λ q. plus_product W (get_or (map number acc₀) q 0) x s (at + q * w) w) (map number acc) j (number r) l inv.0
          (plus-at W s (at + j * w) w (number r) (get_or (map number acc₀) j 0) x y
          (er ∙ ap (λ (v : ℕ). plus_times W v x y) (sym (get_or-map number acc j v 0 h) ∙ inv.1 j (omega arith)))
          (ey ∙ ap (λ (p : ℕ). residue_at W s p w) ep)),
      set-above 0 (λ q. get_or (map number acc₀) q 0) (map number acc) j (number r) inv.1,
    )

-- ---- the width w is the literal v

pub at_literal : (at n v w len : ℕ) → w ≡ v → at + n * w ≤ len → at + n * v ≤ len
at_literal at n v w len e h = omega (arith, ap (λ (u : ℕ). n * u) e)

-- ---- add_products: each accumulator has its first l products

abbrev pub Summed : (W : ℕ) (s : List ℕ) (a b pitch w n : ℕ) (acc : List ℕ) (l : ℕ) → Type 0
Summed W s a b pitch w n acc l = (q : ℕ) → q < n → get_or acc q 0 ≡ product W w l 0 (λ t. get_le s (a + t * w) w) (λ t. get_le s (b + t * pitch + q * w) w)

module _ (W : ℕ) (s : List ℕ) (a b pitch w n : ℕ) where
  pub sum_first : (acc : List ℕ) → ((q : ℕ) → get_or acc q 0 ≡ 0) → Summed W s a b pitch w n acc 0
  sum_first acc e q h = e q ∙ sum-none (256 ^ W) (pow-256 W) 0 (λ t. signed_le s (a + t * w) w *ℤ signed_le s (b + t * pitch + q * w) w) (pow-256 W)

  pub sum-next : (acc out : List ℕ) (l from x : ℕ) → Summed W s a b pitch w n acc l → from ≡ a + l * w → x ≡ residue_at W s from w
      → ((q : ℕ) → q < n → get_or out q 0 ≡ plus_product W (get_or acc q 0) x s (b + l * pitch + q * w) w) → Summed W s a b pitch w n out (l + 1)
  sum-next acc out l from x inv ef ex eo q i =
      product-added W s w pitch a b q l 0 (get_or acc q 0) x (get_or out q 0) (inv q i) (ex ∙ ap (λ (p : ℕ). residue_at W s p w) ef) (eo q i)

-- ---- finish_row: the first j numbers are stored

abbrev pub Stored : ℕ → (s₀ : List ℕ) (value : ℕ → ℕ) (to n : ℕ) (s : List ℕ) (j at : ℕ) → Type 0
Stored W s₀ value to n s j at = (j ≤ n) × (at ≡ to + j * W) × (length s ≡ length s₀) × (s ≡ put_row to j W value s₀)

module _ (W : ℕ) (s₀ : List ℕ) (value : ℕ → ℕ) (to n : ℕ) where
  pub store-none : Stored W s₀ value to n s₀ 0 to
  unfolding put_row
  store-none = (omega arith, omega (arith, zero-mul W), refl, refl)

  pub store-next : (s out : List ℕ) (j at v : ℕ) → Stored W s₀ value to n s j at → j < n → length out ≡ length s → v ≡ value j → out ≡ put_le at W v s
      → Stored W s₀ value to n out (j + 1) (at + W)
  store-next s out j at v inv h el ev eo = (
    omega arith,
    omega (arith, next_row j W, inv.1),
    el ∙ inv.2,
    put_row-next W s₀ s out value to j at v inv.3 inv.1 ev eo,
  )

  pub store-all : (s : List ℕ) (j at : ℕ) → Stored W s₀ value to n s j at → n ≤ j → s ≡ put_row to n W value s₀
  store-all s j at inv h =
      let e : j ≡ n = omega (arith, inv.0) in
      inv.3 ∙ ap (λ (m : ℕ). put_row to m W value s₀) e

-- the element that is written next is still that of the entry
yet-unwritten : (W : ℕ) (s₀ s : List ℕ) (value : ℕ → ℕ) (to j : ℕ) → s ≡ put_row to j W value s₀ → get_le s (to + j * W) W ≡ get_le s₀ (to + j * W) W
yet-unwritten W s₀ s value to j es =
    ap (λ (x : List ℕ). get_le x (to + j * W) W) es
    ∙ le-cong (put_row to j W value s₀) s₀ (to + j * W) (to + j * W) W (λ b l. put_row-out to j W value s₀ (to + j * W + b) (λ i. omega (arith, i.1)))

-- an element becomes x times itself plus its accumulator v
pub finish-next : (W : ℕ) (s₀ : List ℕ) (acc : List ℕ) (to x : ℕ) (s out : List ℕ) (j at r v y : ℕ)
    → s ≡ put_row to j W (λ q. plus_product W (get_or acc q 0) x s₀ (to + q * W) W) s₀ → at ≡ to + j * W → v ≡ get_or acc j 0
    → r ≡ plus_times W v x y → y ≡ get_le s at W → out ≡ put_le at W r s
    → out ≡ put_row to (j + 1) W (λ q. plus_product W (get_or acc q 0) x s₀ (to + q * W) W) s₀
finish-next W s₀ acc to x s out j at r v y es ea ev er ey eo =
    let value : ℕ → ℕ = λ q. plus_product W (get_or acc q 0) x s₀ (to + q * W) W in
    put_row-next W s₀ s out value to j at r es ea
    (er ∙ ap₂ (λ (v y : ℕ). plus_times W v x y) ev (ey ∙ ap (λ (p : ℕ). get_le s p W) ea ∙ yet-unwritten W s₀ s value to j es)) eo

-- ---- the accumulators before any sum, and the factor 1

pub zeros : {A : Type 0} (number : A → ℕ) (v : A) → number v ≡ 0 → (n size j : ℕ) → get_or (map number (take n (replicate size v))) j 0 ≡ 0
zeros number v e zero size j = refl
zeros number v e (suc n) zero j = refl
zeros number v e (suc n) (suc size) zero = e
zeros number v e (suc n) (suc size) (suc j) = zeros number v e n size j

pub above-one : (w : ℕ) → Width w → 1 < 256 ^ w
above-one w h = let p : 256 ^ 1 ≤ 256 ^ w = pow-le-pow_right (omega arith) some in omega arith
  where
    some : 1 ≤ w
    some = ⊎_elim (λ e. omega arith) (λ h. ⊎_elim (λ e. omega arith) (λ h. ⊎_elim (λ e. omega arith) (λ e. omega arith) h) h) h
