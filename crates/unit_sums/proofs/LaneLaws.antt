-- The loops over sums that stand side by side, a lane each, and over values of B that were fetched before: once over the values' type, the
-- bytes of an element and the number of lanes. What holds in each turn, at its start, after one turn more, and at its end.
use Rattle.numbers.proofs.Kit.{◌≡◌, refl, sym, ap, ap₂, ◌∙◌, List, ℕ, ◌+◌, ◌*◌, ◌≤◌, ◌<◌, zero-mul, arith, length, set, get_or, length-set, get_or-set_same}
use Rattle.numbers.proofs.Kit.{get_or-set_other}
use Rattle.std.proofs.Common.{below_more}
use Rattle.numbers.proofs.PutLaws.{row_fits, next_row}
use Rattle.unit_sums.proofs.LoopLaws.{set_below, set-above}

-- past the last value there is x; the element of w bytes at p has the value `value p`
module _ {A : Type 0} (x : A) (value : ℕ → A) (w : ℕ) where
  -- ---- fetch_row: the first j values stand from `to` on, and those before it are as at entry

  abbrev pub Fetched : (d₀ : List A) (to at n : ℕ) (d : List A) (j from : ℕ) → Type 0
  Fetched d₀ to at n d j from =
      (j ≤ n) × (from ≡ at + j * w) × (length d ≡ length d₀)
      × ((q : ℕ) → q < j → get_or d (to + q) x ≡ value (at + q * w))
      × ((i : ℕ) → i < to → get_or d i x ≡ get_or d₀ i x)

  module _ (d₀ : List A) (to at n : ℕ) where
    pub fetch-none : Fetched d₀ to at n d₀ 0 at
    fetch-none = (omega arith, omega (arith, zero-mul w), refl, λ q h. absurd (omega arith), λ i h. refl)

    pub fetch-next : (d : List A) (j from : ℕ) (v : A) → Fetched d₀ to at n d j from → j < n → to + n ≤ length d₀ → v ≡ value from
        → Fetched d₀ to at n (set d (to + j) v) (j + 1) (from + w)
    fetch-next d j from v inv h room ev = (
      omega arith,
      omega (arith, next_row j w, inv.1),
      simp length-set inv.2,
      below_more (λ q. get_or (set d (to + j) v) (to + q) x ≡ value (at + q * w)) j
          (λ q l. get_or-set_other d (to + j) (to + q) v x (λ e. omega arith) ∙ inv.3 q l)
          (get_or-set_same d (to + j) v x (omega (arith, inv.2)) ∙ ev ∙ ap value inv.1),
      λ i l. get_or-set_other d (to + j) i v x (λ e. omega arith) ∙ inv.4 i l,
    )

  -- ---- fetch_tile: the rows below l are fetched, each to its own lanes

  abbrev pub TileFetched : (lanes : ℕ) (d₀ : List A) (b pitch k n : ℕ) (d : List A) (l row to : ℕ) → Type 0
  TileFetched lanes d₀ b pitch k n d l row to =
      (l ≤ k) × (row ≡ b + l * pitch) × (to ≡ l * lanes) × (length d ≡ length d₀)
      × ((t j : ℕ) → t < l → j < n → get_or d (t * lanes + j) x ≡ value (b + t * pitch + j * w))

  module _ (lanes : ℕ) (d₀ : List A) (b pitch k n : ℕ) where
    pub tile-none : TileFetched lanes d₀ b pitch k n d₀ 0 b 0
    tile-none = (omega arith, omega (arith, zero-mul pitch), omega (arith, zero-mul lanes), refl, λ t j h. absurd (omega arith))

    pub tile-next : (d out : List A) (l row to : ℕ) → TileFetched lanes d₀ b pitch k n d l row to → l < k → n ≤ lanes → length out ≡ length d
        → ((j : ℕ) → j < n → get_or out (to + j) x ≡ value (row + j * w)) → ((i : ℕ) → i < to → get_or out i x ≡ get_or d i x)
        → TileFetched lanes d₀ b pitch k n out (l + 1) (row + pitch) (to + lanes)
    tile-next d out l row to inv h narrow el here before = (
      omega arith,
      omega (arith, next_row l pitch, inv.1),
      omega (arith, next_row l lanes, inv.2),
      el ∙ inv.3,
      λ t j g. below_more (λ t. (j : ℕ) → j < n → get_or out (t * lanes + j) x ≡ value (b + t * pitch + j * w)) l
          (λ t g j i. before (t * lanes + j) (omega (arith, inv.2, earlier t g)) ∙ inv.4 t j g i)
          (λ j i. ap (λ (p : ℕ). get_or out (p + j) x) (sym inv.2) ∙ here j i ∙ ap (λ (p : ℕ). value (p + j * w)) inv.1) t g j,
    )
      where
        earlier : (t : ℕ) → t < l → t * lanes + lanes ≤ l * lanes
        earlier t g = row_fits t l lanes g

-- one product more is `plus`
module _ {A : Type 0} (x : A) (plus : A → A → A → A) (lanes : ℕ) where
  -- ---- mac_row: below j the sums have their product, from j on they are as at entry

  abbrev pub Added : (sums₀ d : List A) (at : ℕ) (v : A) (sums : List A) (j : ℕ) → Type 0
  Added sums₀ d at v sums j =
      (j ≤ lanes) × (length sums ≡ length sums₀)
      × ((q : ℕ) → q < j → get_or sums q x ≡ plus (get_or sums₀ q x) v (get_or d (at + q) x))
      × ((q : ℕ) → j ≤ q → get_or sums q x ≡ get_or sums₀ q x)

  module _ (sums₀ d : List A) (at : ℕ) (v : A) where
    pub add_none : Added sums₀ d at v sums₀ 0
    add_none = (omega arith, refl, λ q h. absurd (omega arith), λ q h. refl)

    pub add-next : (sums : List A) (j : ℕ) (r : A) → Added sums₀ d at v sums j → j < lanes → lanes ≤ length sums₀
        → r ≡ plus (get_or sums j x) v (get_or d (at + j) x) → Added sums₀ d at v (set sums j r) (j + 1)
    add-next sums j r inv h room er = (
      omega arith,
      simp length-set inv.1,
      set_below x (λ q. plus (get_or sums₀ q x) v (get_or d (at + q) x)) sums j r (omega (arith, inv.1)) inv.2
          (er ∙ ap (λ (o : A). plus o v (get_or d (at + j) x)) (inv.3 j (omega arith))),
      set-above x (λ q. get_or sums₀ q x) sums j r inv.3,
    )

  -- ---- add_products: each sum has its first l products; a sum from v on is `total v`

  module _ (value : ℕ → A) (w : ℕ) (total : A → ℕ → (ℕ → A) → (ℕ → A) → A) where
    abbrev pub Summed : (sums₀ d : List A) (a k : ℕ) (sums : List A) (l from row : ℕ) → Type 0
    Summed sums₀ d a k sums l from row =
        (l ≤ k) × (from ≡ a + l * w) × (row ≡ l * lanes) × (length sums ≡ length sums₀)
        × ((j : ℕ) → j < lanes → get_or sums j x ≡ total (get_or sums₀ j x) l (λ t. value (a + t * w)) (λ t. get_or d (t * lanes + j) x))

    module _ (sums₀ d : List A) (a k : ℕ) where
      pub sum-none : ((q : ℕ) (f g : ℕ → A) → get_or sums₀ q x ≡ total (get_or sums₀ q x) 0 f g) → Summed sums₀ d a k sums₀ 0 a 0
      sum-none none = (omega arith, omega (arith, zero-mul w), omega (arith, zero-mul lanes), refl, λ j h. none j (λ t. value (a + t * w)) (λ t. get_or d (t * lanes + j) x))

      pub sum-next : ((v : A) (l : ℕ) (f g : ℕ → A) → plus (total v l f g) (f l) (g l) ≡ total v (l + 1) f g)
          → (sums out : List A) (l from row : ℕ) (y : A) → Summed sums₀ d a k sums l from row → l < k → length out ≡ length sums → y ≡ value from
          → ((j : ℕ) → j < lanes → get_or out j x ≡ plus (get_or sums j x) y (get_or d (row + j) x))
          → Summed sums₀ d a k out (l + 1) (from + w) (row + lanes)
      sum-next more sums out l from row y inv h el ey eo = (
        omega arith,
        omega (arith, next_row l w, inv.1),
        omega (arith, next_row l lanes, inv.2),
        el ∙ inv.3,
        λ j i. eo j i
            ∙ ap₂ (λ (u z : A). plus u z (get_or d (row + j) x)) (inv.4 j i) (ey ∙ ap value inv.1)
            ∙ ap (λ (p : ℕ). plus (total (get_or sums₀ j x) l (λ t. value (a + t * w)) (λ t. get_or d (t * lanes + j) x)) (value (a + l * w)) (get_or d (p + j) x)) inv.2
            ∙ more (get_or sums₀ j x) l (λ t. value (a + t * w)) (λ t. get_or d (t * lanes + j) x),
      )

      pub sum-all : (sums : List A) (l from row : ℕ) → Summed sums₀ d a k sums l from row → k ≤ l
          → (j : ℕ) → j < lanes → get_or sums j x ≡ total (get_or sums₀ j x) k (λ t. value (a + t * w)) (λ t. get_or d (t * lanes + j) x)
      sum-all sums l from row inv h j i =
          let e : l ≡ k = omega (arith, inv.0) in
          inv.4 j i ∙ ap (λ (m : ℕ). total (get_or sums₀ j x) m (λ t. value (a + t * w)) (λ t. get_or d (t * lanes + j) x)) e
