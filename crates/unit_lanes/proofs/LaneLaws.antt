-- Lists of values of a type, read as numbers: what holds after one turn more of a loop over lanes, and rows that are stored.
use Rattle.numbers.proofs.Kit.{◌≡◌, refl, sym, ap, ap₂, ◌∙◌, ◌⊎◌, ⊎_elim, inr, List, ℕ, zero, suc, ◌+◌, ◌*◌, ◌%◌, ◌^◌, ◌≤◌, ◌<◌, arith, length, set, get_or}
use Rattle.numbers.proofs.Kit.{get_or-set_same, get_or-set_other, mod-eq_of_lt, zero-mul, add-zero, min, ◌-◌, ltb, ltb-true, ltb-false, Bool, true, false, replicate, ◌+ℤ◌, ◌*ℤ◌, zero-add}
use Rattle.std.specs.Prelude.{map}
use Rattle.std.proofs.lemmas.List.{get_or-map, map-set, length-map}
use Rattle.std.proofs.Common.{below_more}
use Rattle.numbers.specs.Reduce.{reduce, signed, sumℤ}
use Rattle.numbers.specs.Tile.{put_row}
use Rattle.numbers.proofs.PutLaws.{row_fits, put_row-low}
use Rattle.numbers.proofs.ElementLaws.{pow-256, cut}
use Rattle.numbers.proofs.ReduceLaws.{reduce-lt, reduce-signed, reduce-add, reduce-mul}
use Rattle.std.proofs.Math.Nat.{zero-mod}
use Rattle.unit_sums.proofs.RowLaws.{times_more}
use Rattle.machine.specs.ArithmeticWords.{product}
use Rattle.unit_sums.specs.Rows.{plus_times}
use Rattle.unit_sums.proofs.LoopLaws.{set_below, set-above}

-- the number of an element that was read
pub numbered : {A : Type 0} (number : A → ℕ) (xs : List A) (i : ℕ) (r : A) → r ≡ get_or xs i r → i < length xs → number r ≡ get_or (map number xs) i 0
numbered number xs i r e h = ap number e ∙ sym (get_or-map number xs i r 0 h)

-- ---- fetch_row: the first j values stand from `to` on, and what stands before them or after all n is as at entry

abbrev pub Fetched : (value : ℕ → ℕ) (d₀ : List ℕ) (to n : ℕ) (d : List ℕ) (j : ℕ) → Type 0
Fetched value d₀ to n d j =
    ((q : ℕ) → q < j → get_or d (to + q) 0 ≡ value q) × ((i : ℕ) → (i < to) ⊎ (to + n ≤ i) → get_or d i 0 ≡ get_or d₀ i 0)

pub fetch-next : {A : Type 0} (number : A → ℕ) (value : ℕ → ℕ) (d₀ : List ℕ) (to n : ℕ) (d : List A) (j : ℕ) (r : A)
    → Fetched value d₀ to n (map number d) j → j < n → to + n ≤ length d → number r ≡ value j → Fetched value d₀ to n (map number (set d (to + j) r)) (j + 1)
fetch-next number value d₀ to n d j r inv h room er =
    let e : map number (set d (to + j) r) ≡ set (map number d) (to + j) (number r) = map-set number d (to + j) r in
    let l : to + j < length (map number d) = simp length-map (omega arith) in
    rw e (
      below_more (λ q. get_or (set (map number d) (to + j) (number r)) (to + q) 0 ≡ value q) j
          (λ q k. get_or-set_other (map number d) (to + j) (to + q) (number r) 0 (λ e. omega arith) ∙ inv.0 q k)
          (get_or-set_same (map number d) (to + j) (number r) 0 l ∙ er),
      λ i k. get_or-set_other (map number d) (to + j) i (number r) 0 (λ e. ⊎_elim (λ g. omega arith) (λ g. omega arith) k) ∙ inv.1 i k,
    )

-- ---- fetch_tile: the rows below l are fetched, each to its own lanes

pub tile-next : (value : ℕ → ℕ → ℕ) (lanes n : ℕ) (d out : List ℕ) (l : ℕ) → n ≤ lanes
    → ((t j : ℕ) → t < l → j < n → get_or d (t * lanes + j) 0 ≡ value t j)
    → ((j : ℕ) → j < n → get_or out (l * lanes + j) 0 ≡ value l j) → ((i : ℕ) → i < l * lanes → get_or out i 0 ≡ get_or d i 0)
    → (t j : ℕ) → t < l + 1 → j < n → get_or out (t * lanes + j) 0 ≡ value t j
tile-next value lanes n d out l narrow all here before t j g =
    below_more (λ t. (j : ℕ) → j < n → get_or out (t * lanes + j) 0 ≡ value t j) l
    (λ t g j i. before (t * lanes + j) (omega (arith, row_fits t l lanes g)) ∙ all t j g i) here t g j

-- ---- mac_terms: below j the sums have their value, from j on they are as at entry

abbrev pub Summed : (value : ℕ → ℕ) (sums₀ sums : List ℕ) (j : ℕ) → Type 0
Summed value sums₀ sums j = ((q : ℕ) → q < j → get_or sums q 0 ≡ value q) × ((q : ℕ) → j ≤ q → get_or sums q 0 ≡ get_or sums₀ q 0)

pub summed-next : {A : Type 0} (number : A → ℕ) (value : ℕ → ℕ) (sums₀ : List ℕ) (sums : List A) (j : ℕ) (r : A)
    → Summed value sums₀ (map number sums) j → j < length sums → number r ≡ value j → Summed value sums₀ (map number (set sums j r)) (j + 1)
summed-next number value sums₀ sums j r inv h er =
    let e : map number (set sums j r) ≡ set (map number sums) j (number r) = map-set number sums j r in
    let l : j < length (map number sums) = simp length-map h in
    rw e (
      set_below 0 value (map number sums) j (number r) l inv.0 er,
      set-above 0 (λ q. get_or sums₀ q 0) (map number sums) j (number r) inv.1,
    )

-- ---- mac_two: below j the sums have their product, from j on they are as at entry

abbrev pub Added : (W : ℕ) (sums₀ d : List ℕ) (at x : ℕ) (sums : List ℕ) (j : ℕ) → Type 0
Added W sums₀ d at x sums j =
    ((q : ℕ) → q < j → get_or sums q 0 ≡ plus_times W (get_or sums₀ q 0) x (get_or d (at + q) 0)) × ((q : ℕ) → j ≤ q → get_or sums q 0 ≡ get_or sums₀ q 0)

pub add-next : {A : Type 0} (number : A → ℕ) (W : ℕ) (sums₀ d : List ℕ) (at x : ℕ) (sums : List A) (j : ℕ) (r v : A) (y : ℕ)
    → Added W sums₀ d at x (map number sums) j → j < length sums → number r ≡ plus_times W (number v) x y → v ≡ get_or sums j v → y ≡ get_or d (at + j) 0
    → Added W sums₀ d at x (map number (set sums j r)) (j + 1)
add-next number W sums₀ d at x sums j r v y inv h er ev ey =
    summed-next number (λ q. plus_times W (get_or sums₀ q 0) x (get_or d (at + q) 0)) sums₀ sums j r inv h
    (er ∙ ap₂ (λ (v y : ℕ). plus_times W v x y) (numbered number sums j v ev h ∙ inv.1 j (omega arith)) ey)

-- ---- old_row: residues, and zeros after them

pub in_range-of : {A : Type 0} (number : A → ℕ) (m : ℕ) (x : A) (lanes n : ℕ) (value : ℕ → ℕ) (d : List ℕ) → 0 < m → number x ≡ 0
    → ((j : ℕ) → value j < m) → Fetched value (map number (replicate lanes x)) 0 n d n → (j : ℕ) → get_or d j 0 < m
in_range-of number m x lanes n value d pos z small inv j = by_cases (ltb j n) refl
  where
    none : (lanes j : ℕ) → get_or (map number (replicate lanes x)) j 0 ≡ 0
    none zero j = refl
    none (suc l) zero = z
    none (suc l) (suc j) = none l j

    by_cases : (t : Bool) → ltb j n ≡ t → get_or d j 0 < m
    by_cases true t =
        let e : get_or d j 0 ≡ value j = ap (λ (p : ℕ). get_or d p 0) (sym (zero-add j)) ∙ inv.0 j (ltb-true j n t) in
        rw e (small j)
    by_cases false t = let k = ltb-false j n t in rw (inv.1 j (inr (omega arith)) ∙ none lanes j) pos

-- ---- a sum of products fits W bytes

pub product-lt : (W k old : ℕ) (f g : ℕ → ℕ) (v : ℕ) → v ≡ product W W k old f g → v < 256 ^ W
product-lt W k old f g v e =
    rw e (reduce-lt (256 ^ W) (pow-256 W) (signed (256 ^ W) old +ℤ sumℤ k (λ l. signed (256 ^ W) (f l) *ℤ signed (256 ^ W) (g l))))

-- ---- add_products: two terms more, or the last and none

pub none_times : (W v y : ℕ) → v < 256 ^ W → plus_times W v 0 y ≡ v
none_times W v y h =
    let m = 256 ^ W in
    let p = pow-256 W in
    reduce-add m p (signed m v) (signed m 0 *ℤ signed m y)
    ∙ ap₂ (λ (a b : ℕ). (a + b) % m) (reduce-signed m p v h)
    (reduce-mul m p (signed m 0) (signed m y) ∙ ap (λ (a : ℕ). (a * reduce m (signed m y)) % m) (reduce-signed m p 0 p)
    ∙ ap (λ (a : ℕ). a % m) (zero-mul (reduce m (signed m y))) ∙ zero-mod m)
    ∙ ap (λ (a : ℕ). a % m) (add-zero v) ∙ mod-eq_of_lt h

pub terms-next : (W old k l next u x y r : ℕ) (f g : ℕ → ℕ) → l < k → next ≡ min (l + 1) (k - 1) → u ≡ product W W l old f g → x ≡ f l
    → (l + 1 < k → y ≡ f (l + 1)) → (k ≤ l + 1 → y ≡ 0) → r ≡ plus_times W (plus_times W u x (g l)) y (g next) → r ≡ product W W (min (l + 2) k) old f g
terms-next W old k l next u x y r f g h en eu ex more last er = by_cases (ltb (l + 1) k) refl
  where
    one : plus_times W u x (g l) ≡ product W W (l + 1) old f g
    one = ap₂ (λ (u x : ℕ). plus_times W u x (g l)) eu ex ∙ times_more W old l f g

    by_cases : (t : Bool) → ltb (l + 1) k ≡ t → r ≡ product W W (min (l + 2) k) old f g
    by_cases true t =
        let i = ltb-true (l + 1) k t in
        let n : next ≡ l + 1 = omega (arith, en) in
        let e : min (l + 2) k ≡ l + 1 + 1 = omega arith in
        rw e (er ∙ ap₂ (λ (u y : ℕ). plus_times W u y (g next)) one (more i) ∙ ap (λ (n : ℕ). plus_times W (product W W (l + 1) old f g) (f (l + 1)) (g n)) n ∙ times_more W old (l + 1) f g)
    by_cases false t =
        let i = ltb-false (l + 1) k t in
        let e : min (l + 2) k ≡ l + 1 = omega (arith, h) in
        rw e (er ∙ ap₂ (λ (u y : ℕ). plus_times W u y (g next)) one (last i)
        ∙ none_times W (product W W (l + 1) old f g) (g next) (product-lt W (l + 1) old f g (product W W (l + 1) old f g) refl))

-- ---- store_row: sums at W bytes, stored at `wide`, are stored by their low bytes

pub row-low : (W wide c n : ℕ) (v : ℕ → ℕ) (s : List ℕ) → wide ≤ W → ((j : ℕ) → j < n → v j < 256 ^ W)
    → put_row c n wide (λ j. reduce (256 ^ wide) (signed (256 ^ W) (v j))) s ≡ put_row c n wide v s
row-low W wide c n v s h small =
    put_row-low wide c n (λ j. reduce (256 ^ wide) (signed (256 ^ W) (v j))) v s
    (λ j l. mod-eq_of_lt (reduce-lt (256 ^ wide) (pow-256 wide) (signed (256 ^ W) (v j)))
    ∙ sym (cut wide W h (signed (256 ^ W) (v j))) ∙ ap (λ (u : ℕ). u % 256 ^ wide) (reduce-signed (256 ^ W) (pow-256 W) (v j) (small j l)))
