-- Weighted sums: rows written one after another hold the values that every element had at entry, and the whole is the element-wise instructions.
use Rattle.numbers.proofs.Kit.{◌≡◌, refl, sym, ap, ap₂, ◌∙◌, subst, ◌⊎◌, inl, inr, List, ℕ, zero, suc, ◌+◌, ◌*◌, ◌-◌, ◌%◌, ◌^◌, ◌≤◌, ◌<◌, mul-le-mul_right}
use Rattle.numbers.proofs.Kit.{mul-le-mul_left, arith, length, get_or, ℤ, one, pos, negsuc, neg_ℤ, ◌+ℤ◌, ◌*ℤ◌, *ℤ-one, zero-*ℤ, *ℤ-negsuc, *ℤ_comm, +ℤ_comm}
use Rattle.numbers.proofs.Kit.{+ℤ_idl}
use Rattle.numbers.specs.Reduce.{signed, reduce}
use Rattle.numbers.specs.Tile.{get_le, byte_of, In, put_row}
use Rattle.numbers.proofs.TileLaws.{le-cong, length-put_row, put_row-out, put_row-at}
use Rattle.numbers.proofs.ElementLaws.{pow-256, cut, still, tile-turn, put_row-cong}
use Rattle.numbers.proofs.BlockLaws.{le-or-lt}
use Rattle.numbers.proofs.PutLaws.{put_tile-low}
use Rattle.numbers.proofs.SumLaws.{again, same_sum, same-product}
use Rattle.machine.specs.declared.Sum.{Sum}
use Rattle.machine.specs.declared.Sum.TheVariants.{Add, Subtract, ReverseSubtract}
use Rattle.machine.specs.Geometry.{Parameters, acc_at}
use Rattle.machine.specs.ArithmeticWords.{sum_of, sum_at, scaled_at}
use Rattle.unit_arithmetic.specs.Effect.{shape, combine_tile, scale_tile}
use Rattle.unit_arithmetic.specs.Weights.{weight_d, weight_a, weighed, weighted_tile, Aligned}
use Rattle.unit_arithmetic.specs.declared.weights.Weights.{Weights}
use Rattle.unit_arithmetic.proofs.BlockLaws.{tile-ext}
use Rattle.unit_sums.specs.Rows.{signed_le, weighted_row}

-- ---- a turn over the rows of two accumulators, or twice the same

-- a row does not meet an earlier row of the tile that is written
acc-apart : (rows pitch d a i k : ℕ) → d < 2 → a < 2 → k < i → i < rows → (v n : ℕ) → v ≤ 4 * pitch → n ≤ 4 * pitch
    → (q : ℕ) → In (acc_at (shape rows pitch) a i) v q → (In (acc_at (shape rows pitch) d k) n q → ⊥)
acc-apart rows pitch d a i k ld la lk li v n hv hn q x y = go (le-or-lt a d) (le-or-lt d a)
  where
    z : ℕ
    z = rows * pitch

    hi : suc i * (4 * pitch) ≤ rows * (4 * pitch)
    hi = mul-le-mul_right (4 * pitch) li

    hk : suc k * (4 * pitch) ≤ i * (4 * pitch)
    hk = mul-le-mul_right (4 * pitch) lk

    go : (a ≤ d) ⊎ (d < a) → (d ≤ a) ⊎ (a < d) → ⊥
    go (inl h) (inl g) =
        let e : a ≡ d = omega arith in
        let f : a * z ≡ d * z = ap (λ (t : ℕ). t * z) e in
        omega (arith, hi, hk, f)
    go (inl h) (inr g) = omega (arith, hi, hk, mul-le-mul_right z g)
    go (inr h) _ = omega (arith, hi, hk, mul-le-mul_right z h)

pub weighted-turn : (rows pitch w cw d a x y m n i from to : ℕ) (s r out : List ℕ) → d < 2 → a < 2 → m ≤ rows → i < m
    → n * w ≤ 4 * pitch → n * cw ≤ 4 * pitch → r ≡ weighted_tile (shape rows pitch) cw w d a x y i n s
    → from ≡ acc_at (shape rows pitch) a i → to ≡ acc_at (shape rows pitch) d i
    → out ≡ put_row to n cw (weighted_row r from to w cw x y) r → out ≡ weighted_tile (shape rows pitch) cw w d a x y (i + 1) n s
unfolding weighted_tile
weighted-turn rows pitch w cw d a x y m n i from to s r out ld la lm li hw hcw er ef et eo =
    tile-turn (acc_at M d) n cw value s r i er to (weighted_row r from to w cw x y) out et eo
    (λ j l. ap₂ (λ (p q : ℕ). weighted_row r p q w cw x y j) ef et
    ∙ ap₂ (λ (D A : ℤ). reduce (256 ^ cw) (signed (256 ^ cw) x *ℤ D +ℤ signed (256 ^ cw) y *ℤ A)) (same d ld cw hcw j l) (same a la w hw j l))
  where
    M : Parameters
    M = shape rows pitch

    value : ℕ → ℕ → ℕ
    value k = weighted_row s (acc_at M a k) (acc_at M d k) w cw x y

    same : (b : ℕ) → b < 2 → (v : ℕ) → n * v ≤ 4 * pitch → (j : ℕ) → j < n → signed_le r (acc_at M b i + j * v) v ≡ signed_le s (acc_at M b i + j * v) v
    same b lb v hv j l =
        ap (signed (256 ^ v)) (still (acc_at M d) n cw value s r i er (acc_at M b i + j * v) v
        (λ k lk q hq. acc-apart rows pitch d b i k ld lb lk (omega arith) (n * v) (n * cw) hv hcw q (omega (arith, hq, mul-le-mul_right v l))))

-- ---- a row in blocks of columns, from the last on

-- its last columns, then those before them
row_before : (p o n w : ℕ) (v : ℕ → ℕ) (s : List ℕ) → p + (o + n) * w ≤ length s
    → put_row p o w v (put_row (p + o * w) n w (λ t. v (o + t)) s) ≡ put_row p (o + n) w v s
row_before p o n w v s room =
    tile-ext (λ i. p) 1 (o + n) w left (put_row p (o + n) w v s) (length-put_row p o w v r ∙ el ∙ sym (length-put_row p (o + n) w v s))
    (λ i j b li lj lb. inside j b lj lb (le-or-lt o j))
    (λ q f. put_row-out p o w v r q (λ x. f 0 (omega arith) (omega (arith, x))) ∙ put_row-out (p + o * w) n w v' s q (λ x. f 0 (omega arith) (omega (arith, x)))
    ∙ sym (put_row-out p (o + n) w v s q (f 0 (omega arith))))
  where
    v' : ℕ → ℕ
    v' t = v (o + t)

    r : List ℕ
    r = put_row (p + o * w) n w v' s

    left : List ℕ
    left = put_row p o w v r

    el : length r ≡ length s
    el = length-put_row (p + o * w) n w v' s

    inside : (j b : ℕ) → j < o + n → b < w → (o ≤ j) ⊎ (j < o) → get_or left (p + j * w + b) 0 ≡ get_or (put_row p (o + n) w v s) (p + j * w + b) 0
    inside j b lj lb h = before h ∙ sym (put_row-at p (o + n) w v s room j lj b lb)
      where
        before : (o ≤ j) ⊎ (j < o) → get_or left (p + j * w + b) 0 ≡ byte_of (v j) b
        before (inr l) = put_row-at p o w v r (omega (arith, el)) j l b lb
        before (inl l) =
            let t : ℕ = j - o in
            let et : o + t ≡ j = omega arith in
            let e : p + o * w + t * w + b ≡ p + j * w + b = omega (arith, ap (λ (u : ℕ). u * w) et) in
            put_row-out p o w v r (p + j * w + b) (λ x. omega (arith, x, mul-le-mul_right w l))
            ∙ subst (λ (q : ℕ). get_or r q 0 ≡ byte_of (v j) b) e (put_row-at (p + o * w) n w v' s (omega arith) t (omega arith) b lb ∙ ap (λ (u : ℕ). byte_of (v u) b) et)

-- from column j on, the row at `to` has its weighted sums
abbrev pub weighed_from : Weights → List ℕ → (from to n j : ℕ) → List ℕ
weighed_from w s from to n j = put_row (to + j * w.wide) (n - j) w.wide (λ t. weighed w s from to (j + t)) s

-- it has them from column j on, and one block more before it
pub block-turn : (from to w cw x y n j o : ℕ) (s r out : List ℕ) → w ≤ cw → j + o ≤ n → to + n * cw ≤ length s → Aligned from to (n * w) (n * cw)
    → r ≡ put_row (to + (j + o) * cw) (n - (j + o)) cw (λ t. weighted_row s from to w cw x y (j + o + t)) s
    → out ≡ put_row (to + j * cw) o cw (weighted_row r (from + j * w) (to + j * cw) w cw x y) r
    → out ≡ put_row (to + j * cw) (n - j) cw (λ t. weighted_row s from to w cw x y (j + t)) s
block-turn from to w cw x y n j o s r out wider h room aligned er eo =
    let m : ℕ = n - (j + o) in
    let em : o + m ≡ n - j = omega arith in
    let whole : (j + (o + m)) * cw ≡ n * cw = ap (λ (t : ℕ). t * cw) (omega (arith, h)) in
    eo ∙ put_row-cong cw (to + j * cw) o (weighted_row r (from + j * w) (to + j * cw) w cw x y) value r same
    ∙ ap (put_row (to + j * cw) o cw value) (er ∙ ap₂ (λ (p : ℕ) (f : ℕ → ℕ). put_row p m cw f s) (omega arith) refl
    ∙ put_row-cong cw (to + j * cw + o * cw) m (λ t. weighted_row s from to w cw x y (j + o + t)) (λ t. value (o + t)) s (λ t l. ap (weighted_row s from to w cw x y) (omega arith)))
    ∙ row_before (to + j * cw) o m cw value s (omega (arith, whole)) ∙ ap (λ (t : ℕ). put_row (to + j * cw) t cw value s) em
  where
    value : ℕ → ℕ
    value t = weighted_row s from to w cw x y (j + t)

    -- what a block reads was not written
    kept : (p v : ℕ) → (p + v ≤ to + (j + o) * cw) ⊎ (to + n * cw ≤ p) → get_le r p v ≡ get_le s p v
    kept p v g = le-cong r s p p v (λ b l. ap (λ (l : List ℕ). get_or l (p + b) 0) er
        ∙ put_row-out (to + (j + o) * cw) (n - (j + o)) cw (λ t. weighted_row s from to w cw x y (j + o + t)) s (p + b) (outside b l g))
      where
        rest : (j + o) * cw + (n - (j + o)) * cw ≡ n * cw
        rest = let e : (j + o + (n - (j + o))) * cw ≡ n * cw = ap (λ (t : ℕ). t * cw) (omega arith) in omega arith

        outside : (b : ℕ) → b < v → (p + v ≤ to + (j + o) * cw) ⊎ (to + n * cw ≤ p) → ¬ In (to + (j + o) * cw) ((n - (j + o)) * cw) (p + b)
        outside b l (inl g) x = omega (arith, x)
        outside b l (inr g) x = omega (arith, x, rest)

    source : (t : ℕ) → t < o → (from + j * w + t * w + w ≤ to + (j + o) * cw) ⊎ (to + n * cw ≤ from + j * w + t * w)
    source t l = go aligned
      where
        z : suc t * w ≤ o * w
        z = mul-le-mul_right w l

        go : Aligned from to (n * w) (n * cw) → (from + j * w + t * w + w ≤ to + (j + o) * cw) ⊎ (to + n * cw ≤ from + j * w + t * w)
        go (inl e) = let y : (j + o) * w ≤ (j + o) * cw = mul-le-mul_left (j + o) wider in inl (omega (arith, z))
        go (inr (inl e)) = let y : (j + o) * w ≤ n * w = mul-le-mul_right w h in inl (omega (arith, z))
        go (inr (inr e)) = inr (omega arith)

    same : (t : ℕ) → t < o → weighted_row r (from + j * w) (to + j * cw) w cw x y t ≡ value t
    same t l =
        ap₂ (λ (d a : ℕ). reduce (256 ^ cw) (signed (256 ^ cw) x *ℤ signed (256 ^ cw) d +ℤ signed (256 ^ cw) y *ℤ signed (256 ^ w) a))
        (kept (to + j * cw + t * cw) cw (inl (omega (arith, mul-le-mul_right cw l))) ∙ ap (λ (p : ℕ). get_le s p cw) (omega arith))
        (kept (from + j * w + t * w) w (source t l) ∙ ap (λ (p : ℕ). get_le s p w) (omega arith))

-- rows of accumulators are aligned
pub acc-aligned : (rows pitch d a i n o : ℕ) → d < 2 → a < 2 → i < rows → n ≤ 4 * pitch → o ≤ 4 * pitch
    → Aligned (acc_at (shape rows pitch) a i) (acc_at (shape rows pitch) d i) n o
acc-aligned rows pitch d a i n o ld la li hn ho = go (le-or-lt a d) (le-or-lt d a)
  where
    z : ℕ
    z = rows * pitch

    some : suc i * pitch ≤ z
    some = mul-le-mul_right pitch li

    go : (a ≤ d) ⊎ (d < a) → (d ≤ a) ⊎ (a < d) → Aligned (acc_at (shape rows pitch) a i) (acc_at (shape rows pitch) d i) n o
    go (inl h) (inl g) = let e : a ≡ d = omega arith in inl (ap (λ (t : ℕ). acc_at (shape rows pitch) t i) e)
    go (inl h) (inr g) = inr (inl (omega (arith, some, mul-le-mul_right z g)))
    go (inr h) _ = inr (inr (omega (arith, some, mul-le-mul_right z h)))

-- ---- the element-wise instructions

once : (z : ℤ) → pos 1 *ℤ z ≡ z
unfolding one
once z = *ℤ_comm (pos 1) z ∙ *ℤ-one z

minus : (z : ℤ) → negsuc 0 *ℤ z ≡ neg_ℤ z
unfolding one
minus z = *ℤ_comm (negsuc 0) z ∙ *ℤ-negsuc z 0 ∙ ap neg_ℤ (*ℤ-one z)

sum-weights : (o : Sum) (d a : ℤ) → weight_d o *ℤ d +ℤ weight_a o *ℤ a ≡ sum_of o d a
sum-weights Add d a = ap₂ ◌+ℤ◌ (once d) (once a)
sum-weights Subtract d a = ap₂ ◌+ℤ◌ (once d) (minus a)
sum-weights ReverseSubtract d a = ap₂ ◌+ℤ◌ (minus d) (once a) ∙ +ℤ_comm (neg_ℤ d) a

-- the weights 0 and the residue y of z
scaled : (m : ℕ) → zero < m → (D A z : ℤ) (x y : ℕ) → x ≡ reduce m (pos 0) → y ≡ reduce m z → reduce m (signed m x *ℤ D +ℤ signed m y *ℤ A) ≡ reduce m (A *ℤ z)
scaled m h D A z x y ex ey =
    same_sum m h (signed m x *ℤ D) (pos 0) (signed m y *ℤ A) (A *ℤ z)
    (same-product m h (signed m x) (pos 0) D D (ap (λ (x : ℕ). reduce m (signed m x)) ex ∙ again m h (pos 0)) refl ∙ ap (reduce m) (zero-*ℤ D))
    (same-product m h (signed m y) z A A (ap (λ (y : ℕ). reduce m (signed m y)) ey ∙ again m h z) refl ∙ ap (reduce m) (*ℤ_comm z A))
    ∙ ap (reduce m) (+ℤ_idl (A *ℤ z))

module _ (M : Parameters) (w cw d a m n : ℕ) (s : List ℕ) where
  abbrev md : ℕ → ℕ → ℤ
  md i j = signed_le s (acc_at M d i + j * cw) cw

  abbrev ms1 : ℕ → ℕ → ℤ
  ms1 i j = signed_le s (acc_at M a i + j * w) w

  pub combine-is : (o : Sum) (x y : ℕ) → signed (256 ^ cw) x ≡ weight_d o → signed (256 ^ cw) y ≡ weight_a o
      → weighted_tile M cw w d a x y m n s ≡ combine_tile M o cw w d a m n s
  unfolding weighted_tile combine_tile
  combine-is o x y ex ey =
      put_tile-low cw (acc_at M d) m n (λ i. weighted_row s (acc_at M a i) (acc_at M d i) w cw x y) (sum_at M o s cw w d a) s
      (λ i j _ _. ap (λ (z : ℤ). reduce (256 ^ cw) z % 256 ^ cw)
      (ap₂ (λ (p q : ℤ). p *ℤ md i j +ℤ q *ℤ ms1 i j) ex ey ∙ sum-weights o (md i j) (ms1 i j)))

  -- a multiplier z, of which y is the residue at 64 bits
  pub scale-is : cw ≤ 8 → (z : ℤ) (y : ℕ) → reduce (2 ^ 64) z ≡ y → weighted_tile M cw w d a (0 % 256 ^ cw) (y % 256 ^ cw) m n s ≡ scale_tile M cw w d a z m n s
  unfolding weighted_tile scale_tile reduce
  scale-is small z y ey =
      put_tile-low cw (acc_at M d) m n (λ i. weighted_row s (acc_at M a i) (acc_at M d i) w cw (0 % 256 ^ cw) (y % 256 ^ cw)) (scaled_at M z s cw w a) s
      (λ i j _ _. ap (λ (v : ℕ). v % 256 ^ cw)
      (scaled (256 ^ cw) (pow-256 cw) (md i j) (ms1 i j) z (0 % 256 ^ cw) (y % 256 ^ cw) refl (ap (λ (v : ℕ). v % 256 ^ cw) (sym ey) ∙ cut cw 8 small z)))
