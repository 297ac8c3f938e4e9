-- Blocks of a row, numbers in pairs, and their sums.
use Rattle.numbers.proofs.Kit.{◌≡◌, refl, sym, ap, ap₂, ◌∙◌, ⊎_elim, List, ℕ, zero, suc, ◌+◌, ◌*◌, ◌/◌, ◌%◌, ◌^◌, ◌≤◌, ◌<◌, add-zero}
use Rattle.numbers.proofs.Kit.{add-suc, arith, get_or, replicate, ℤ, pos, ◌+ℤ◌, ◌*ℤ◌, zero-*ℤ}
use Rattle.numbers.proofs.Kit.{+ℤ_idr, lt-ltb, le-ltb}
use Rattle.std.proofs.Common.{below_more}
use Rattle.numbers.specs.Upto.{upto}
use Rattle.numbers.specs.Reduce.{signed, reduce, sumℤ}
use Rattle.numbers.specs.Tile.{get_le, put_le, put_row}
use Rattle.numbers.proofs.UptoLaws.{upto-cong}
use Rattle.numbers.proofs.TileLaws.{le-cong, le-lt, put_row-out}
use Rattle.numbers.proofs.PutLaws.{upto_add}
use Rattle.numbers.proofs.ReduceLaws.{reduce-lt, sumℤ-cong}
use Rattle.numbers.proofs.ElementLaws.{pow-256, signed-widened}
use Rattle.numbers.proofs.SumLaws.{wrapping_add, sum-none, sum_more, sum-in-pairs}
use Rattle.machine.specs.ArithmeticWords.{product}
use Rattle.numbers.specs.Bounds.{most_columns}
use Rattle.unit_element.specs.Element.{Narrow}
use Rattle.unit_sums.specs.Rows.{signed_le}
use Rattle.unit_pairs.specs.Pairs.{half, padded, pair_places, place_of, pair, plus_pairs, pairs_row}

-- ---- blocks

pub each-of-four : (P : ℕ → Type 0) → P 0 → P 1 → P 2 → P 3 → (q : ℕ) → q < 4 → P q
each-of-four P a b c d zero l = a
each-of-four P a b c d (suc zero) l = b
each-of-four P a b c d (suc (suc zero)) l = c
each-of-four P a b c d (suc (suc (suc zero))) l = d
each-of-four P a b c d (suc (suc (suc (suc q)))) l = absurd (omega arith)

-- what stands after the first j elements of a row that is written
pub after-row : (c j : ℕ) (F : ℕ → ℕ) (s₀ s : List ℕ) → s ≡ put_row c j 4 F s₀ → (p q : ℕ) → p ≡ q → c + j * 4 ≤ q → get_le s p 4 ≡ get_le s₀ q 4
after-row c j F s₀ s es p q e h =
    ap₂ (λ (l : List ℕ) (p : ℕ). get_le l p 4) es e
    ∙ le-cong (put_row c j 4 F s₀) s₀ q q 4 (λ i l. put_row-out c j 4 F s₀ (q + i) (λ x. omega arith))

-- j elements of the row of C at c are written, and then n more at `to`, each from what stands there: they are those of the entry
pub columns-more : (s₀ s out xs b : List ℕ) (c j n to at pairs : ℕ) → j % 4 ≡ 0 → n ≤ 4 → to ≡ c + j * 4 → at ≡ 2 * j
    → s ≡ put_row c j 4 (pairs_row s₀ c xs b 0 pairs) s₀ → out ≡ put_row to n 4 (pairs_row s to xs b at pairs) s
    → out ≡ put_row c (j + n) 4 (pairs_row s₀ c xs b 0 pairs) s₀
unfolding put_row
columns-more s₀ s out xs b c j n to at pairs z ln et ea es eo =
    eo
    ∙ upto-cong n (λ q ys. put_le (to + q * 4) 4 (pairs_row s to xs b at pairs q) ys) (λ q ys. put_le (c + (j + q) * 4) 4 (F (j + q)) ys) s
    (λ q l ys. ap₂ (λ (p v : ℕ). put_le p 4 v ys) (place q) (same q l))
    ∙ ap (upto n (λ q ys. put_le (c + (j + q) * 4) 4 (F (j + q)) ys)) es
    ∙ sym (upto_add j n (λ q ys. put_le (c + q * 4) 4 (F q) ys) s₀)
  where
    F : ℕ → ℕ
    F = pairs_row s₀ c xs b 0 pairs

    place : (q : ℕ) → to + q * 4 ≡ c + (j + q) * 4
    place q = omega arith

    same : (q : ℕ) → q < n → pairs_row s to xs b at pairs q ≡ F (j + q)
    same q l =
        let e : 2 * (q % 4) ≡ 2 * ((j + q) % 4) = omega arith in
        let f : at + 2 * q ≡ 0 + 2 * (j + q) = omega arith in
        ap (λ (v : ℕ). plus_pairs v xs (2 * (q % 4)) b (at + 2 * q) pairs) (after-row c j F s₀ s es (to + q * 4) (c + (j + q) * 4) (place q) (omega arith))
        ∙ ap₂ (λ (h o : ℕ). plus_pairs (get_le s₀ (c + (j + q) * 4) 4) xs h b o pairs) e f

-- ---- numbers in pairs

pub zeros : (n i : ℕ) → ◌≡◌ {A = ℕ} (get_or (replicate n 0) i 0) 0
zeros zero i = refl
zeros (suc n) zero = refl
zeros (suc n) (suc i) = zeros n i

-- rows below an even l, unchanged below most_columns * l, and row l after them
pub row_more : (F : ℕ → ℕ → ℕ) (d m : List ℕ) (l n to : ℕ) → n ≤ most_columns → l % 2 ≡ 0 → to ≡ most_columns * l
    → ((r j : ℕ) → r < l → j < n → get_or d (place_of r j) 0 ≡ F r j) → ((i : ℕ) → i < to → get_or m i 0 ≡ get_or d i 0)
    → ((j : ℕ) → j < n → get_or m (to + 2 * j) 0 ≡ F l j)
    → (r : ℕ) → r < l + 1 → (j : ℕ) → j < n → get_or m (place_of r j) 0 ≡ F r j
row_more F d m l n to g z e all keep new =
    below_more (λ r. (j : ℕ) → j < n → get_or m (place_of r j) 0 ≡ F r j) l
    (λ r k j h. keep (place_of r j) (omega arith) ∙ all r j k h)
    (λ j h. (let f : place_of l j ≡ to + 2 * j = omega arith in ap (λ (t : ℕ). get_or m t 0) f ∙ new j h))

-- and row l + 1
pub rows_more : (F : ℕ → ℕ → ℕ) (d m : List ℕ) (l n to : ℕ) → n ≤ most_columns → l % 2 ≡ 0 → to ≡ most_columns * l
    → ((r j : ℕ) → r < l → j < n → get_or d (place_of r j) 0 ≡ F r j) → ((i : ℕ) → i < to → get_or m i 0 ≡ get_or d i 0)
    → ((j : ℕ) → j < n → get_or m (to + 2 * j) 0 ≡ F l j) → ((j : ℕ) → j < n → get_or m (to + 2 * j + 1) 0 ≡ F (l + 1) j)
    → (r : ℕ) → r < l + 1 + 1 → (j : ℕ) → j < n → get_or m (place_of r j) 0 ≡ F r j
rows_more F d m l n to g z e all keep new next =
    below_more (λ r. (j : ℕ) → j < n → get_or m (place_of r j) 0 ≡ F r j) (l + 1)
    (row_more F d m l n to g z e all keep new)
    (λ j h. (let f : place_of (l + 1) j ≡ to + 2 * j + 1 = omega arith in ap (λ (t : ℕ). get_or m t 0) f ∙ next j h))

-- ---- their sum

module _ (v : ℕ) (xs : List ℕ) (h : ℕ) (b : List ℕ) (o : ℕ) where
  abbrev term_of : ℕ → ℤ
  term_of p = pair xs (h + 8 * p) b (o + pair_places * p)

  pub no_pairs : v < 256 ^ 4 → v ≡ plus_pairs v xs h b o 0
  no_pairs l = sum-none (256 ^ 4) (pow-256 4) v term_of l

  -- a wrapping add of the pair y at g and i to the sum x
  pub pair-added : (p x y g i : ℕ) → x ≡ plus_pairs v xs h b o p → y ≡ reduce (256 ^ 4) (pair xs g b i) → g ≡ h + 8 * p → i ≡ o + pair_places * p
      → (x + y) % 256 ^ 4 ≡ plus_pairs v xs h b o (p + 1)
  pair-added p x y g i ex ey eg ei =
      ap (λ (y : ℕ). (x + y) % 256 ^ 4) (ey ∙ ap₂ (λ (g i : ℕ). reduce (256 ^ 4) (pair xs g b i)) eg ei)
      ∙ wrapping_add (256 ^ 4) (pow-256 4) x (term_of p) (rw ex (reduce-lt (256 ^ 4) (pow-256 4) (signed (256 ^ 4) v +ℤ sumℤ p term_of)))
      ∙ sum_more (256 ^ 4) (pow-256 4) (signed (256 ^ 4) v) p term_of x (term_of p) ex refl

-- summands that are 0 from n on
sum-rest : (f : ℕ → ℤ) (n d : ℕ) → ((p : ℕ) → n ≤ p → f p ≡ pos 0) → sumℤ (n + d) f ≡ sumℤ n f
sum-rest f n zero z = ap (λ (t : ℕ). sumℤ t f) (add-zero n)
sum-rest f n (suc d) z =
    ap (λ (t : ℕ). sumℤ t f) (add-suc n d) ∙ ap₂ ◌+ℤ◌ (sum-rest f n d z) (z (n + d) (omega arith)) ∙ +ℤ_idr (sumℤ n f)

-- the signed number of 16 bits is the signed element
half_is : (s : List ℕ) → ((q : ℕ) → get_or s q 0 < 256) → (p w : ℕ) → Narrow w → signed (256 ^ 2) (half s p w) ≡ signed_le s p w
half_is s bytes p w ok = signed-widened (256 ^ w) (256 ^ 2) (get_le s p w) (le-lt s bytes p w) (⊎_elim (λ e. rw e (omega arith)) (λ e. rw e (omega arith)) ok)

module _ (s : List ℕ) (bytes : (q : ℕ) → get_or s q 0 < 256) (w : ℕ) (ok : Narrow w) (a b pitch k n : ℕ) (xs bs : List ℕ)
    (row : (p q : ℕ) → q < 4 → (get_or xs (8 * p + 2 * q) 0 ≡ padded s a w k (2 * p)) × (get_or xs (8 * p + 2 * q + 1) 0 ≡ padded s a w k (2 * p + 1)))
    (rows : (l j : ℕ) → l < k → j < n → get_or bs (place_of l j) 0 ≡ half s (b + l * pitch + j * w) w) where
  abbrev A : ℕ → ℤ
  A l = signed_le s (a + l * w) w

  abbrev B : ℕ → ℕ → ℤ
  B j l = signed_le s (b + l * pitch + j * w) w

  -- term l as the pairs have it, 0 from k on
  abbrev term : ℕ → ℕ → ℤ
  term j l = signed (256 ^ 2) (padded s a w k l) *ℤ signed (256 ^ 2) (get_or bs (place_of l j) 0)

  term_is : (j l : ℕ) → j < n → l < k → term j l ≡ A l *ℤ B j l
  term_is j l lj ll =
      let e : signed (256 ^ 2) (padded s a w k l) ≡ A l = rw (lt-ltb l k ll) (half_is s bytes (a + l * w) w ok) in
      ap₂ ◌*ℤ◌ e
      (ap (signed (256 ^ 2)) (rows l j ll lj) ∙ half_is s bytes (b + l * pitch + j * w) w ok)

  term-none : (j l : ℕ) → k ≤ l → term j l ≡ pos 0
  term-none j l h = rw (le-ltb l k h) (zero-*ℤ (signed (256 ^ 2) (get_or bs (place_of l j) 0)))

  pair-terms : (j p : ℕ) → pair xs (2 * (j % 4) + 8 * p) bs (0 + 2 * j + pair_places * p) ≡ term j (2 * p) +ℤ term j (2 * p + 1)
  pair-terms j p =
      let x : 2 * (j % 4) + 8 * p ≡ 8 * p + 2 * (j % 4) = omega arith in
      let y : 0 + 2 * j + pair_places * p ≡ place_of (2 * p) j = omega arith in
      let z : 0 + 2 * j + pair_places * p + 1 ≡ place_of (2 * p + 1) j = omega arith in
      let r = row p (j % 4) (omega arith) in
      ap₂ ◌+ℤ◌
      (ap₂ (λ (u v : ℕ). signed (256 ^ 2) u *ℤ signed (256 ^ 2) v) (ap (λ (t : ℕ). get_or xs t 0) x ∙ r.0) (ap (λ (t : ℕ). get_or bs t 0) y))
      (ap₂ (λ (u v : ℕ). signed (256 ^ 2) u *ℤ signed (256 ^ 2) v) (ap (λ (t : ℕ). get_or xs (t + 1) 0) x ∙ r.1) (ap (λ (t : ℕ). get_or bs t 0) z))

  -- all pairs of column j, and d more, make its sum of products
  pub pairs-product : (v j pairs d : ℕ) → j < n → pairs ≡ (k + 1) / 2 + d
      → plus_pairs v xs (2 * (j % 4)) bs (0 + 2 * j) pairs ≡ product 4 w k v (λ l. get_le s (a + l * w) w) (λ l. get_le s (b + l * pitch + j * w) w)
  pairs-product v j pairs d lj e =
      ap (λ (z : ℤ). reduce (256 ^ 4) (signed (256 ^ 4) v +ℤ z))
      (sumℤ-cong pairs (λ p. pair xs (2 * (j % 4) + 8 * p) bs (0 + 2 * j + pair_places * p)) two (λ p lp. pair-terms j p)
      ∙ ap (λ (n : ℕ). sumℤ n two) e
      ∙ sum-rest two ((k + 1) / 2) d (λ p h. ap₂ ◌+ℤ◌ (term-none j (2 * p) (omega arith)) (term-none j (2 * p + 1) (omega arith)))
      ∙ sum-in-pairs (term j) k (term-none j k (omega arith))
      ∙ sumℤ-cong k (term j) (λ l. A l *ℤ B j l) (λ l ll. term_is j l lj ll))
    where
      two : ℕ → ℤ
      two p = term j (2 * p) +ℤ term j (2 * p + 1)
