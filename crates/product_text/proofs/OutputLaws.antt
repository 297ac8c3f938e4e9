-- The rows of C's residues, as they are written, are those of the product; and what is known of a problem that a text poses.
use Rattle.numbers.proofs.Kit.{◌≡◌, refl, ap, ap₂, ◌∙◌, List, [], ◌∷◌, ℕ, zero, suc, ◌+◌, ◌*◌, ◌≤◌, ◌<◌, arith, length, take, drop, get_or, length-drop}
use Rattle.numbers.proofs.Kit.{length-map, get_or-drop, ℤ, pos}
use Rattle.numbers.specs.Reduce.{signed, reduce}
use Rattle.numbers.proofs.PutLaws.{row_fits}
use Rattle.product_text.specs.Problem.{Problem, nth}
use Rattle.product_text.specs.Output.{sum_at, modulus, list_of, product_at, product_rows}
use Rattle.text_lines.specs.Parts.{signed_all, rows_of}

row_listed : (n : ℕ) (f : ℕ → ℤ) (zs : List ℤ) → n ≤ length zs → ((j : ℕ) → j < n → nth zs j ≡ f j) → take n zs ≡ list_of n f
row_listed zero f zs l h = refl
row_listed (suc n) f [] l h = absurd (omega arith)
row_listed (suc n) f (z ∷ zs) l h = ap₂ ◌∷◌ (h 0 (omega arith)) (row_listed n (λ j. f (suc j)) zs (omega arith) (λ j k. h (suc j) (omega arith)))

rows-listed : (m n : ℕ) (g : ℕ → ℕ → ℤ) (zs : List ℤ) → m * n ≤ length zs → ((i j : ℕ) → i < m → j < n → nth zs (i * n + j) ≡ g i j)
    → rows_of m n zs ≡ list_of m (λ i. list_of n (g i))
rows-listed zero n g zs l h = refl
rows-listed (suc m) n g zs l h =
    ap₂ ◌∷◌ (row_listed n (g 0) zs (omega arith) (λ j k. ap (nth zs) (omega arith) ∙ h 0 j (omega arith) k))
    (rows-listed m n (λ i. g (suc i)) (drop n zs) (simp length-drop (omega arith))
    (λ i j hi hj. get_or-drop n zs (i * n + j) (pos 0) ∙ ap (nth zs) (omega arith) ∙ h (suc i) j (omega arith) hj))

signed-at : (q : ℕ) (c : List ℕ) (x : ℕ) → x < length c → nth (signed_all q c) x ≡ signed q (get_or c x 0)
signed-at q [] x h = absurd (omega arith)
signed-at q (y ∷ c) zero h = refl
signed-at q (y ∷ c) (suc x) h = signed-at q c x (omega arith)

-- c has the residues of the sums, row by row
pub rows_are : (p : Problem) (c : List ℕ) → p.m * p.n ≤ length c
    → ((i j : ℕ) → i < p.m → j < p.n → get_or c (i * p.n + j) 0 ≡ reduce (modulus p) (sum_at p i j))
    → rows_of p.m p.n (signed_all (modulus p) c) ≡ product_rows p
unfolding product_rows
rows_are p c l h =
    rows-listed p.m p.n (product_at p) (signed_all (modulus p) c) (omega (arith, length-map c (signed (modulus p))))
    (λ i j hi hj. signed-at (modulus p) c (i * p.n + j) (omega (arith, row_fits i p.m p.n hi)) ∙ ap (signed (modulus p)) (h i j hi hj))
