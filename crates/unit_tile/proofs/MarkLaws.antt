-- The marks of a tile by rows and elements.
use Rattle.numbers.proofs.Kit.{◌≡◌, sym, ap, ◌∙◌, subst, Bool, true, false, List, [], ◌∷◌, ℕ, ◌+◌, ◌*◌, ◌<◌, arith, eqb, get_or, set, Err}
use Rattle.numbers.specs.Tile.{mark_row, mark_tile}
use Rattle.numbers.proofs.PutLaws.{upto-elements}
use Rattle.machine.specs.declared.Refusal.TheVariants.{Unwritten}
use Rattle.machine.specs.Tests.{all}
use Rattle.machine.specs.Answers.{verdict, Done}
use Rattle.machine.specs.Refusals.{marked, needs}
use Rattle.machine.proofs.TestLaws.{all-at, all-false, all_true, all-elements, same_test}
use Rattle.unit_address.proofs.TestLaws.{first-here}

-- the bytes of row i, and of its element j, have their marks
abbrev pub row_marked : List ℕ → (ℕ → ℕ) → ℕ → ℕ → Bool
row_marked ms at n i = all n (λ b. eqb (get_or ms (at i + b) 0) 1)

abbrev pub element_marked : List ℕ → ℕ → ℕ → ℕ → Bool
element_marked ms p w j = all w (λ b. eqb (get_or ms (p + j * w + b) 0) 1)

module _ (ms : List ℕ) (at : ℕ → ℕ) (rows cols w : ℕ) where
  pub tile-marked : all rows (row_marked ms at (cols * w)) ≡ true → Done ≡ verdict (needs false ms at rows cols w ∷ [])
  unfolding marked
  tile-marked h = rw h

  -- a row is marked if its elements are
  pub row-elements : (i : ℕ) → all cols (element_marked ms (at i) w) ≡ true → row_marked ms at (cols * w) i ≡ true
  row-elements i h =
      all-elements cols w (λ b. eqb (get_or ms (at i + b) 0) 1)
      ∙ all_true cols (λ j. all w (λ b. eqb (get_or ms (at i + (j * w + b)) 0) 1)) (λ j l.
      all_true w (λ b. eqb (get_or ms (at i + (j * w + b)) 0) 1) (λ b l'.
      subst (λ (q : ℕ). eqb (get_or ms q 0) 1 ≡ true) (omega arith) (all-at w (λ b. eqb (get_or ms (at i + j * w + b) 0) 1) (all-at cols (element_marked ms (at i) w) h j l) b l')))

  -- and not if one of them is not
  row-unmarked : (i j : ℕ) → j < cols → element_marked ms (at i) w j ≡ false → row_marked ms at (cols * w) i ≡ false
  row-unmarked i j l g =
      all-elements cols w (λ b. eqb (get_or ms (at i + b) 0) 1)
      ∙ all-false cols (λ j. all w (λ b. eqb (get_or ms (at i + (j * w + b)) 0) 1)) j l
      (same_test (all w (λ b. eqb (get_or ms (at i + (j * w + b)) 0) 1)) (element_marked ms (at i) w j)
      (λ h. all_true w (λ b. eqb (get_or ms (at i + j * w + b) 0) 1) (λ b m. subst (λ (q : ℕ). eqb (get_or ms q 0) 1 ≡ true) (omega arith) (all-at w (λ b. eqb (get_or ms (at i + (j * w + b)) 0) 1) h b m)))
      (λ h. all_true w (λ b. eqb (get_or ms (at i + (j * w + b)) 0) 1) (λ b m. subst (λ (q : ℕ). eqb (get_or ms q 0) 1 ≡ true) (omega arith) (all-at w (λ b. eqb (get_or ms (at i + j * w + b) 0) 1) h b m)))
      ∙ g)

  -- the first element without a mark
  pub tile-unmarked : (i j : ℕ) → i < rows → j < cols → all i (row_marked ms at (cols * w)) ≡ true
      → all j (element_marked ms (at i) w) ≡ true → element_marked ms (at i) w j ≡ false → Err (Unwritten i j) ≡ verdict (needs false ms at rows cols w ∷ [])
  unfolding marked
  tile-unmarked i j l k h h' g' =
      let g = row-unmarked i j k g' in
      rw (
        all-false rows (row_marked ms at (cols * w)) i l g,
        first-here rows (row_marked ms at (cols * w)) i l h g,
        first-here cols (element_marked ms (at i) w) j k h' g',
      )

  -- the whole tile is marked
  pub marked-done : marked ms at rows (cols * w) ≡ true → Done ≡ verdict (needs false ms at rows cols w ∷ [])
  marked-done h = rw h

-- rows of n bytes
module _ (ms : List ℕ) (at : ℕ → ℕ) (rows n : ℕ) where
  pub rows-marked : all rows (row_marked ms at n) ≡ true → true ≡ marked ms at rows n
  unfolding marked
  rows-marked h = sym h

  pub rows-unmarked : (i : ℕ) → i < rows → row_marked ms at n i ≡ false → false ≡ marked ms at rows n
  unfolding marked
  rows-unmarked i l g = sym (all-false rows (row_marked ms at n) i l g)

-- rows that lie one after another are marked as one
pub rows-together : (start rows n : ℕ) (ms : List ℕ) → mark_row start (rows * n) ms ≡ mark_tile (λ i. start + i * n) rows n ms
unfolding mark_row mark_tile
rows-together start rows n ms =
    upto-elements rows n (λ b ys. set ys (start + b) 1) (λ i b ys. set ys (start + i * n + b) 1) ms (λ i b l k ys. ap (λ (p : ℕ). set ys p 1) (omega arith))
