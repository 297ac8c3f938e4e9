-- A verdict of Done means that every check passed; and what the check of the marks answers.
use Rattle.numbers.proofs.Kit.{◌≡◌, refl, subst, Bool, true, false, cond, not, ◌&&◌, List, [], ◌∷◌, ℕ, ◌+◌, ◌*◌, ◌<◌, mul-le-mul_right, arith, eqb, get_or}
use Rattle.numbers.proofs.Kit.{eq-eqb, ne_eqb, Err}
use Rattle.machine.specs.Tests.{all}
use Rattle.machine.proofs.TestLaws.{and_left, and_right, all_true, all-false, first-is, false-true}
use Rattle.machine.specs.Answers.{Check, verdict, is_done, Done}
use Rattle.machine.specs.Refusals.{marked, first_row, first_column}

-- each check passed
abbrev pub Passed : List Check → Type 0
Passed [] = Unit {0}
Passed (c ∷ cs) = (c.holds ≡ true) × Passed cs

-- no check answers Done where it fails
abbrev pub refusals : List Check → Bool
refusals [] = true
refusals (c ∷ cs) = not (is_done (Err c.answer)) && refusals cs

pub passed : (cs : List Check) → refusals cs ≡ true → is_done (verdict cs) ≡ true → Passed cs
passed [] r h = tt
passed (c ∷ cs) r h = go c.holds refl (passed cs (and_right (not (is_done (Err c.answer))) (refusals cs) r)) h
  where
    not-both : (t : Bool) → not t ≡ true → t ≡ true → ⊥
    not-both true h g = false-true h
    not-both false h g = false-true g

    go : (t : Bool) → c.holds ≡ t → (is_done (verdict cs) ≡ true → Passed cs) → is_done (cond t (verdict cs) (Err c.answer)) ≡ true → Passed (c ∷ cs)
    go true e ih v = (e, ih v)
    go false e ih v = absurd (not-both (is_done (Err c.answer)) (and_left (not (is_done (Err c.answer))) (refusals cs) r) v)

pub no-refusal : (cs : List Check) → Passed cs → verdict cs ≡ Done
no-refusal [] p = refl
no-refusal (c ∷ cs) p = rw p.0 (no-refusal cs p.1)

pub marked-true : (ms : List ℕ) (at : ℕ → ℕ) (rows n : ℕ) → ((i b : ℕ) → i < rows → b < n → get_or ms (at i + b) 0 ≡ 1) → marked ms at rows n ≡ true
unfolding marked
marked-true ms at rows n h =
    all_true rows (λ i. all n (λ b. eqb (get_or ms (at i + b) 0) 1)) (λ i l.
    all_true n (λ b. eqb (get_or ms (at i + b) 0) 1) (λ b l'. eq-eqb (get_or ms (at i + b) 0) 1 (h i b l l')))

-- ---- for code: two loops over a tile, left at the first element without all its marks

module _ (ms : List ℕ) (at : ℕ → ℕ) (rows cols w i j b : ℕ) (i<rows : i < rows) (j<cols : j < cols) (b<w : b < w)
    (rows_before : (k c : ℕ) → k < i → c < cols * w → get_or ms (at k + c) 0 ≡ 1)
    (columns-before : (k c : ℕ) → k < j → c < w → get_or ms (at i + k * w + c) 0 ≡ 1)
    (here : ¬ (get_or ms (at i + j * w + b) 0 ≡ 1)) where
  abbrev mark : ℕ → ℕ → Bool
  mark k c = eqb (get_or ms (at k + c) 0) 1

  row-fails : all (cols * w) (mark i) ≡ false
  row-fails =
      all-false (cols * w) (mark i) (j * w + b) (omega (arith, mul-le-mul_right w j<cols))
      (subst (λ (q : ℕ). eqb (get_or ms q 0) 1 ≡ false) (omega arith) (ne_eqb (get_or ms (at i + j * w + b) 0) 1 here))

  pub first-row-is : first_row ms at rows (cols * w) ≡ i
  first-row-is =
      first-is rows (λ k. not (all (cols * w) (mark k))) i i<rows (rw row-fails)
      (λ k l. rw (all_true (cols * w) (mark k) (λ c l'. eq-eqb (get_or ms (at k + c) 0) 1 (rows_before k c l l'))))

  pub first-column-is : first_column ms (at i) cols w ≡ j
  first-column-is =
      first-is cols (λ k. not (all w (λ c. eqb (get_or ms (at i + k * w + c) 0) 1))) j j<cols
      (rw (all-false w (λ c. eqb (get_or ms (at i + j * w + c) 0) 1) b b<w (ne_eqb (get_or ms (at i + j * w + b) 0) 1 here)))
      (λ k l. rw (all_true w (λ c. eqb (get_or ms (at i + k * w + c) 0) 1) (λ c l'. eq-eqb (get_or ms (at i + k * w + c) 0) 1 (columns-before k c l l'))))
