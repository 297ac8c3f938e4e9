-- Laws of blocks: their number, their sizes, their starts.
use Rattle.numbers.proofs.Kit.{◌≡◌, refl, sym, ap, ◌∙◌, ◌⊎◌, inl, inr, List, [], ◌∷◌, ℕ, zero, suc, ◌+◌, ◌*◌, ◌-◌, ◌≤◌, ◌<◌, div-eq_of_lt-le}
use Rattle.numbers.proofs.Kit.{add-div_right, div-eq_of_lt, sub_self, sub-zero, sub-eq-zero_of_le, sub-add-eq, lt_of_not-le, arith, dec_le, length}
use Rattle.numbers.proofs.Kit.{lt-ltb, le-ltb}
use Rattle.numbers.specs.Blocks.{Grants, count, starts, chunks}

pub le-or-lt : (a b : ℕ) → (a ≤ b) ⊎ (b < a)
le-or-lt a b = elim (dec_le a b) [ yes l ↦ inl l | no n ↦ inr (lt_of_not-le n) ]

pub count-zero : (max : ℕ) → zero < max → count max zero ≡ zero
count-zero max h = div-eq_of_lt (omega arith)

pub count-one : (max r : ℕ) → zero < r → r ≤ max → count max r ≡ 1
count-one max r h l = div-eq_of_lt-le max (omega arith) (omega arith)

-- what is granted is at most the maximum and what is asked
pub at_most : (grant : ℕ → ℕ → ℕ) → Grants grant → (max asked : ℕ) → (grant max asked ≤ max) × (grant max asked ≤ asked)
at_most grant G max asked = go (le-or-lt asked max) (le-or-lt (2 * max) asked)
  where
    go : (asked ≤ max) ⊎ (max < asked) → (2 * max ≤ asked) ⊎ (asked < 2 * max) → (grant max asked ≤ max) × (grant max asked ≤ asked)
    go (inl l) _ = omega (arith, G.small max asked l)
    go (inr l) (inl k) = omega (arith, G.large max asked k)
    go (inr l) (inr k) = omega (arith, G.middle max asked k)

module _ (grant : ℕ → ℕ → ℕ) (G : Grants grant) (max : ℕ) (0<max : zero < max) where
  -- what is granted of r is at least 1, and at most r and the maximum
  pub granted : (r : ℕ) → zero < r → (zero < grant max r) × (grant max r ≤ r) × (grant max r ≤ max)
  granted r h = go (le-or-lt r max) (le-or-lt (2 * max) r)
    where
      go : (r ≤ max) ⊎ (max < r) → (2 * max ≤ r) ⊎ (r < 2 * max) → (zero < grant max r) × (grant max r ≤ r) × (grant max r ≤ max)
      go (inl l) _ = omega (arith, G.small max r l)
      go (inr l) (inl k) = omega (arith, G.large max r k)
      go (inr l) (inr k) = omega (arith, G.middle max r k)

  pub count-suc : (r : ℕ) → zero < r → count max r ≡ suc (count max (r - grant max r))
  count-suc r h = go (le-or-lt r max) (le-or-lt (2 * max) r)
    where
      go : (r ≤ max) ⊎ (max < r) → (2 * max ≤ r) ⊎ (r < 2 * max) → count max r ≡ suc (count max (r - grant max r))
      go (inl l) _ = rw (G.small max r l, sub_self) (count-one max r h l ∙ ap suc (sym (count-zero max 0<max)))
      go (inr l) (inl k) =
          let e : r + (max - 1) ≡ (r - max + (max - 1)) + max = omega arith in
          rw (G.large max r k, e, add-div_right (r - max + (max - 1)) 0<max) (omega arith)
      go (inr l) (inr k) =
          let m = G.middle max r k in
          rw (count-one max (r - grant max r) (omega arith) (omega arith)) (div-eq_of_lt-le max (omega arith) (omega arith))

  -- the blocks from s on: none at the end, else s and those after its block
  module _ (total : ℕ) where
    past : (c s : ℕ) → total ≤ s → starts grant max total c s ≡ []
    past zero s h = refl
    past (suc c) s h = rw (le-ltb s total h)

    -- more than what is left makes no difference
    enough : (c d s : ℕ) → total - s ≤ c → total - s ≤ d → starts grant max total c s ≡ starts grant max total d s
    enough zero d s h k = sym (past d s (omega arith))
    enough (suc c) zero s h k = past (suc c) s (omega arith)
    enough (suc c) (suc d) s h k = go (le-or-lt total s) (enough c d (s + grant max (total - s)))
      where
        go : (total ≤ s) ⊎ (s < total)
            → (total - (s + grant max (total - s)) ≤ c → total - (s + grant max (total - s)) ≤ d
            → starts grant max total c (s + grant max (total - s)) ≡ starts grant max total d (s + grant max (total - s)))
            → starts grant max total (suc c) s ≡ starts grant max total (suc d) s
        go (inl e) ih = past (suc c) s e ∙ sym (past (suc d) s e)
        go (inr l) ih =
            let g = granted (total - s) (omega arith) in
            rw (lt-ltb s total l) (ap (λ (ss : List ℕ). s ∷ ss) (ih (omega arith) (omega arith)))

    pub chunks-end : (s : ℕ) → total ≤ s → chunks grant max total s ≡ []
    unfolding chunks
    chunks-end s h = past (total - s) s h

    pub chunks-next : (s : ℕ) → s < total → chunks grant max total s ≡ s ∷ chunks grant max total (s + grant max (total - s))
    unfolding chunks
    chunks-next s h =
        enough (total - s) (suc (total - s)) s (omega arith) (omega arith)
        ∙ rw (lt-ltb s total h) (ap (λ (ss : List ℕ). s ∷ ss) (enough (total - s) (total - (s + grant max (total - s))) (s + grant max (total - s)) (omega arith) (omega arith)))

    -- as many as what is left over the maximum, rounded up
    length_from : (c s : ℕ) → total - s ≤ c → length (chunks grant max total s) ≡ count max (total - s)
    length_from zero s h = let e : total ≤ s = omega arith in rw (chunks-end s e, sub-eq-zero_of_le e) (sym (count-zero max 0<max))
    length_from (suc c) s h = go (le-or-lt total s) (length_from c (s + grant max (total - s)))
      where
        go : (total ≤ s) ⊎ (s < total)
            → (total - (s + grant max (total - s)) ≤ c → length (chunks grant max total (s + grant max (total - s))) ≡ count max (total - (s + grant max (total - s))))
            → length (chunks grant max total s) ≡ count max (total - s)
        go (inl e) ih = rw (chunks-end s e, sub-eq-zero_of_le e) (sym (count-zero max 0<max))
        go (inr l) ih =
            let g = granted (total - s) (omega arith) in
            ap length (chunks-next s l) ∙ ap suc (ih (omega arith) ∙ ap (count max) (sub-add-eq total s (grant max (total - s))))
            ∙ sym (count-suc (total - s) (omega arith))

    pub length-chunks : length (chunks grant max total zero) ≡ count max total
    length-chunks = length_from total zero (omega arith) ∙ ap (count max) (sub-zero total)
