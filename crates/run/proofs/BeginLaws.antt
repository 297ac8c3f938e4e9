-- The starts of blocks: a run comes to no other place; and how code tells them.
use Rattle.numbers.proofs.Kit.{◌≡◌, refl, sym, ap, ◌∙◌, subst, ◌⊎◌, inl, inr, Bool, true, false, cond, [], ◌∷◌, ℕ, zero, suc, ◌+◌, ◌*◌, ◌-◌, ◌/◌, ◌≤◌, ◌<◌}
use Rattle.numbers.proofs.Kit.{div-eq_of_lt, add-div_right, arith, ltb, eqb, ltb-true, lt-ltb, eqb-true, eq-eqb, ne_eqb}
use Rattle.numbers.specs.Blocks.{Grants, starts, chunks}
use Rattle.numbers.proofs.BlockLaws.{le-or-lt, granted, chunks-end, chunks-next}
use Rattle.machine.specs.Tests.{is_in}
use Rattle.machine.proofs.TestLaws.{or_right, or-not, false-true, every-each, each-every, each, each_in}
use Rattle.run.specs.declared.Place.{Place}
use Rattle.run.specs.declared.Place.TheVariants.{AtType, AtM, AtN, AtClear, AtK, AtA, AtB, AtMultiply, AtStore, AtEnd}
use Rattle.run.specs.Words.{Shape, size_m, size_n, size_k}
use Rattle.run.specs.Places.{head_m, head_n, head_k, next}
use Rattle.run.specs.Turn.{starts_m, starts_n, starts_k, begins}
use Rattle.run.proofs.PlaceLaws.{Sound}

-- ---- where blocks start

module _ (grant : ℕ → ℕ → ℕ) (G : Grants grant) (max : ℕ) (0<max : zero < max) (total : ℕ) where
  -- one starts where the first does
  begin : (s : ℕ) → s < total → is_in s (chunks grant max total s) ≡ true
  begin s l = rw (chunks-next grant G max 0<max total s l, eq-eqb s s refl)

  -- and where one ends before the total; there are at most c of them
  after : (c s i : ℕ) → total - s ≤ c → is_in i (chunks grant max total s) ≡ true → i + grant max (total - i) < total
      → is_in (i + grant max (total - i)) (chunks grant max total s) ≡ true
  after zero s i f h l = absurd (false-true (rw (chunks-end grant G max 0<max total s (omega arith)) at h))
  after (suc c) s i f h l = go (le-or-lt total s) (after c (s + grant max (total - s)) i)
    where
      go : (total ≤ s) ⊎ (s < total)
          → (total - (s + grant max (total - s)) ≤ c → is_in i (chunks grant max total (s + grant max (total - s))) ≡ true → i + grant max (total - i) < total
          → is_in (i + grant max (total - i)) (chunks grant max total (s + grant max (total - s))) ≡ true)
          → is_in (i + grant max (total - i)) (chunks grant max total s) ≡ true
      go (inl e) ih = absurd (false-true (rw (chunks-end grant G max 0<max total s e) at h))
      go (inr e) ih =
          rw (chunks-next grant G max 0<max total s e)
          (or_right (eqb (i + grant max (total - i)) s) (is_in (i + grant max (total - i)) (chunks grant max total (s + grant max (total - s)))) (on (eqb i s) refl))
        where
          on : (t : Bool) → eqb i s ≡ t → is_in (i + grant max (total - i)) (chunks grant max total (s + grant max (total - s))) ≡ true
          on true q =
              let d : s ≡ i = sym (eqb-true i s q) in
              subst (λ (x : ℕ). is_in (i + grant max (total - i)) (chunks grant max total (x + grant max (total - x))) ≡ true) (sym d) (begin (i + grant max (total - i)) l)
          on false q =
              ih (omega (arith, granted grant G max 0<max (total - s) (omega arith)))
              (or-not (eqb i s) (is_in i (chunks grant max total (s + grant max (total - s)))) (rw (chunks-next grant G max 0<max total s e) at h) q) l

  -- all blocks start below the total
  each_below : (c s : ℕ) → total - s ≤ c → each (chunks grant max total s) (λ i. ltb i total) ≡ true
  each_below zero s f = rw (chunks-end grant G max 0<max total s (omega arith))
  each_below (suc c) s f = go (le-or-lt total s) (each_below c (s + grant max (total - s)))
    where
      go : (total ≤ s) ⊎ (s < total) → (total - (s + grant max (total - s)) ≤ c → each (chunks grant max total (s + grant max (total - s))) (λ i. ltb i total) ≡ true)
          → each (chunks grant max total s) (λ i. ltb i total) ≡ true
      go (inl e) ih = rw (chunks-end grant G max 0<max total s e)
      go (inr e) ih =
          rw (chunks-next grant G max 0<max total s e, lt-ltb s total e)
          (ih (omega (arith, granted grant G max 0<max (total - s) (omega arith))))

  pub start-below : (i : ℕ) → is_in i (chunks grant max total 0) ≡ true → ltb i total ≡ true
  start-below i h = each_in i (chunks grant max total 0) (λ i. ltb i total) (each_below total 0 (omega arith)) h

  pub next_start : (i : ℕ) → is_in i (chunks grant max total 0) ≡ true → i + grant max (total - i) < total → is_in (i + grant max (total - i)) (chunks grant max total 0) ≡ true
  next_start i h l = after total 0 i (omega arith) h l

-- ---- a run comes to starts only

module _ (S : Shape) (G : Sound S) where
  head-m : (i : ℕ) → (i < S.m → starts_m S i ≡ true) → begins S (head_m S i) ≡ true
  head-m i h = go (ltb i S.m) refl
    where
      go : (t : Bool) → ltb i S.m ≡ t → begins S (cond t (AtM i) AtEnd) ≡ true
      go true e = h (ltb-true i S.m e)
      go false e = refl

  head-n : (i j : ℕ) → starts_m S i ≡ true → (j < S.n → starts_n S j ≡ true) → begins S (head_n S i j) ≡ true
  head-n i j m h = go (ltb j S.n) refl
    where
      go : (t : Bool) → ltb j S.n ≡ t → begins S (cond t (AtN i j) (head_m S (i + size_m S i))) ≡ true
      go true e = each-every (starts_m S i ∷ starts_n S j ∷ []) (m, (h (ltb-true j S.n e), tt))
      go false e = head-m (i + size_m S i) (next_start S.grant G.grants S.tm G.0<tm S.m i m)

  head-k : (i j s : ℕ) → starts_m S i ≡ true → starts_n S j ≡ true → (s < S.k → starts_k S s ≡ true) → begins S (head_k S i j s) ≡ true
  head-k i j s m n h = go (ltb s S.k) refl
    where
      go : (t : Bool) → ltb s S.k ≡ t → begins S (cond t (AtK i j s) (AtStore i j)) ≡ true
      go true e = each-every (starts_m S i ∷ starts_n S j ∷ starts_k S s ∷ []) (m, (n, (h (ltb-true s S.k e), tt)))
      go false e = each-every (starts_m S i ∷ starts_n S j ∷ []) (m, (n, tt))

  pub begins-next : (p : Place) → begins S p ≡ true → begins S (next S p) ≡ true
  begins-next AtType h = head-m 0 (begin S.grant G.grants S.tm G.0<tm S.m 0)
  begins-next (AtM i) h = head-n i 0 h (begin S.grant G.grants S.tn G.0<tn S.n 0)
  begins-next (AtN i j) h = h
  begins-next (AtClear i j) h =
      let t = every-each (starts_m S i ∷ starts_n S j ∷ []) h in
      head-k i j 0 t.0 t.1.0 (begin S.grant G.grants S.tk G.0<tk S.k 0)
  begins-next (AtK i j s) h = h
  begins-next (AtA i j s) h = h
  begins-next (AtB i j s) h = h
  begins-next (AtMultiply i j s) h =
      let t = every-each (starts_m S i ∷ starts_n S j ∷ starts_k S s ∷ []) h in
      head-k i j (s + size_k S s) t.0 t.1.0 (next_start S.grant G.grants S.tk G.0<tk S.k s t.1.1.0)
  begins-next (AtStore i j) h =
      let t = every-each (starts_m S i ∷ starts_n S j ∷ []) h in
      head-n i (j + size_n S j) t.0 (next_start S.grant G.grants S.tn G.0<tn S.n j t.1.0)
  begins-next AtEnd h = refl

-- ---- for code: where a block starts

module _ (grant : ℕ → ℕ → ℕ) (G : Grants grant) (max : ℕ) (0<max : zero < max) (total : ℕ) where
  -- what is granted from s on
  abbrev size : ℕ → ℕ
  size s = grant max (total - s)

  -- no block starts before the first
  below : (c s i : ℕ) → i < s → is_in i (starts grant max total c s) ≡ false
  below zero s i l = refl
  below (suc c) s i l = go (ltb s total) (below c (s + size s) i (omega arith))
    where
      go : (t : Bool) → is_in i (starts grant max total c (s + size s)) ≡ false → is_in i (cond t (s ∷ starts grant max total c (s + size s)) []) ≡ false
      go true ih = rw (ne_eqb i s (λ e. omega arith)) ih
      go false ih = refl

  before : (s i : ℕ) → i < s → is_in i (chunks grant max total s) ≡ false
  unfolding chunks
  before s i l = below (total - s) s i l

  -- what is left after s is at most what is granted next, so that only one more block starts
  last : (s i : ℕ) → s < i → i < total → total - s ≤ max → is_in i (chunks grant max total s) ≡ false
  last s i l h few =
      rw (chunks-next grant G max 0<max total s (omega arith), ne_eqb i s (λ e. omega arith))
      (before (s + size s) i (omega (arith, G.small max (total - s) few)))

  -- at most the maximum past a start s, a block starts just where that of s ends
  in-first : (s i : ℕ) → s < i → i < total → i ≤ s + max → is_in i (chunks grant max total s) ≡ eqb (s + size s) i
  in-first s i l h m = rw (chunks-next grant G max 0<max total s (omega arith), ne_eqb i s (λ e. omega arith)) (go (le-or-lt (s + size s) i) (le-or-lt i (s + size s)))
    where
      go : (s + size s ≤ i) ⊎ (i < s + size s) → (i ≤ s + size s) ⊎ (s + size s < i) → is_in i (chunks grant max total (s + size s)) ≡ eqb (s + size s) i
      go (inl a) (inl b) =
          let e : s + size s ≡ i = omega arith in
          subst (λ (x : ℕ). is_in i (chunks grant max total x) ≡ eqb x i) (sym e) (begin grant G max 0<max total i h ∙ sym (eq-eqb i i refl))
      go (inl a) (inr b) = rw (ne_eqb (s + size s) i (λ e. omega arith)) (last (s + size s) i b h (few (le-or-lt (2 * max) (total - s)) b))
        where
          few : (2 * max ≤ total - s) ⊎ (total - s < 2 * max) → s + size s < i → total - (s + size s) ≤ max
          few (inl k) b = absurd (omega (arith, G.large max (total - s) k))
          few (inr k) b = omega (arith, G.middle max (total - s) k)
      go (inr a) _ = rw (ne_eqb (s + size s) i (λ e. omega arith)) (before (s + size s) i a)

  -- the last multiple of the maximum, from s on, that lies before i
  abbrev base : (s i : ℕ) → ℕ
  base s i = s + (i - 1 - s) / max * max

  base-first : (s i : ℕ) → s < i → i ≤ s + max → base s i ≡ s
  base-first s i l m = let q : (i - 1 - s) / max ≡ 0 = div-eq_of_lt (omega arith) in rw q (omega arith)

  base-next : (s i : ℕ) → s + max < i → base s i ≡ base (s + max) i
  base-next s i l =
      let e : i - 1 - s ≡ (i - 1 - (s + max)) + max = omega arith in
      rw (e, add-div_right (i - 1 - (s + max)) 0<max) (omega arith)

  -- a block starts just where that of this multiple ends, with i - s at most c
  starts-at : (c s i : ℕ) → i - s ≤ c → s < i → i < total → is_in i (chunks grant max total s) ≡ eqb (base s i + size (base s i)) i
  starts-at zero s i f l h = absurd (omega arith)
  starts-at (suc c) s i f l h = go (le-or-lt i (s + max)) (le-or-lt (2 * max) (total - s)) (starts-at c (s + max) i)
    where
      by : ℕ → Bool
      by b = eqb (b + size b) i

      go : (i ≤ s + max) ⊎ (s + max < i) → (2 * max ≤ total - s) ⊎ (total - s < 2 * max)
          → (i - (s + max) ≤ c → s + max < i → i < total → is_in i (chunks grant max total (s + max)) ≡ by (base (s + max) i))
          → is_in i (chunks grant max total s) ≡ by (base s i)
      go (inl m) _ ih = in-first s i l h m ∙ ap by (sym (base-first s i l m))
      go (inr m) (inl k) ih =
          rw (chunks-next grant G max 0<max total s (omega arith), ne_eqb i s (λ e. omega arith), G.large max (total - s) k)
          (ih (omega arith) m h ∙ ap by (sym (base-next s i m)))
      go (inr m) (inr k) ih =
          let e : base s i ≡ s + max = base-next s i m ∙ base-first (s + max) i m (omega arith) in
          let g : size (s + max) ≡ total - (s + max) = G.small max (total - (s + max)) (omega arith) in
          rw (chunks-next grant G max 0<max total s (omega arith), ne_eqb i s (λ e. omega arith))
          (last (s + size s) i (omega (arith, G.middle max (total - s) k)) h (omega (arith, G.middle max (total - s) k))
          ∙ sym (ne_eqb (s + max + size (s + max)) i (λ q. omega (arith, g, q))) ∙ ap by (sym e))

  -- from the start of all on
  pub starts_first : zero < total → is_in 0 (chunks grant max total 0) ≡ true
  starts_first = begin grant G max 0<max total 0

  pub starts_by : (i : ℕ) → zero < i → i < total
      → let b : ℕ = (i - 1) / max * max in eqb (b + size b) i ≡ is_in i (chunks grant max total 0)
  starts_by i l h =
      let e : (i - 1) / max * max ≡ base 0 i = ap (λ (x : ℕ). x / max * max) {x = i - 1} {y = i - 1 - 0} (omega arith) ∙ omega arith in
      ap (λ (b : ℕ). eqb (b + size b) i) e ∙ sym (starts-at i 0 i (omega arith) l h)
