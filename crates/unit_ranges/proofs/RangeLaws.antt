-- The ranges in a block: what it takes for a machine to hold them, slot by slot, and the ranges of the first slots.
use Rattle.numbers.proofs.Kit.{◌≡◌, refl, sym, ap, ap₂, ◌∙◌, subst, ◌⊎◌, inl, inr, Bool, true, false, not, cond, ◌&&◌, ◌||◌, List, [], ◌∷◌, ◌++◌, ℕ, zero}
use Rattle.numbers.proofs.Kit.{suc, ◌+◌, ◌*◌, ◌-◌, ◌≤◌, ◌<◌, ◌^◌, eq-or-lt_of_le, le_of_suc-le-suc, not-suc-le-zero, mul-le-mul_right, arith, leb, ltb, eqb}
use Rattle.numbers.proofs.Kit.{length, get_or, length-append, leb-true, le-leb, lt-ltb, le-ltb, eqb-true, eq-eqb, ne_eqb}
use lib.Bits.{bit_or, or_add_and, or_zero_l, and_le_l, and_le_r}
use Rattle.numbers.specs.Upto.{upto}
use Rattle.numbers.specs.Tile.{get_le, In}
use Rattle.numbers.proofs.TileLaws.{le-cong}
use Rattle.numbers.proofs.BlockLaws.{le-or-lt}
use Rattle.machine.specs.Tests.{all, every, within}
use Rattle.machine.specs.Geometry.{Range, range, sealed}
use Rattle.machine.specs.Starting.{seal_ends, seals_end, most_seals}
use Rattle.machine.specs.Faults.{seals_fit}
use Rattle.machine.proofs.TestLaws.{and-true, and_left, and_right, same_test, false-true, fails-not, not-fails, within_in, in_within, all-at, all_true, every-each, each-every}
use Rattle.machine.specs.Memory.{row_at, inside, misses, rows_miss}
use Rattle.machine.proofs.MemoryLaws.{misses-at, misses-true, rows-miss-at, rows-miss-true}
use Rattle.unit_address.proofs.AddressLaws.{inside-first-not}
use Rattle.unit_address.proofs.DistinctLaws.{gap, Goes, rows-go}
use Rattle.machine.proofs.Sealing.{sealed-added}
use Rattle.unit_ranges.specs.Ranges.{block_bytes, count_in, range_at, first_ranges, well_formed, seals_in}
use Rattle.unit_ranges.specs.Parts.{slot_empty, slot_sound, Around, Spanned}

-- ---- a range behind others

and_last : (t : Bool) → t && true ≡ t
and_last true = refl
and_last false = refl

pub ends-behind : (rs : List Range) (r : Range) → seals_end (rs ++ (r ∷ [])) ≡ seals_end rs && seal_ends r.start r.size
ends-behind [] r = and_last (seal_ends r.start r.size)
ends-behind (s ∷ rs) r = ap (λ (t : Bool). seal_ends s.start s.size && t) (ends-behind rs r) ∙ again (seal_ends s.start s.size)
  where
    again : (t : Bool) → t && (seals_end rs && seal_ends r.start r.size) ≡ (t && seals_end rs) && seal_ends r.start r.size
    again true = refl
    again false = refl

or-false : (t : Bool) → t || false ≡ t
or-false true = refl
or-false false = refl

pub sealed-behind : (rs : List Range) (r : Range) (q : ℕ) → sealed (rs ++ (r ∷ [])) q ≡ sealed rs q || within r.start r.size q
sealed-behind [] r q = or-false (within r.start r.size q)
sealed-behind (s ∷ rs) r q = ap (λ (t : Bool). within s.start s.size q || t) (sealed-behind rs r q) ∙ again (within s.start s.size q)
  where
    again : (t : Bool) → t || (sealed rs q || within r.start r.size q) ≡ (t || sealed rs q) || within r.start r.size q
    again true = refl
    again false = refl

-- ---- the first slots

module _ (block : List ℕ) where
  pub length-first : (n : ℕ) → length (first_ranges n block) ≡ n
  length-first zero = refl
  length-first (suc n) = length-append (first_ranges n block) (range_at block n ∷ []) ∙ omega (arith, length-first n)

  abbrev ends : ℕ → Bool
  ends i = seal_ends (range_at block i).start (range_at block i).size

  ends-first : (n : ℕ) → seals_end (first_ranges n block) ≡ all n ends
  ends-first zero = refl
  ends-first (suc n) = ends-behind (first_ranges n block) (range_at block n) ∙ ap (λ (t : Bool). t && ends n) (ends-first n)

  pub sealed-first : (n i q : ℕ) → i < n → within (range_at block i).start (range_at block i).size q ≡ true → sealed (first_ranges n block) q ≡ true
  sealed-first zero i q l h = absurd (not-suc-le-zero l)
  sealed-first (suc n) i q l h = go (eq-or-lt_of_le (le_of_suc-le-suc l)) (sealed-first n i q)
    where
      or-last : (s t : Bool) → t ≡ true → s || t ≡ true
      or-last true t e = refl
      or-last false t e = e

      go : (i ≡ n) ⊎ (i < n) → (i < n → within (range_at block i).start (range_at block i).size q ≡ true → sealed (first_ranges n block) q ≡ true)
          → sealed (first_ranges n block ++ (range_at block n ∷ [])) q ≡ true
      go (inl e) ih =
          sealed-behind (first_ranges n block) (range_at block n) q
          ∙ or-last (sealed (first_ranges n block) q) (within (range_at block n).start (range_at block n).size q)
          (subst (λ (j : ℕ). within (range_at block j).start (range_at block j).size q ≡ true) e h)
      go (inr k) ih = sealed-added (first_ranges n block) (range_at block n ∷ []) q (ih k h)

-- ---- a block whose ranges a machine can hold

module _ (block : List ℕ) where
  abbrev zeros : ℕ → Bool
  zeros = slot_empty block

  abbrev shaped : List Bool
  shaped = eqb (length block) block_bytes ∷ leb (count_in block) most_seals ∷ all most_seals (λ i. ltb i (count_in block) || zeros i) ∷ []

  abbrev tested : List Bool
  tested = eqb (length block) block_bytes ∷ leb (count_in block) most_seals ∷ all most_seals (slot_sound block (count_in block)) ∷ []

  pub shape-holds : seals_fit (seals_in block) ≡ true → well_formed block ≡ true
  unfolding seals_in seals_fit
  shape-holds h = go (well_formed block) h
    where
      go : (t : Bool) → seals_fit (cond t (first_ranges (count_in block) block) (range (2 ^ 64) 0 ∷ [])) ≡ true → t ≡ true
      go true h = refl
      go false h = h

  pub record Held : Type 0 where
    pub long : length block ≡ block_bytes
    pub few : count_in block ≤ 8
    pub are : seals_in block ≡ first_ranges (count_in block) block

  pub held : seals_fit (seals_in block) ≡ true → Held
  unfolding well_formed seals_in
  held h =
      let w = shape-holds h in
      let t = every-each shaped w in
      record {
        long = eqb-true (length block) block_bytes t.0;
        few = leb-true (count_in block) 8 t.1.0;
        are = ap (λ (t : Bool). cond t (first_ranges (count_in block) block) (range (2 ^ 64) 0 ∷ [])) w;
      }

  pub each-ends : seals_fit (seals_in block) ≡ true → (i : ℕ) → i < count_in block → ends block i ≡ true
  unfolding seals_fit
  each-ends h =
      let e = (every-each (leb (length (seals_in block)) most_seals ∷ seals_end (seals_in block) ∷ []) h).1.0 in
      all-at (count_in block) (ends block) (sym (ends-first block (count_in block)) ∙ ap seals_end (sym (held h).are) ∙ e)

  slots-there : seals_fit (seals_in block) ≡ true → every tested ≡ true
  unfolding well_formed
  slots-there h =
      let t = every-each shaped (shape-holds h) in
      each-every tested (
        t.0,
        (
          t.1.0,
          (
            all_true most_seals (slot_sound block (count_in block)) (λ i l. slot i (le-or-lt (count_in block) i)
                (all-at most_seals (λ i. ltb i (count_in block) || zeros i) t.1.1.0 i l)
                (each-ends h i)),
            tt,
          ),
        ),
      )
    where
      slot : (i : ℕ) → (count_in block ≤ i) ⊎ (i < count_in block) → ltb i (count_in block) || zeros i ≡ true → (i < count_in block → ends block i ≡ true) → slot_sound block (count_in block) i ≡ true
      slot i (inl l) z e = rw (le-ltb i (count_in block) l) (rw (le-ltb i (count_in block) l) at z)
      slot i (inr l) z e = rw (lt-ltb i (count_in block) l) (e l)

  slots-back : every tested ≡ true → seals_fit (seals_in block) ≡ true
  unfolding well_formed seals_in seals_fit
  slots-back h =
      let t = every-each tested h in
      let s = all-at most_seals (slot_sound block (count_in block)) t.1.1.0 in
      let w : well_formed block ≡ true = each-every shaped (t.0, (t.1.0, (all_true most_seals (λ i. ltb i (count_in block) || zeros i) (λ i l. shape i (le-or-lt (count_in block) i) (s i l)), tt))) in
      let c = leb-true (count_in block) 8 t.1.0 in
      subst (λ (rs : List Range). every (leb (length rs) most_seals ∷ seals_end rs ∷ []) ≡ true) (sym (ap (λ (t : Bool). cond t (first_ranges (count_in block) block) (range (2 ^ 64) 0 ∷ [])) w))
      (each-every (leb (length (first_ranges (count_in block) block)) most_seals ∷ seals_end (first_ranges (count_in block) block) ∷ []) (
        le-leb (length (first_ranges (count_in block) block)) 8 (omega (arith, length-first block (count_in block))),
        (ends-first block (count_in block) ∙ all_true (count_in block) (ends block) (λ i l. ending i l (s i (omega arith))), tt),
      ))
    where
      shape : (i : ℕ) → (count_in block ≤ i) ⊎ (i < count_in block) → slot_sound block (count_in block) i ≡ true → ltb i (count_in block) || zeros i ≡ true
      shape i (inl l) z = rw (le-ltb i (count_in block) l) (rw (le-ltb i (count_in block) l) at z)
      shape i (inr l) z = rw (lt-ltb i (count_in block) l)

      ending : (i : ℕ) → i < count_in block → slot_sound block (count_in block) i ≡ true → ends block i ≡ true
      ending i l z = rw (lt-ltb i (count_in block) l) at z

  -- by the tests of the code
  pub fit-by : every tested ≡ seals_fit (seals_in block)
  fit-by = same_test (every tested) (seals_fit (seals_in block)) slots-back slots-there

-- ---- a block with one range

pub or-none : (a b : ℕ) → eqb (bit_or a b) 0 ≡ eqb a 0 && eqb b 0
or-none a b = same_test (eqb (bit_or a b) 0) (eqb a 0 && eqb b 0) there back
  where
    there : eqb (bit_or a b) 0 ≡ true → eqb a 0 && eqb b 0 ≡ true
    there h =
        let e = eqb-true (bit_or a b) 0 h in
        let s = or_add_and a b in
        and-true (eqb a 0) (eqb b 0) (eq-eqb a 0 (omega (arith, e, s, and_le_r a b))) (eq-eqb b 0 (omega (arith, e, s, and_le_l a b)))

    back : eqb a 0 && eqb b 0 ≡ true → eqb (bit_or a b) 0 ≡ true
    back h =
        eq-eqb (bit_or a b) 0
        (ap₂ bit_or (eqb-true a 0 (and_left (eqb a 0) (eqb b 0) h)) (eqb-true b 0 (and_right (eqb a 0) (eqb b 0) h)) ∙ or_zero_l 0)

pub or-three : (a b d : ℕ) → eqb (bit_or a (bit_or b d)) 0 ≡ eqb a 0 && (eqb b 0 && eqb d 0)
or-three a b d = or-none a (bit_or b d) ∙ ap (λ (t : Bool). eqb a 0 && t) (or-none b d)

module _ (block : List ℕ) where
  pub behind-first : (i : ℕ) → slot_empty block (suc i) ≡ eqb (get_le block (88 + 16 * i) 8) 0 && eqb (get_le block (88 + 16 * i + 8) 8) 0
  behind-first i =
      let e : 72 + 16 * suc i ≡ 88 + 16 * i = omega arith in
      rw (ne_eqb (suc i) 0 (λ e. omega (arith, e))) (ap (λ (p : ℕ). eqb (get_le block p 8) 0 && eqb (get_le block (p + 8) 8) 0) e)

  abbrev behind : Bool → Bool
  behind t = (((((((t && slot_empty block 1) && slot_empty block 2) && slot_empty block 3) && slot_empty block 4) && slot_empty block 5) && slot_empty block 6) && slot_empty block 7)

  pub one-ends : ends block 0 ≡ true → all 7 (λ i. slot_empty block (suc i)) ≡ all 8 (slot_sound block 1)
  one-ends h = ap behind (sym h)

  pub one-fails : ends block 0 ≡ false → false ≡ all 8 (slot_sound block 1)
  one-fails h = ap behind (sym h)

  pub none-ends : slot_empty block 0 ≡ true → all 7 (λ i. slot_empty block (suc i)) ≡ all 8 (slot_sound block 0)
  none-ends h = ap behind (sym h)

  pub none-fails : slot_empty block 0 ≡ false → false ≡ all 8 (slot_sound block 0)
  none-fails h = ap behind (sym h)

-- ---- blocks with the same ranges

abbrev seals_by : (size count : ℕ) → (ℕ → Range) → List Range
seals_by size count at =
    cond (every (eqb size block_bytes ∷ leb count most_seals ∷ all most_seals (λ i. ltb i count || (eqb (at i).start 0 && eqb (at i).size 0)) ∷ []))
    (upto count (λ i rs. rs ++ (at i ∷ [])) []) (range (2 ^ 64) 0 ∷ [])

module _ (xs ys : List ℕ) (long : length xs ≡ length ys) (same : (q : ℕ) → 48 ≤ q → ¬ In 64 16 q → get_or xs q 0 ≡ get_or ys q 0) where
  -- a number that lies in no other's place
  number_same : (p : ℕ) → 48 ≤ p → (p + 8 ≤ 64) ⊎ (80 ≤ p) → get_le xs p 8 ≡ get_le ys p 8
  number_same p l (inl h) = le-cong xs ys p p 8 (λ b k. same (p + b) (omega arith) (λ x. omega (arith, x.0)))
  number_same p l (inr h) = le-cong xs ys p p 8 (λ b k. same (p + b) (omega arith) (λ x. omega (arith, x.1)))

  range_same : (i : ℕ) → range_at xs i ≡ range_at ys i
  range_same zero = ap₂ range (number_same 48 (omega arith) (inl (omega arith))) (number_same 56 (omega arith) (inl (omega arith)))
  range_same (suc i) =
      rw (ne_eqb (suc i) 0 (λ e. omega (arith, e)))
      (ap₂ range (number_same (72 + 16 * suc i) (omega arith) (inr (omega arith))) (number_same (72 + 16 * suc i + 8) (omega arith) (inr (omega arith))))

  pub seals-same : seals_in xs ≡ seals_in ys
  unfolding seals_in well_formed
  seals-same =
      ap₂ (λ (size count : ℕ). seals_by size count (range_at xs)) long (number_same 80 (omega arith) (inr (omega arith)))
      ∙ ap (seals_by (length ys) (count_in ys)) (λ k i. range_same i k)

-- ---- ranges that lie between two bytes

pub around-next : (block : List ℕ) (k low high low' high' : ℕ) → Around block k low high → low' ≤ low → high ≤ high'
    → low' ≤ (range_at block k).start → (range_at block k).start + (range_at block k).size ≤ high' → Around block (k + 1) low' high'
around-next block k low high low' high' a p q r s i l = go (eq-or-lt_of_le (le_of_suc-le-suc (omega (arith, l))))
  where
    go : (i ≡ k) ⊎ (i < k) → (low' ≤ (range_at block i).start) × ((range_at block i).start + (range_at block i).size ≤ high')
    go (inl e) = subst (λ (j : ℕ). (low' ≤ (range_at block j).start) × ((range_at block j).start + (range_at block j).size ≤ high')) (sym e) (r, s)
    go (inr m) = let h = a i m in (omega (arith, h.0, p), omega (arith, h.1, q))

-- ---- rows against the ranges

module _ (base stride rows n : ℕ) where
  -- each byte of a row that misses one set of bytes misses another, if the other has no more
  fewer : (those others : ℕ → Bool) → ((q : ℕ) → others q ≡ true → those q ≡ true) → rows_miss those base stride rows n ≡ true → rows_miss others base stride rows n ≡ true
  fewer those others s h =
      rows-miss-true others base stride rows n (λ i l. misses-true others (row_at base stride i) n (λ q x.
      fails-not (others q) (λ e. not-fails (those q) (misses-at those (row_at base stride i) n (rows-miss-at those base stride rows n h i l) q x) (s q e))))

  pub none-met : rows_miss (sealed []) base stride rows n ≡ true
  none-met = rows-miss-true (sealed []) base stride rows n (λ i l. misses-true (sealed []) (row_at base stride i) n (λ q x. refl))

  -- one more that is missed
  pub missed-too : (rs : List Range) (r : Range) → rows_miss (sealed rs) base stride rows n ≡ true → rows_miss (within r.start r.size) base stride rows n ≡ true
      → rows_miss (sealed (rs ++ (r ∷ []))) base stride rows n ≡ true
  missed-too rs r h g =
      rows-miss-true (sealed (rs ++ (r ∷ []))) base stride rows n (λ i l. misses-true (sealed (rs ++ (r ∷ []))) (row_at base stride i) n (λ q x.
      ap not (sealed-behind rs r q) ∙ neither (sealed rs q) (within r.start r.size q)
      (misses-at (sealed rs) (row_at base stride i) n (rows-miss-at (sealed rs) base stride rows n h i l) q x)
      (misses-at (within r.start r.size) (row_at base stride i) n (rows-miss-at (within r.start r.size) base stride rows n g i l) q x)))
    where
      neither : (s t : Bool) → not s ≡ true → not t ≡ true → not (s || t) ≡ true
      neither true t a b = a
      neither false t a b = b

  -- and one that is not
  pub met : (block : List ℕ) (k i : ℕ) → i < k → rows_miss (within (range_at block i).start (range_at block i).size) base stride rows n ≡ false
      → rows_miss (sealed (first_ranges k block)) base stride rows n ≡ false
  met block k i l h = go (rows_miss (sealed (first_ranges k block)) base stride rows n) refl
    where
      go : (t : Bool) → rows_miss (sealed (first_ranges k block)) base stride rows n ≡ t → t ≡ false
      go true e = absurd (false-true (sym h ∙ fewer (sealed (first_ranges k block)) (within (range_at block i).start (range_at block i).size) (λ q. sealed-first block k i q l) e))
      go false e = refl

  -- one range
  pub one-missed : (block : List ℕ) → rows_miss (within (range_at block 0).start (range_at block 0).size) base stride rows n ≡ rows_miss (sealed (first_ranges 1 block)) base stride rows n
  one-missed block =
      let r = range_at block 0 in
      same_test (rows_miss (within r.start r.size) base stride rows n) (rows_miss (sealed (first_ranges 1 block)) base stride rows n)
      (missed-too [] r none-met) (fewer (sealed (first_ranges 1 block)) (within r.start r.size) (λ q. sealed-first block 1 0 q (omega arith)))

  -- ranges that lie between two bytes
  pub all-missed : (block : List ℕ) (k low high : ℕ) → Around block k low high → rows_miss (within low (high - low)) base stride rows n ≡ true
      → rows_miss (sealed (first_ranges k block)) base stride rows n ≡ true
  all-missed block k low high a = fewer (within low (high - low)) (sealed (first_ranges k block)) (λ q. between k a q)
    where
      between : (k : ℕ) → Around block k low high → (q : ℕ) → sealed (first_ranges k block) q ≡ true → within low (high - low) q ≡ true
      between zero a q h = absurd (false-true h)
      between (suc k) a q h = go (sealed (first_ranges k block) q) (between k (λ i l. a i (omega arith)) q) (sym (sealed-behind (first_ranges k block) (range_at block k) q) ∙ h)
        where
          go : (t : Bool) → (t ≡ true → within low (high - low) q ≡ true) → t || within (range_at block k).start (range_at block k).size q ≡ true → within low (high - low) q ≡ true
          go true ih h = ih refl
          go false ih h =
              let x = within_in (range_at block k).start (range_at block k).size q h in
              let b = a k (omega arith) in
              in_within low (high - low) q (omega (arith, x.0, b.0), omega (arith, x.0, x.1, b.0, b.1))

  -- the ranges of a block are those of its first slots
  pub in_block : (block : List ℕ) → seals_fit (seals_in block) ≡ true → (k : ℕ) → k ≡ count_in block → (t : Bool) → rows_miss (sealed (first_ranges k block)) base stride rows n ≡ t
      → t ≡ rows_miss (sealed (seals_in block)) base stride rows n
  in_block block f k e t h =
      sym (ap (λ (rs : List Range). rows_miss (sealed rs) base stride rows n) ((held block f).are ∙ ap (λ (k : ℕ). first_ranges k block) (sym e)) ∙ h)

  -- rows of which there is none, or that have no bytes
  pub no_rows : (those : ℕ → Bool) → rows ≡ 0 → true ≡ rows_miss those base stride rows n
  no_rows those e = sym (rows-miss-true those base stride rows n (λ i l. let z : suc i ≤ 0 = omega (arith, e, l) in absurd (not-suc-le-zero z)))

  pub no_bytes : (those : ℕ → Bool) → n ≡ 0 → true ≡ rows_miss those base stride rows n
  no_bytes those e = sym (rows-miss-true those base stride rows n (λ i l. misses-true those (row_at base stride i) n (λ q x. let z : suc q ≤ 0 = omega (arith, e, x.0, x.1) in absurd (not-suc-le-zero z))))

  -- rows within bytes that miss a range
  pub span-missed : (those : ℕ → Bool) (p m : ℕ) → Spanned p m base stride rows n → misses those p m ≡ true → true ≡ rows_miss those base stride rows n
  span-missed those p m s h =
      sym (rows-miss-true those base stride rows n (λ i l. misses-true those (row_at base stride i) n (λ q x.
      let b = s i l in misses-at those p m h q (omega (arith, b.0, x.0), omega (arith, b.1, x.1)))))

  pub first-inside : (len : ℕ) → inside len base stride rows n ≡ true → ¬ (n ≡ 0) → 0 < rows → base + n ≤ len
  first-inside len h some l = go (le-or-lt (base + n) len)
    where
      go : (base + n ≤ len) ⊎ (len < base + n) → base + n ≤ len
      go (inl k) = k
      go (inr k) = absurd (false-true (sym (inside-first-not len base stride rows n some l k) ∙ h))

  -- rows between the first and the last
  pub ends-span : (len low high : ℕ) → inside len base stride rows n ≡ true → 0 < n → stride < 2 ^ 64 → low ≤ base → low ≤ row_at base stride (rows - 1)
      → base ≤ high → row_at base stride (rows - 1) ≤ high → (i : ℕ) → i < rows → (low ≤ row_at base stride i) × (row_at base stride i ≤ high)
  ends-span len low high h some word a b d e i l = go (rows-go len base stride rows n h some word)
    where
      m : i * gap stride ≤ (rows - 1) * gap stride
      m = mul-le-mul_right (gap stride) (omega arith)

      go : Goes base stride rows → (low ≤ row_at base stride i) × (row_at base stride i ≤ high)
      go (inl up) = let x = up i l in let y = up (rows - 1) (omega arith) in (omega (arith, x, a), omega (arith, x, y, m, e))
      go (inr down) = let x = down i l in let y = down (rows - 1) (omega arith) in (omega (arith, x, y, m, b), omega (arith, x, d))
