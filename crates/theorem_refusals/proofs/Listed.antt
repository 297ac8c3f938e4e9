-- No code twice, the values of mtype, and the bytes of the registers.
use Rattle.numbers.proofs.Kit.{◌≡◌, refl, sym, ap, subst, inl, inr, Bool, true, false, List, [], ◌∷◌, ℕ, zero, suc, ◌+◌, ◌-◌, ◌*◌, ◌/◌, ◌%◌, ◌≤◌, ◌<◌}
use Rattle.numbers.proofs.Kit.{eq-zero-or-pos, mul-zero, mul-le-mul_right, div-lt_iff_lt-mul, div-add-mod', mod-lt, arith, ltb, length, get_or, ltb-true}
use Rattle.numbers.proofs.Kit.{ltb-false}
use Rattle.machine.specs.Geometry.{permitted, register_bytes, Parameters, parameters_of}
use Rattle.machine.specs.Listing.{Code, Row, has, listing}
use Rattle.machine.proofs.TestLaws.{and_left, and_right}
use Rattle.machine.proofs.ListingLaws.{clash, clash_all, pairwise, codes, one-row-each, clash-apart}
use Rattle.machine.proofs.CodeLaws.{types_are}
use Rattle.machine.proofs.StepLaws.{permitted-lengths}
use Rattle.machine.proofs.WordRefusals.{bits-has}
use Rattle.theorem_refusals.specs.Listed.{entries, NoCodeTwice, TypesAreThese, Spot, IsThere, spot_at, Fills, RegistersFill}

same_entries : (rs : List Row) → entries rs ≡ codes rs
same_entries [] = refl
same_entries (r ∷ rs) = ap (λ (cs : List Code). r.code ∷ cs) (same_entries rs)

clash-at : (c : Code) (cs : List Code) → clash_all c cs ≡ true → (k : ℕ) (x : Code) → k < length cs → clash c.fixed (get_or cs k x).fixed ≡ true
clash-at c [] h k x l = absurd (omega (arith, l))
clash-at c (e ∷ es) h zero x l = and_left (clash c.fixed e.fixed) (clash_all c es) h
clash-at c (e ∷ es) h (suc k) x l = clash-at c es (and_right (clash c.fixed e.fixed) (clash_all c es) h) k x (omega (arith, l))

two : (word : ℕ) (cs : List Code) → pairwise cs ≡ true → (j k : ℕ) (x : Code) → j < k → k < length cs
    → has word (get_or cs j x).fixed ≡ true → has word (get_or cs k x).fixed ≡ true → ⊥
two word [] p j k x l m h i = absurd (omega (arith, m))
two word (c ∷ cs) p j zero x l m h i = absurd (omega (arith, l))
two word (c ∷ cs) p zero (suc k) x l m h i =
    clash-apart word c.fixed (get_or cs k x).fixed (clash-at c cs (and_left (clash_all c cs) (pairwise cs) p) k x (omega (arith, m))) h i
two word (c ∷ cs) p (suc j) (suc k) x l m h i = two word cs (and_right (clash_all c cs) (pairwise cs) p) j k x (omega (arith, l)) (omega (arith, m)) h i

pub no-code-twice : NoCodeTwice
no-code-twice word j k c l m h i =
    subst (λ (cs : List Code). k < length cs → has word (get_or cs j c).fixed ≡ true → has word (get_or cs k c).fixed ≡ true → ⊥) (sym (same_entries listing))
    (two word (codes listing) one-row-each j k c l) m
    (bits-has word (get_or (entries listing) j c).fixed h) (bits-has word (get_or (entries listing) k c).fixed i)

pub types-are-these : TypesAreThese
types-are-these = types_are

-- ---- the registers' bytes

-- a number in two places: how often n, and what is left
two-places : (n a b c d : ℕ) → b < n → d < n → a * n + b ≡ c * n + d → (a ≡ c) × (b ≡ d)
two-places n a b c d l m e = let f : a ≡ c = go (ltb a c) (ltb c a) refl refl in (f, omega (arith, e, ap (λ (x : ℕ). x * n) f))
  where
    go : (s t : Bool) → ltb a c ≡ s → ltb c a ≡ t → a ≡ c
    go true t p q = absurd (omega (arith, e, l, mul-le-mul_right n (ltb-true a c p)))
    go false true p q = absurd (omega (arith, e, m, mul-le-mul_right n (ltb-true c a q)))
    go false false p q = omega (arith, ltb-false a c p, ltb-false c a q)

-- of register r, row i and byte b, where each register has R rows of P bytes
three-places : (R P r i b r' i' b' : ℕ) → i < R → b < P → i' < R → b' < P → r * (R * P) + i * P + b ≡ r' * (R * P) + i' * P + b' → (r ≡ r') × (i ≡ i') × (b ≡ b')
three-places R P r i b r' i' b' l m l' m' e =
    let x = two-places (R * P) r (i * P + b) r' (i' * P + b') (omega (arith, m, mul-le-mul_right P l)) (omega (arith, m', mul-le-mul_right P l')) (omega (arith, e)) in
    let y = two-places P i b i' b' m m' x.1 in
    (x.0, y.0, y.1)

-- and back
places_of : (R P n q : ℕ) → q < n * (R * P) → (r : ℕ) × (i : ℕ) × (b : ℕ) × (r < n) × (i < R) × (b < P) × (r * (R * P) + i * P + b ≡ q)
places_of R P n q l =
    let T : ℕ = R * P in
    let 0<T : zero < T = elim (eq-zero-or-pos T) [ inl z ↦ absurd (omega (arith, l, ap (λ (v : ℕ). n * v) z, mul-zero n)) | inr g ↦ g ] in
    let 0<P : zero < P = elim (eq-zero-or-pos P) [ inl z ↦ absurd (omega (arith, 0<T, ap (λ (v : ℕ). R * v) z, mul-zero R)) | inr g ↦ g ] in (
      q / T,
      q % T / P,
      q % T % P,
      (div-lt_iff_lt-mul {k = T} {x = q} {y = n} 0<T).1 l,
      (div-lt_iff_lt-mul {k = P} {x = q % T} {y = R} 0<P).1 (mod-lt q 0<T),
      mod-lt (q % T) 0<P,
      omega (arith, div-add-mod' q T, div-add-mod' (q % T) P),
    )

module _ (grant : ℕ → ℕ → ℕ) (rlen mlen elen : ℕ) (p : permitted rlen mlen elen ≡ true) where
  abbrev R : ℕ
  R = mlen / rlen

  abbrev P : ℕ
  P = rlen / 8

  abbrev M : Parameters
  M = parameters_of grant rlen mlen elen

  sixteen : 16 * (R * P) ≡ 2 * mlen
  sixteen = (permitted-lengths rlen mlen elen p).2

  -- a tile register's byte lies below those of the accumulators, and these lie below the end
  below : (n k r i b : ℕ) → r < n → i < R → b < k * P → r * (k * (R * P)) + i * (k * P) + b < n * (k * (R * P))
  below n k r i b l m h =
      let e : R * (k * P) ≡ k * (R * P) = omega arith in
      omega (arith, e, h, mul-le-mul_right (k * P) m, mul-le-mul_right (k * (R * P)) l)

  fills : Fills rlen mlen M
  fills = record { within = within; whole = whole; apart = apart }
    where
      within : (s : Spot) → IsThere rlen mlen s → spot_at M s < register_bytes mlen
      within (Spot.in_tile r i b) h = omega (arith, sixteen, below 8 1 r i b h.0 h.1 (omega (arith, h.2)))
      within (Spot.in_accumulator r i b) h = omega (arith, sixteen, below 2 4 r i b h.0 h.1 h.2)

      low : (q : ℕ) → q < 8 * (R * P) → (s : Spot) × IsThere rlen mlen s × (spot_at M s ≡ q)
      low q l = let x = places_of R P 8 q l in (Spot.in_tile x.0 x.1 x.2, (x.3, x.4, x.5), x.6)

      high : (q : ℕ) → 8 * (R * P) ≤ q → q < 16 * (R * P) → (s : Spot) × IsThere rlen mlen s × (spot_at M s ≡ q)
      high q g l =
          let x = places_of R (4 * P) 2 (q - 8 * (R * P)) (omega (arith, g, l)) in
          (Spot.in_accumulator x.0 x.1 x.2, (x.3, x.4, x.5), omega (arith, g, x.6))

      whole : (q : ℕ) → q < register_bytes mlen → (s : Spot) × IsThere rlen mlen s × (spot_at M s ≡ q)
      whole q l = go (ltb q (8 * (R * P))) refl
        where
          go : (t : Bool) → ltb q (8 * (R * P)) ≡ t → (s : Spot) × IsThere rlen mlen s × (spot_at M s ≡ q)
          go true e = low q (ltb-true q (8 * (R * P)) e)
          go false e = high q (ltb-false q (8 * (R * P)) e) (omega (arith, l, sixteen))

      apart : (s t : Spot) → IsThere rlen mlen s → IsThere rlen mlen t → spot_at M s ≡ spot_at M t → s ≡ t
      apart (Spot.in_tile r i b) (Spot.in_tile r' i' b') h g e =
          let x = three-places R P r i b r' i' b' h.1 h.2 g.1 g.2 e in
          ap₃ x
        where
          ap₃ : (r ≡ r') × (i ≡ i') × (b ≡ b') → Spot.in_tile r i b ≡ Spot.in_tile r' i' b'
          ap₃ x = let u = x.0 in let v = x.1 in let w = x.2 in cc
      apart (Spot.in_tile r i b) (Spot.in_accumulator r' i' b') h g e = absurd (omega (arith, e, below 8 1 r i b h.0 h.1 (omega (arith, h.2))))
      apart (Spot.in_accumulator r i b) (Spot.in_tile r' i' b') h g e = absurd (omega (arith, e, below 8 1 r' i' b' g.0 g.1 (omega (arith, g.2))))
      apart (Spot.in_accumulator r i b) (Spot.in_accumulator r' i' b') h g e =
          let x = three-places R (4 * P) r i b r' i' b' h.1 h.2 g.1 g.2 (omega (arith, e)) in
          ap₃ x
        where
          ap₃ : (r ≡ r') × (i ≡ i') × (b ≡ b') → Spot.in_accumulator r i b ≡ Spot.in_accumulator r' i' b'
          ap₃ x = let u = x.0 in let v = x.1 in let w = x.2 in cc

pub registers-fill : RegistersFill
registers-fill = fills
