-- Operands: the reader finds the value whose text stands at the front, and else the place at which no operand's text can go on.
use Rattle.numbers.proofs.Kit.{◌≡◌, refl, sym, ap, ◌∙◌, subst, ⊎_elim, Bool, true, false, cond, List, [], ◌∷◌, ◌++◌, ℕ, suc, ◌+◌, ◌-◌, ◌≤◌, ◌<◌, arith}
use Rattle.numbers.proofs.Kit.{eqb, length, take, drop, lt-ltb, le-ltb, eqb-true, eqb-false}
use Rattle.numbers.proofs.BlockLaws.{le-or-lt}
use Rattle.text_lines.specs.Lines.{decimal}
use Rattle.numbers_format.specs.Parser.{Got}
use Rattle.numbers_format.specs.Parser.Got.{value, fault}
use Rattle.text_assembly.specs.Lines.{Operand, below, wide, small, operand_count, shown}
use Rattle.text_assembly.specs.Reading.{read_decimal, negative, read_operand}
use Rattle.text_assembly.proofs.DecimalLaws.{Digit, Clean, ReadTo, NoneBegins, is-decimal, decimal-apart, read_right}

-- there is a value
abbrev pub Some : Operand → Type 0
Some (below n) = 1 ≤ n
Some wide = Unit {0}
Some small = Unit {0}

pub record Valued (o : Operand) (s : List ℕ) (v l : ℕ) : Type 0 where
  pub permitted : v < operand_count o
  pub starts : s ≡ shown o v ++ drop l s
  pub long : l ≡ length (shown o v)
  pub longest : (b : ℕ) (r : List ℕ) → drop l s ≡ b ∷ r → Digit b → (w : ℕ) (u t : List ℕ) → w < operand_count o → Clean t → ¬ (shown o v ++ (b ∷ u) ≡ shown o w ++ t)

pub record Stuck (o : Operand) (s : List ℕ) (p : ℕ) : Type 0 where
  pub there : p ≤ length s
  pub goes_on : (w : ℕ) × (u : List ℕ) × (w < operand_count o) × (take p s ++ u ≡ shown o w)
  pub stops : p < length s → (u : List ℕ) (w : ℕ) (t : List ℕ) → w < operand_count o → Clean t → ¬ (take (suc p) s ++ u ≡ shown o w ++ t)
  pub none : (w : ℕ) (t : List ℕ) → w < operand_count o → Clean t → ¬ (s ≡ shown o w ++ t)

abbrev pub Found : Operand → List ℕ → Got → Type 0
Found o s (value v l) = Valued o s v l
Found o s (fault p) = Stuck o s p

-- no number is empty
no-empty : (n : ℕ) (t : List ℕ) → ¬ ([] ≡ decimal n ++ t)
no-empty n t q =
    let f = (is-decimal n).first in
    let x : [] ≡ (48 + f.0) ∷ (f.1 ++ t) = q ∙ ap (λ (z : List ℕ). z ++ t) f.2 in
    let y : ◌≡◌ {A = ℕ} 0 1 = cc in
    absurd (omega arith)

-- ---- plain numbers

module _ (o : Operand) (most : ℕ) (all : operand_count o ≡ suc most) (plain : (v : ℕ) → shown o v ≡ decimal v) where
  plain-right : (s : List ℕ) (g : Got) → ReadTo 0 most s g → Found o s g
  plain-right s (value n l) r = record {
    permitted = omega (arith, r.permitted.1);
    starts = r.starts ∙ ap (λ (z : List ℕ). z ++ drop l s) (sym (plain n));
    long = r.long ∙ ap length (sym (plain n));
    longest = λ b q e d w u t h c x. r.longest b q e d w u t (omega arith) c
        (ap (λ (z : List ℕ). z ++ (b ∷ u)) (sym (plain n)) ∙ x ∙ ap (λ (z : List ℕ). z ++ t) (plain w));
  }
  plain-right s (fault p) r = subst (λ (z : ℕ). Stuck o s z) (sym r.0) (record {
    there = omega arith;
    goes_on = (0, decimal 0, omega arith, sym (plain 0));
    stops = none s r.1;
    none = never s r.1;
  })
    where
      never : (s : List ℕ) → NoneBegins 0 most s → (w : ℕ) (t : List ℕ) → w < operand_count o → Clean t → ¬ (s ≡ shown o w ++ t)
      never [] k w t wl ct x = no-empty w t (x ∙ ap (λ (z : List ℕ). z ++ t) (plain w))
      never (b ∷ s) k w t wl ct x = k b s refl w s t (omega arith) (omega arith) (x ∙ ap (λ (z : List ℕ). z ++ t) (plain w))

      none : (s : List ℕ) → NoneBegins 0 most s → 0 < length s → (u : List ℕ) (w : ℕ) (t : List ℕ) → w < operand_count o → Clean t → ¬ (take 1 s ++ u ≡ shown o w ++ t)
      none [] k h u w t wl ct x = absurd (omega arith)
      none (b ∷ s) k h u w t wl ct x = k b s refl w u t (omega arith) (omega arith) (x ∙ ap (λ (z : List ℕ). z ++ t) (plain w))

  plain-apart : (v w : ℕ) (t u : List ℕ) → Clean t → Clean u → shown o v ++ t ≡ shown o w ++ u → (v ≡ w) × (t ≡ u)
  plain-apart v w t u ht hu q = decimal-apart v w t u ht hu (ap (λ (z : List ℕ). z ++ t) (sym (plain v)) ∙ q ∙ ap (λ (z : List ℕ). z ++ u) (plain w))

-- ---- the signed immediate

small_low : (v : ℕ) → v < 16 → shown small v ≡ decimal v
small_low v h = rw (lt-ltb v 16 h)

small-high : (v : ℕ) → 16 ≤ v → shown small v ≡ 45 ∷ decimal (32 - v)
small-high v h = rw (le-ltb v 16 h)

-- no number begins with a minus
no_minus : (n : ℕ) (t u : List ℕ) → ¬ (decimal n ++ t ≡ 45 ∷ u)
no_minus n t u q =
    let f = (is-decimal n).first in
    let x : (48 + f.0) ∷ (f.1 ++ t) ≡ 45 ∷ u = ap (λ (z : List ℕ). z ++ t) (sym f.2) ∙ q in
    let y : 48 + f.0 ≡ 45 = cc in
    absurd (omega arith)

plus-right : (b : ℕ) (s : List ℕ) → ¬ (b ≡ 45) → (g : Got) → ReadTo 0 15 (b ∷ s) g → Found small (b ∷ s) g
plus-right b s nb (value n l) r =
    let e : shown small n ≡ decimal n = small_low n (omega (arith, r.permitted.1)) in
    record {
      permitted = omega (arith, r.permitted.1);
      starts = r.starts ∙ ap (λ (z : List ℕ). z ++ drop l (b ∷ s)) (sym e);
      long = r.long ∙ ap length (sym e);
      longest = λ c q w d m u t h ct x. ⊎_elim
          (λ k. no_minus n (c ∷ u) (decimal (32 - m) ++ t) (ap (λ (z : List ℕ). z ++ (c ∷ u)) (sym e) ∙ x ∙ ap (λ (z : List ℕ). z ++ t) (small-high m k)))
          (λ k. r.longest c q w d m u t (omega arith) ct (ap (λ (z : List ℕ). z ++ (c ∷ u)) (sym e) ∙ x ∙ ap (λ (z : List ℕ). z ++ t) (small_low m k)))
          (le-or-lt 16 m);
    }
plus-right b s nb (fault p) r = subst (λ (z : ℕ). Stuck small (b ∷ s) z) (sym r.0) (record {
  there = omega arith;
  goes_on = (0, decimal 0, omega arith, sym (small_low 0 (omega arith)));
  stops = λ h u w t wl ct x. ⊎_elim
      (λ k. let q : b ∷ u ≡ 45 ∷ (decimal (32 - w) ++ t) = x ∙ ap (λ (z : List ℕ). z ++ t) (small-high w k) in nb (let z : b ≡ 45 = cc in z))
      (λ k. r.1 b s refl w u t (omega arith) (omega arith) (x ∙ ap (λ (z : List ℕ). z ++ t) (small_low w k)))
      (le-or-lt 16 w);
  none = λ w t wl ct x. ⊎_elim
      (λ k. let q : b ∷ s ≡ 45 ∷ (decimal (32 - w) ++ t) = x ∙ ap (λ (z : List ℕ). z ++ t) (small-high w k) in nb (let z : b ≡ 45 = cc in z))
      (λ k. r.1 b s refl w s t (omega arith) (omega arith) (x ∙ ap (λ (z : List ℕ). z ++ t) (small_low w k)))
      (le-or-lt 16 w);
})

minus-right : (s : List ℕ) (g : Got) → ReadTo 1 16 s g → Found small (45 ∷ s) (negative g)
minus-right s (value n l) r =
    let back : 32 - (32 - n) ≡ n = omega (arith, r.permitted.1) in
    let e : shown small (32 - n) ≡ 45 ∷ decimal n = small-high (32 - n) (omega (arith, r.permitted.1)) ∙ ap (λ (z : ℕ). 45 ∷ decimal z) back in
    record {
      permitted = omega (arith, r.permitted.0);
      starts = ap (λ (z : List ℕ). 45 ∷ z) r.starts ∙ ap (λ (z : List ℕ). z ++ drop l s) (sym e);
      long = ap suc r.long ∙ ap length (sym e);
      longest = λ c q w d m u t h ct x. ⊎_elim
          (λ k. r.longest c q w d (32 - m) u t (omega arith) ct (tails (ap (λ (z : List ℕ). z ++ (c ∷ u)) (sym e) ∙ x ∙ ap (λ (z : List ℕ). z ++ t) (small-high m k))))
          (λ k. no_minus m t (decimal n ++ (c ∷ u)) (sym (ap (λ (z : List ℕ). z ++ (c ∷ u)) (sym e) ∙ x ∙ ap (λ (z : List ℕ). z ++ t) (small_low m k))))
          (le-or-lt 16 m);
    }
  where
    tails : {a b : List ℕ} → 45 ∷ a ≡ 45 ∷ b → a ≡ b
    tails q = cc
minus-right s (fault p) r = subst (λ (z : ℕ). Stuck small (45 ∷ s) (suc z)) (sym r.0) (record {
  there = omega arith;
  goes_on = (16, decimal 16, omega arith, sym (small-high 16 (omega arith)));
  stops = none s r.1;
  none = never s r.1;
})
  where
    never : (s : List ℕ) → NoneBegins 1 16 s → (w : ℕ) (t : List ℕ) → w < 32 → Clean t → ¬ (45 ∷ s ≡ shown small w ++ t)
    never s k w t wl ct x = ⊎_elim
        (λ g. begun s k (32 - w) (omega arith) (omega arith) (let q : 45 ∷ s ≡ 45 ∷ (decimal (32 - w) ++ t) = x ∙ ap (λ (z : List ℕ). z ++ t) (small-high w g) in let z : s ≡ decimal (32 - w) ++ t = cc in z))
        (λ g. no_minus w t s (sym (x ∙ ap (λ (z : List ℕ). z ++ t) (small_low w g))))
        (le-or-lt 16 w)
      where
        begun : (s : List ℕ) → NoneBegins 1 16 s → (m : ℕ) → 1 ≤ m → m ≤ 16 → ¬ (s ≡ decimal m ++ t)
        begun [] k m a b q = no-empty m t q
        begun (c ∷ s) k m a b q = k c s refl m s t a b q

    none : (s : List ℕ) → NoneBegins 1 16 s → 1 < length (45 ∷ s) → (u : List ℕ) (w : ℕ) (t : List ℕ) → w < 32 → Clean t → ¬ (take 2 (45 ∷ s) ++ u ≡ shown small w ++ t)
    none [] k h u w t wl ct x = absurd (omega arith)
    none (b ∷ s) k h u w t wl ct x = ⊎_elim
        (λ g. let q : 45 ∷ (b ∷ u) ≡ 45 ∷ (decimal (32 - w) ++ t) = x ∙ ap (λ (z : List ℕ). z ++ t) (small-high w g) in
        k b s refl (32 - w) u t (omega arith) (omega arith) (let z : b ∷ u ≡ decimal (32 - w) ++ t = cc in z))
        (λ g. no_minus w t (b ∷ u) (sym (x ∙ ap (λ (z : List ℕ). z ++ t) (small_low w g))))
        (le-or-lt 16 w)

small-apart : (v w : ℕ) (t u : List ℕ) → v < 32 → w < 32 → Clean t → Clean u → shown small v ++ t ≡ shown small w ++ u → (v ≡ w) × (t ≡ u)
small-apart v w t u hv hw ht hu q = ⊎_elim
    (λ a. ⊎_elim
    (λ b. let r = decimal-apart (32 - v) (32 - w) t u ht hu (tails (ap (λ (z : List ℕ). z ++ t) (sym (small-high v a)) ∙ q ∙ ap (λ (z : List ℕ). z ++ u) (small-high w b))) in (omega (arith, r.0), r.1))
    (λ b. absurd (no_minus w u (decimal (32 - v) ++ t) (sym (ap (λ (z : List ℕ). z ++ t) (sym (small-high v a)) ∙ q ∙ ap (λ (z : List ℕ). z ++ u) (small_low w b)))))
    (le-or-lt 16 w))
    (λ a. ⊎_elim
    (λ b. absurd (no_minus v t (decimal (32 - w) ++ u) (ap (λ (z : List ℕ). z ++ t) (sym (small_low v a)) ∙ q ∙ ap (λ (z : List ℕ). z ++ u) (small-high w b))))
    (λ b. decimal-apart v w t u ht hu (ap (λ (z : List ℕ). z ++ t) (sym (small_low v a)) ∙ q ∙ ap (λ (z : List ℕ). z ++ u) (small_low w b)))
    (le-or-lt 16 w))
    (le-or-lt 16 v)
  where
    tails : {a b : List ℕ} → 45 ∷ a ≡ 45 ∷ b → a ≡ b
    tails q = cc

-- ---- every operand

pub operand-right : (o : Operand) → Some o → (s : List ℕ) → Found o s (read_operand o s)
operand-right (below n) h s = plain-right (below n) (n - 1) (omega arith) (λ v. refl) s (read_decimal 0 (n - 1) s) (read_right 0 (n - 1) (omega arith) (omega arith) s)
operand-right wide h s = plain-right wide 8191 refl (λ v. refl) s (read_decimal 0 8191 s) (read_right 0 8191 (omega arith) (omega arith) s)
operand-right small h [] = record {
  there = omega arith;
  goes_on = (0, decimal 0, omega arith, sym (small_low 0 (omega arith)));
  stops = λ k. absurd (omega arith);
  none = λ w t wl ct x. ⊎_elim (λ k. absurd (nothing (x ∙ ap (λ (z : List ℕ). z ++ t) (small-high w k)))) (λ k. no-empty w t (x ∙ ap (λ (z : List ℕ). z ++ t) (small_low w k))) (le-or-lt 16 w);
}
  where
    nothing : {b : ℕ} {l : List ℕ} → [] ≡ b ∷ l → ⊥
    nothing q = let z : ◌≡◌ {A = ℕ} 0 1 = cc in omega arith
operand-right small h (b ∷ s) = go (eqb b 45) refl
  where
    go : (t : Bool) → eqb b 45 ≡ t → Found small (b ∷ s) (cond t (negative (read_decimal 1 16 s)) (read_decimal 0 15 (b ∷ s)))
    go true e = subst (λ (z : ℕ). Found small (z ∷ s) (negative (read_decimal 1 16 s))) (sym (eqb-true b 45 e))
        (minus-right s (read_decimal 1 16 s) (read_right 1 16 (omega arith) (omega arith) s))
    go false e = plus-right b s (eqb-false b 45 e) (read_decimal 0 15 (b ∷ s)) (read_right 0 15 (omega arith) (omega arith) (b ∷ s))

pub operand-apart : (o : Operand) → (v w : ℕ) (t u : List ℕ) → v < operand_count o → w < operand_count o → Clean t → Clean u → shown o v ++ t ≡ shown o w ++ u → (v ≡ w) × (t ≡ u)
operand-apart (below n) v w t u hv hw ht hu q = decimal-apart v w t u ht hu q
operand-apart wide v w t u hv hw ht hu q = decimal-apart v w t u ht hu q
operand-apart small v w t u hv hw ht hu q = small-apart v w t u hv hw ht hu q
