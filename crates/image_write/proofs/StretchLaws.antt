-- Stretches of marks that all have one value.
use Rattle.numbers.proofs.Kit.{◌≡◌, ◌∙◌, subst, ◌⊎◌, inl, inr, Bool, true, false, List, ℕ, ◌+◌, ◌-◌, ◌≤◌, ◌<◌, arith, eqb, get_or, eqb-true, eq-eqb, ne_eqb}
use Rattle.numbers.proofs.BlockLaws.{le-or-lt}
use Rattle.machine.specs.Tests.{all}
use Rattle.machine.proofs.TestLaws.{all-at}
use Rattle.unit_address.proofs.TestLaws.{all_same, all-not}
use Rattle.image_write.specs.Parts.{Stretch}

module _ (ms : List ℕ) (p i value : ℕ) where
  pub block-bad : ¬ (get_or ms (p + i) 0 ≡ value) → false ≡ all (i + 1) (λ b. eqb (get_or ms (p + b) 0) value)
  block-bad h = all-not i (λ b. eqb (get_or ms (p + b) 0) value) (ne_eqb (get_or ms (p + i) 0) value h)

  pub block-good : (g : Bool) → get_or ms (p + i) 0 ≡ value → g ≡ all i (λ b. eqb (get_or ms (p + b) 0) value) → g ≡ all (i + 1) (λ b. eqb (get_or ms (p + b) 0) value)
  block-good g h e = e ∙ all_same i (λ b. eqb (get_or ms (p + b) 0) value) (eq-eqb (get_or ms (p + i) 0) value h)

abbrev pub AllSame : (ms : List ℕ) (from end value : ℕ) → Type 0
AllSame ms from end value = (q : ℕ) → from ≤ q → q < end → get_or ms q 0 ≡ value

-- one mark more, and a block more
pub one_more : (ms : List ℕ) (from i value : ℕ) → AllSame ms from i value → get_or ms i 0 ≡ value → AllSame ms from (i + 1) value
one_more ms from i value h e q k l = go (le-or-lt i q)
  where
    go : (i ≤ q) ⊎ (q < i) → get_or ms q 0 ≡ value
    go (inl m) = let same : i ≡ q = omega arith in subst (λ (x : ℕ). get_or ms x 0 ≡ value) same e
    go (inr m) = h q k m

pub block_more : (ms : List ℕ) (from i n value : ℕ) → AllSame ms from i value → all n (λ b. eqb (get_or ms (i + b) 0) value) ≡ true → AllSame ms from (i + n) value
block_more ms from i n value h e q k l = go (le-or-lt i q)
  where
    go : (i ≤ q) ⊎ (q < i) → get_or ms q 0 ≡ value
    go (inl m) =
        let there : i + (q - i) ≡ q = omega arith in
        subst (λ (x : ℕ). get_or ms x 0 ≡ value) there
        (eqb-true (get_or ms (i + (q - i)) 0) value (all-at n (λ b. eqb (get_or ms (i + b) 0) value) e (q - i) (omega arith)))
    go (inr m) = h q k m

-- a stretch, then another behind it
pub joined : (ms : List ℕ) (from near value end : ℕ) → AllSame ms from near value → AllSame ms near end value → AllSame ms from end value
joined ms from near value end h g q k l = go (le-or-lt near q)
  where
    go : (near ≤ q) ⊎ (q < near) → get_or ms q 0 ≡ value
    go (inl m) = g q m l
    go (inr m) = h q k m

-- marks of the value, then a stretch behind them; one that ends before its own limit ends so before any other
pub behind : (ms : List ℕ) (from at limit value end : ℕ) → from ≤ at → AllSame ms from at value → Stretch ms at limit value end → Stretch ms from limit value end
behind ms from at limit value end h same s =
    record {
      to = record {
        from-there = omega (arith, h, s.to.from-there);
        in-marks = s.to.in-marks;
        all_same = joined ms from at value end same s.to.all_same;
      };
      within = s.within;
      other = s.other;
    }

pub within-limit : (ms : List ℕ) (from near limit value end : ℕ) → end < near → near ≤ limit → Stretch ms from near value end → Stretch ms from limit value end
within-limit ms from near limit value end h k s = record { to = s.to; within = omega arith; other = λ l. s.other h }

pub below : (a b : ℕ) → a ≤ b → ¬ (a ≡ b) → a < b
below a b h n = go (le-or-lt b a)
  where
    go : (b ≤ a) ⊎ (a < b) → a < b
    go (inl k) = absurd (n (omega arith))
    go (inr k) = k
