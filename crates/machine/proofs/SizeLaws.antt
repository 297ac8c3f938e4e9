-- The choice of sizes: both rules keep the draft's three constraints; and, for code, how a size is reckoned.
use Rattle.numbers.proofs.Kit.{◌≡◌, refl, Bool, true, false, cond, ◌&&◌, ℕ, ◌+◌, ◌-◌, ◌*◌, ◌/◌, ◌≤◌, ◌<◌, min, arith, ltb, eqb, ltb-true, ltb-false, lt-ltb}
use Rattle.numbers.proofs.Kit.{le-ltb}
use Rattle.numbers.specs.Blocks.{Grants}
use Rattle.machine.proofs.TestLaws.{same_test}
use Rattle.machine.specs.Setting.{smaller, halving, chosen}
use Rattle.machine.specs.Theorems.{RulesKeepConstraints}

smaller-grants : Grants smaller
smaller-grants = record { small = λ m a h. omega arith; middle = λ m a h. omega arith; large = λ m a h. omega arith }

halving-grants : Grants halving
unfolding halving
halving-grants = record {
  small = λ m a h. rw (le-ltb m a h) (omega arith);
  middle = λ m a h. rw (lt-ltb a (2 * m) h) (half m a (ltb m a) refl h);
  large = λ m a h. rw (le-ltb a (2 * m) h) (whole m a (ltb m a) h);
}
  where
    half : (m a : ℕ) (t : Bool) → ltb m a ≡ t → a < 2 * m
        → (a ≤ 2 * cond (t && true) ((a + 1) / 2) (min a m)) × (cond (t && true) ((a + 1) / 2) (min a m) ≤ m)
    half m a true e h = omega arith
    half m a false e h = omega (arith, ltb-false m a e)

    whole : (m a : ℕ) (t : Bool) → 2 * m ≤ a → cond (t && false) ((a + 1) / 2) (min a m) ≡ m
    whole m a true h = omega arith
    whole m a false h = omega arith

pub chosen-grants : RulesKeepConstraints
unfolding chosen
chosen-grants rule = go (eqb rule 1)
  where
    go : (t : Bool) → Grants (cond t halving smaller)
    go true = halving-grants
    go false = smaller-grants

-- below twice the maximum, without a product that could wrap
pub below-twice : (max asked : ℕ) → max < asked → ltb (asked - max) max ≡ ltb asked (2 * max)
below-twice max asked h = same_test (ltb (asked - max) max) (ltb asked (2 * max))
    (λ t. lt-ltb asked (2 * max) (omega (arith, ltb-true (asked - max) max t)))
    (λ t. lt-ltb (asked - max) max (omega (arith, ltb-true asked (2 * max) t)))

pub chosen_by : (rule max asked : ℕ) (t : Bool) → t ≡ eqb rule 1 && (ltb max asked && ltb asked (2 * max))
    → cond t ((asked + 1) / 2) (min asked max) ≡ chosen rule max asked
unfolding chosen halving
chosen_by rule max asked t e = rw e (go (eqb rule 1))
  where
    go : (u : Bool) → cond (u && (ltb max asked && ltb asked (2 * max))) ((asked + 1) / 2) (min asked max) ≡ cond u halving smaller max asked
    go true = refl
    go false = refl
