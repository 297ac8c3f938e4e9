use Rattle.numbers.proofs.Kit.{◌≡◌, sym, ap₂, ◌∙◌, Bool, true, false, List, map, some, ℕ, ◌+◌, ◌*◌, ◌-◌, ◌^◌, ◌≤◌, mul-le-mul, length, drop, get_or, ℤ}
use Rattle.numbers.proofs.Kit.{le-leb, eq-eqb, arith}
use Rattle.machine.specs.Tests.{all_of}
use Rattle.run.specs.Start.{format}
use Rattle.std.specs.Prelude.{None}
use Rattle.product_text.specs.Problem.{posed}
use Rattle.product_text.specs.Parts.{held, inside}
use Rattle.product_text.proofs.ListLaws.{rest_of}
use Rattle.product_text.proofs.ProblemLaws.{Five, asked, held_tests, format-sew, refuses, accepts}
use Rattle.product_text.proofs.check.Goals as goal
use Rattle.product_text.proofs.check.Goals.{After-each_inside, After-size-n, Else-n-gt16, Else-not-is_format}

abbrev xs : After-size-n → List ℕ
xs c = c.args.xs.now

abbrev sew : After-size-n → ℕ
sew c = c.size-sew.result

abbrev factor : After-size-n → ℕ
factor c = c.size-factor.result

abbrev m : After-size-n → ℕ
m c = c.size-m.result

abbrev k : After-size-n → ℕ
k c = c.size-k.result

abbrev n : After-size-n → ℕ
n c = c.size-n.result

five : (c : After-size-n) → Five (xs c) (sew c) (factor c) (m c) (k c) (n c)
five c = record {
  long = omega arith;
  at0 = c.size-sew.ensures;
  at1 = c.size-factor.ensures;
  at2 = c.size-m.ensures;
  at3 = c.size-k.ensures;
  at4 = c.size-n.ensures;
}

abbrev the_tests : After-size-n → List Bool
the_tests c = held_tests (xs c) (sew c) (factor c) (m c) (k c) (n c)

-- test i fails
fails : (c : After-size-n) (i : ℕ) → get_or (the_tests c) i true ≡ false → (zs : List ℤ) → map held zs ≡ xs c → None ≡ asked (posed (some zs))
fails c i t zs e = refuses zs (xs c) e (sew c) (factor c) (m c) (k c) (n c) (five c) i t

-- what the tests that have passed say
formatted : (c : Else-not-is_format) → format 32 (sew (goal.at.Else-not-is_format c).After-size-n) (factor (goal.at.Else-not-is_format c).After-size-n) ≡ true
formatted c = sym c.is_format.ensures ∙ c.if-not-is_format.false

products : (c : Else-n-gt16) → (m (goal.at.Else-n-gt16 c).After-size-n * k (goal.at.Else-n-gt16 c).After-size-n ≤ 256) × (k (goal.at.Else-n-gt16 c).After-size-n * n (goal.at.Else-n-gt16 c).After-size-n ≤ 256)
products c = (mul-le-mul c.if-m-gt16.false c.if-k-gt16.false, mul-le-mul c.if-k-gt16.false c.if-n-gt16.false)

elements : (c : After-each_inside) → c.each_inside.result ≡ all_of (inside (2 ^ (sew (goal.at.After-each_inside c).After-size-n - 1))) (drop 5 (xs (goal.at.After-each_inside c).After-size-n))
elements c = c.each_inside.ensures ∙ ap₂ (λ (h : ℕ) (l : List ℕ). all_of (inside h) l) c.half.ensures.0 (rest_of 5 (xs (goal.at.After-each_inside c).After-size-n))

-- ---- the rules

pub returns-then-not-is_format : goal.returns-then-not-is_format
returns-then-not-is_format c = fails (goal.at.returns-then-not-is_format c).After-size-n 0 (sym c.is_format.ensures ∙ c.if-not-is_format.true)

pub half-requires : goal.half-requires
half-requires c =
    let d = (goal.at.half-requires c).After-size-n in
    format-sew (sew d) (factor d) (formatted (goal.at.half-requires c).Else-not-is_format)

pub returns-then-not-each_inside : goal.returns-then-not-each_inside
returns-then-not-each_inside c =
    fails (goal.at.returns-then-not-each_inside c).After-size-n 5 (sym (elements (goal.at.returns-then-not-each_inside c).After-each_inside) ∙ c.if-not-each_inside.true)

pub returns : goal.returns
returns c =
    let d = (goal.at.returns c).After-size-n in
    λ zs e. accepts zs (xs d) e (sew d) (factor d) (m d) (k d) (n d) (five d) (
      formatted (goal.at.returns c).Else-not-is_format,
      (
        le-leb (m d) 16 c.if-m-gt16.false,
        (
          le-leb (k d) 16 c.if-k-gt16.false,
          (
            le-leb (n d) 16 c.if-n-gt16.false,
            (
              eq-eqb (length (xs d)) (5 + m d * k d + k d * n d) (omega arith),
              (sym (elements (goal.at.returns c).After-each_inside) ∙ c.if-not-each_inside.false, tt),
            ),
          ),
        ),
      ),
    )
