-- A float run on whole numbers within 2^24 is exact.
use Rattle.numbers.proofs.Kit.{◌≡◌, sym, ap, ◌∙◌, subst, Bool, cond, ℕ, ℤ, ◌*ℤ◌, eq-eqb}
use Rattle.numbers.specs.Reduce.{sumℤ}
use Rattle.machine.specs.Setting.{chosen}
use Rattle.run.specs.Plan.{Job, integers, floats, narrow, wide, a_of, b_of, total, product_of}
use Rattle.run.specs.Statement.{job_of}
use Rattle.run.proofs.Demand3.{demand-3}
use Rattle.theorem_exact.specs.Exact.{WholeNumbers, Exactly, FloatRunsAreExact, WholeRunsAreExact}
use Rattle.theorem_exact.proofs.WholeLaws.{whole-exact}

-- what an entry is proved to be, of a float run's job
module _ (J : Job) (i j entry : ℕ) (x y : ℕ → ℤ) where
  entry-exact : J.plan.kind ≡ 2 → entry ≡ product_of J i j → WholeNumbers J.plan.k (λ l. a_of J i l) (λ l. b_of J l j) x y
      → Exactly entry (sumℤ J.plan.k (λ l. x l *ℤ y l))
  unfolding total
  entry-exact kind e w =
      let P = J.plan in
      let a : ℕ → ℕ = λ l. a_of J i l in
      let b : ℕ → ℕ = λ l. b_of J l j in
      subst (λ (bits : ℕ). Exactly bits (sumℤ P.k (λ l. x l *ℤ y l)))
      (sym (e ∙ ap (λ (t : Bool). total (cond t floats integers) (wide P) (narrow P) a b P.k) (eq-eqb P.kind 2 kind)))
      (whole-exact P.k a b x y w)

pub float-runs-are-exact : FloatRunsAreExact
float-runs-are-exact grant G P B bytes kind started t i j l li lj x y w =
    entry-exact (job_of grant P B) i j _ x y kind (((demand-3 grant G P B bytes).turns started t).product l i j li lj) w

pub whole-runs-are-exact : WholeRunsAreExact
whole-runs-are-exact P B o d kind done i j li lj x y w = entry-exact (job_of chosen P B) i j _ x y kind (d.product done i j li lj) w
