-- 02, Four: "where all elements are whole numbers and all products and partial sums lie between -2^24 and 2^24, each entry is exactly the
-- whole-number sum". The proofs stand in proofs/.
use Rattle.numbers.specs.Kit.{Bool, cond, ℕ, ℤ, pos, neg_ℤ, nat_abs}
use Rattle.std.specs.Prelude.{Float, ◌≡◌, ◌*◌, ◌^◌, ◌≤◌, ◌<◌, ◌*ℤ◌}
use Rattle.std.specs.Float.{nan, inf, fin, binary32}
use Rattle.std.specs.Float.Ieee.{up, down, of_int}
use Rattle.numbers.specs.Reduce.{sumℤ}
use Rattle.numbers.specs.Binary32.{value_of, settled}
use Rattle.numbers.specs.Blocks.{Choice, EachGrants}
use Rattle.machine.specs.Geometry.{Bench}
use Rattle.machine.specs.Setting.{chosen}
use Rattle.machine.specs.Operation.{element}
use Rattle.run.specs.declared.Plan.{Plan}
use Rattle.run.specs.Words.{steps}
use Rattle.run.specs.Plan.{shape, wide, c_at, a_of, b_of}
use Rattle.run.specs.Start.{start_run}
use Rattle.run.specs.Turn.{after_turns}
use Rattle.run.specs.Statement.{MemoryBytes, job_of, started_run}
use Rattle.run.specs.Whole.{WholeOutcome, Delivers}

-- ---- whole numbers

-- n with a sign: -n where s is true
abbrev pub signed_by : Bool → ℕ → ℤ
signed_by s n = cond s (neg_ℤ (pos n)) (pos n)

-- x is the whole number z. The kit's `fin s m e` is m x 2^e with the sign s, and 2^e is the fraction up e / down e; +0 and -0 are both 0
abbrev pub Is : Float → ℤ → Type 0
Is nan z = ⊥
Is (inf s) z = ⊥
Is (fin s m e) z = signed_by s (m * up e) ≡ z *ℤ pos (down e)

-- "between -2^24 and 2^24"
abbrev pub Within24 : ℤ → Type 0
Within24 z = nat_abs z ≤ 2 ^ 24

-- the bits a(l) and b(l), for l below k, stand for the whole numbers x(l) and y(l), and the products and the partial sums are within the
-- bounds
pub record WholeNumbers (k : ℕ) (a b : ℕ → ℕ) (x y : ℕ → ℤ) : Type 0 where
  pub a-whole : (l : ℕ) → l < k → Is (value_of (a l)) (x l)
  pub b-whole : (l : ℕ) → l < k → Is (value_of (b l)) (y l)
  pub products : (l : ℕ) → l < k → Within24 (x l *ℤ y l)
  pub sums : (s : ℕ) → s ≤ k → Within24 (sumℤ s (λ l. x l *ℤ y l))

-- the bits stand for z, and they are those that binary32 has for it; of 0 those of +0
pub record Exactly (bits : ℕ) (z : ℤ) : Type 0 where
  pub value-is : Is (value_of bits) z
  pub bits_are : bits ≡ settled (of_int binary32 z)

-- ---- the theorems

-- of every choice of sizes under the three constraints, every plan of kind 2 and every bench on which its start is accepted: after all
-- turns and each later one, the entry C(i, j) is exactly the sum of the products of A's row i and B's column j, where these are whole
-- numbers within the bounds; of other rows and columns nothing is asked
abbrev pub FloatRunsAreExact : Type 0
FloatRunsAreExact = (grant : Choice) → EachGrants grant → (P : Plan) (B : Bench) → MemoryBytes B.memory → P.kind ≡ 2 → (start_run grant P B).answer.number ≡ 0
    → (t i j : ℕ) → steps (shape (job_of grant P B)) ≤ t → i < P.m → j < P.n
    → (x y : ℕ → ℤ) → WholeNumbers P.k (λ l. a_of (job_of grant P B) i l) (λ l. b_of (job_of grant P B) l j) x y
    → Exactly (element (after_turns grant (started_run grant P B) t).bench.memory (c_at P) (wide P) i j) (sumℤ P.k (λ l. x l *ℤ y l))

-- and so of what a whole float run delivers to a customer: the contract of `run_whole::whole` is this `Delivers`, for every plan and bench
abbrev pub WholeRunsAreExact : Type 0
WholeRunsAreExact = (P : Plan) (B : Bench) (o : WholeOutcome) → Delivers P B o → P.kind ≡ 2 → o.answer.number ≡ 0
    → (i j : ℕ) → i < P.m → j < P.n
    → (x y : ℕ → ℤ) → WholeNumbers P.k (λ l. a_of (job_of chosen P B) i l) (λ l. b_of (job_of chosen P B) l j) x y
    → Exactly (element o.bench.memory (c_at P) (wide P) i j) (sumℤ P.k (λ l. x l *ℤ y l))
