-- A plan: its widths, the rows of its matrices in memory, and the product that C shall be.
use Rattle.std.specs.Prelude.{◌≡◌, ◌+◌, ◌*◌, ◌/◌, ◌^◌, ◌<◌, ◌*ℤ◌}
use Rattle.numbers.specs.Kit.{cond, List, ℕ, eqb, length, get_or}
use Rattle.numbers.specs.Reduce.{signed, reduce, sumℤ}
use Rattle.numbers.specs.Binary32.{value_of, settled, float_sum, plus_zero}
use Rattle.numbers.specs.Tile.{In}
use Rattle.machine.specs.declared.Form.{Form}
use Rattle.machine.specs.declared.Form.TheVariants.{Plain, Transposed}
use Rattle.machine.specs.Geometry.{Parameters}
use Rattle.machine.specs.Setting.{max_m, max_k, max_n}
use Rattle.machine.specs.Memory.{row_at}
use Rattle.machine.specs.Operation.{element, memory_rows, memory_cols, placed}
use Rattle.run.specs.declared.Plan.{Plan}
use Rattle.run.specs.Words.{Shape}

-- bytes of an element of A and B, "the elements of SEW bits", and of C: "C's elements have f x SEW bits"
unfoldable pub narrow : Plan → ℕ
narrow P = P.sew / 8

abbrev pub wide : Plan → ℕ
wide P = P.factor * narrow P

-- msew, and the run's mtype: "maccq is set only for f = 4"
unfoldable pub msew : Plan → ℕ
msew P = cond (eqb P.sew 64) 3 (cond (eqb P.sew 32) 2 (cond (eqb P.sew 16) 1 0))

unfoldable pub type_of : Plan → ℕ
type_of P = msew P + cond (eqb P.factor 4) 8 0

-- "Row i of a matrix lies at its address + i x its stride, as whole numbers"
abbrev pub a_at : Plan → ℕ → ℕ
a_at P i = row_at P.a.address P.a.stride i

abbrev pub b_at : Plan → ℕ → ℕ
b_at P i = row_at P.b.address P.b.stride i

abbrev pub c_at : Plan → ℕ → ℕ
c_at P i = row_at P.c.address P.c.stride i

-- 02, Two: "Add a product run in which A is kept transposed": that of kind 1, which loads A transposed; all else of a run is the same
abbrev pub form_of : Plan → Form
form_of P = cond (eqb P.kind 1) Transposed Plain

-- 02, Four: "A float product run is the integer run at f = 1 with this multiply": that of kind 2, whose elements are binary32 numbers
pub data Elements : Type 0 where
  integers : Elements
  floats : Elements

abbrev pub elements_of : Plan → Elements
elements_of P = cond (eqb P.kind 2) floats integers

-- where element (i, l) of A is kept: row i, element l; "A(i, l) is element i of row l in memory" where A is kept transposed
abbrev pub a_row : Plan → ℕ → ℕ → ℕ
a_row P i l = memory_rows (form_of P) i l

abbrev pub a_column : Plan → ℕ → ℕ → ℕ
a_column P i l = memory_cols (form_of P) i l

-- A's rows in memory, and the elements of each: m rows of k, or transposed k rows of m
abbrev pub a_rows : Plan → ℕ
a_rows P = memory_rows (form_of P) P.m P.k

abbrev pub a_columns : Plan → ℕ
a_columns P = memory_cols (form_of P) P.m P.k

-- a machine, a plan and the memory at the start
pub record Job : Type 0 where
  pub parameters : Parameters
  pub plan : Plan
  pub memory : List ℕ

-- the sizes and the maxima that its blocks go by
abbrev pub shape : Job → Shape
shape J = record {
  grant = J.parameters.grant;
  tm = max_m J.parameters (type_of J.plan);
  tk = max_k J.parameters (type_of J.plan);
  tn = max_n J.parameters (type_of J.plan);
  m = J.plan.m;
  k = J.plan.k;
  n = J.plan.n;
}

-- the sum of the first s of the products a(l) x b(l): of residues, signed, reduced to `wide` bytes in two's complement; of binary32
-- elements "bit for bit, the plain sum from +0 in rising k under the same rules"
unfoldable pub total : Elements → (wide narrow : ℕ) → (a b : ℕ → ℕ) → ℕ → ℕ
total integers wide narrow a b s = reduce (256 ^ wide) (sumℤ s (λ l. signed (256 ^ narrow) (a l) *ℤ signed (256 ^ narrow) (b l)))
total floats wide narrow a b s = settled (float_sum plus_zero s (λ l. value_of (a l)) (λ l. value_of (b l)))

-- A(i, l) and B(l, j) "are the elements of SEW bits .. that memory held at the start", as bits, which `total` reads; and of a run that keeps A transposed,
-- "A(i, l) is element i of row l in memory"
abbrev pub a_of : Job → ℕ → ℕ → ℕ
a_of J = placed (form_of J.plan) (element J.memory (a_at J.plan) (narrow J.plan))

abbrev pub b_of : Job → ℕ → ℕ → ℕ
b_of J = element J.memory (b_at J.plan) (narrow J.plan)

-- "C(i, j) is the sum, for l from 0 to k - 1, of A(i, l) x B(l, j), reduced to f x SEW bits in two's complement; with k = 0 it is 0.";
-- of a float run the sum above
abbrev pub product_of : Job → ℕ → ℕ → ℕ
product_of J i j = total (elements_of J.plan) (wide J.plan) (narrow J.plan) (λ l. a_of J i l) (λ l. b_of J l j) J.plan.k

-- byte q is one of C's elements: "A row's bytes are those of its elements"
abbrev pub OfC : Job → ℕ → Type 0
OfC J q = (i : ℕ) × (i < J.plan.m) × In (c_at J.plan i) (J.plan.n * wide J.plan) q

-- "the memory outside C's elements is as at the start"
pub record OutsideKept (J : Job) (mem : List ℕ) : Type 0 where
  pub same_length : length mem ≡ length J.memory
  pub outside : (q : ℕ) → ¬ OfC J q → get_or mem q 0 ≡ get_or J.memory q 0
