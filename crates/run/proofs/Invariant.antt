-- The invariant of a run: what an accepted start says, what each step does, and what holds at each place.
use Rattle.numbers.proofs.Kit.{◌≡◌, Bool, true, false, List, ℕ, zero, ◌+◌, ◌*◌, ◌≤◌, ◌<◌, length, get_or, pos}
use Rattle.numbers.specs.Tile.{In}
use Rattle.numbers.specs.Blocks.{Grants}
use Rattle.machine.specs.declared.Form.TheVariants.{Plain}
use Rattle.machine.specs.declared.Matrix.TheVariants.{MatrixA, MatrixB, MatrixC}
use Rattle.machine.specs.declared.Dimension.TheVariants.{DimensionM, DimensionK, DimensionN}
use Rattle.machine.specs.Geometry.{State, tile_at, acc_at}
use Rattle.machine.specs.Setting.{sew, mill, new_type}
use Rattle.machine.specs.TransferWords.{width_of}
use Rattle.machine.specs.ArithmeticWords.{width_ok}
use Rattle.machine.specs.Memory.{inside, rows_miss}
use Rattle.machine.specs.Operation.{Operation, element}
use Rattle.run.specs.declared.Plan.{Plan}
use Rattle.run.specs.declared.Place.{Place}
use Rattle.run.specs.declared.Place.TheVariants.{AtType, AtM, AtN, AtClear, AtK, AtA, AtB, AtMultiply, AtStore, AtEnd}
use Rattle.run.specs.Words.{Op, size_m, size_n, size_k}
use Rattle.run.specs.Plan.{elements_of, Job, OutsideKept, shape, narrow, wide, type_of, a_at, b_at, c_at, form_of, a_row, a_column, a_rows, a_columns, a_of, b_of, OfC, total, product_of}
use Rattle.run.proofs.NumberLaws.{Suits, multiply_of}

-- the operation of a step
abbrev pub operation_of : Plan → Op → Operation
operation_of P Op.set_type = Operation.set_type (type_of P)
operation_of P (Op.set_m a) = Operation.set_size DimensionM a
operation_of P (Op.set_k a) = Operation.set_size DimensionK a
operation_of P (Op.set_n a) = Operation.set_size DimensionN a
operation_of P Op.clear = Operation.scale P.factor 0 0 (pos 0)
operation_of P (Op.load_a i s) = Operation.load (form_of P) MatrixA 0 (narrow P) (a_at P (a_row P i s) + a_column P i s * narrow P) P.a.stride
operation_of P (Op.load_b s j) = Operation.load Plain MatrixB 1 (narrow P) (b_at P s + j * narrow P) P.b.stride
operation_of P Op.multiply = multiply_of (elements_of P) P.factor
operation_of P (Op.store i j) = Operation.store Plain MatrixC 0 (wide P) (c_at P i + j * wide P) P.c.stride

-- what an accepted start says
pub record Accepted (J : Job) (isSealed : ℕ → Bool) : Type 0 where
  pub grants : Grants J.parameters.grant
  pub 0<narrow : zero < narrow J.plan
  pub 0<rows : zero < J.parameters.rows
  pub row-holds : narrow J.plan ≤ J.parameters.pitch
  pub factor≤4 : J.plan.factor ≤ 4
  pub legal : new_type J.parameters.elen (type_of J.plan) ≡ type_of J.plan
  pub no-mill : mill (type_of J.plan) ≡ false
  pub sew-is : sew (type_of J.plan) ≡ narrow J.plan
  pub width : width_ok J.parameters.elen (type_of J.plan) J.plan.factor ≡ true
  pub c-width : width_of J.parameters.elen (type_of J.plan) MatrixC (wide J.plan) ≡ true
  pub 0<wide : zero < wide J.plan
  pub suits : Suits (elements_of J.plan) J.plan.factor (narrow J.plan)
  pub bytes : (q : ℕ) → get_or J.memory q 0 < 256
  pub a_in : inside (length J.memory) J.plan.a.address J.plan.a.stride (a_rows J.plan) (a_columns J.plan * narrow J.plan) ≡ true
  pub b-in : inside (length J.memory) J.plan.b.address J.plan.b.stride J.plan.k (J.plan.n * narrow J.plan) ≡ true
  pub c-in : inside (length J.memory) J.plan.c.address J.plan.c.stride J.plan.m (J.plan.n * wide J.plan) ≡ true
  pub c-unsealed : rows_miss isSealed J.plan.c.address J.plan.c.stride J.plan.m (J.plan.n * wide J.plan) ≡ true
  pub c-rows : (i k q : ℕ) → i < k → k < J.plan.m → In (c_at J.plan i) (J.plan.n * wide J.plan) q → ¬ In (c_at J.plan k) (J.plan.n * wide J.plan) q
  pub c-a : (i q : ℕ) → i < a_rows J.plan → In (a_at J.plan i) (a_columns J.plan * narrow J.plan) q → ¬ OfC J q
  pub c-b : (l q : ℕ) → l < J.plan.k → In (b_at J.plan l) (J.plan.n * narrow J.plan) q → ¬ OfC J q

-- ---- the invariant

-- the sum of the first s products of C(i, j): with s = k it is `product_of`
abbrev pub partial : Job → ℕ → ℕ → ℕ → ℕ
partial J i j s = total (elements_of J.plan) (wide J.plan) (narrow J.plan) (λ l. a_of J i l) (λ l. b_of J l j) s

pub record Registers (J : Job) (regs marks : List ℕ) : Type 0 where
  pub regs-length : length regs ≡ 16 * (J.parameters.rows * J.parameters.pitch)
  pub marks-length : length marks ≡ 16 * (J.parameters.rows * J.parameters.pitch)

-- the elements of the first i rows of C are the products'
abbrev pub RowsDone : Job → ℕ → List ℕ → Type 0
RowsDone J i mem = (r c : ℕ) → r < i → r < J.plan.m → c < J.plan.n → element mem (c_at J.plan) (wide J.plan) r c ≡ product_of J r c

-- and those of the first j columns of the block of rows from i on
abbrev pub ColsDone : Job → ℕ → ℕ → List ℕ → Type 0
ColsDone J i j mem = (r c : ℕ) → r < size_m (shape J) i → c < j → c < J.plan.n → element mem (c_at J.plan) (wide J.plan) (i + r) c ≡ product_of J (i + r) c

-- a tile of a register holds these values, and every byte of it has its mark
pub record Holds (at : ℕ → ℕ) (rows cols w : ℕ) (value : ℕ → ℕ → ℕ) (regs marks : List ℕ) : Type 0 where
  pub values : (r c : ℕ) → r < rows → c < cols → element regs at w r c ≡ value r c
  pub written : (r b : ℕ) → r < rows → b < cols * w → get_or marks (at r + b) 0 ≡ 1

abbrev pub HoldsC : Job → ℕ → ℕ → ℕ → List ℕ → List ℕ → Type 0
HoldsC J i j s regs marks = Holds (acc_at J.parameters 0) (size_m (shape J) i) (size_n (shape J) j) (wide J.plan) (λ r c. partial J (i + r) (j + c) s) regs marks

abbrev pub HoldsA : Job → ℕ → ℕ → List ℕ → List ℕ → Type 0
HoldsA J i s regs marks = Holds (tile_at J.parameters 0) (size_m (shape J) i) (size_k (shape J) s) (narrow J.plan) (λ r c. a_of J (i + r) (s + c)) regs marks

abbrev pub HoldsB : Job → ℕ → ℕ → List ℕ → List ℕ → Type 0
HoldsB J s j regs marks = Holds (tile_at J.parameters 1) (size_k (shape J) s) (size_n (shape J) j) (narrow J.plan) (λ r c. b_of J (s + r) (j + c)) regs marks

-- at the head of the loop over rows, columns and terms
pub record InM (J : Job) (i : ℕ) (st : State) (mem : List ℕ) : Type 0 where
  pub registers : Registers J st.regs st.marks
  pub kept : OutsideKept J mem
  pub rows-done : RowsDone J i mem
  pub typed : st.mtype ≡ type_of J.plan

pub record InN (J : Job) (i j : ℕ) (st : State) (mem : List ℕ) : Type 0 where
  pub in-m : InM J i st mem
  pub i<m : i < J.plan.m
  pub tile-m : st.tile_m ≡ size_m (shape J) i
  pub cols-done : ColsDone J i j mem

pub record InBlock (J : Job) (i j : ℕ) (st : State) (mem : List ℕ) : Type 0 where
  pub in-n : InN J i j st mem
  pub j<n : j < J.plan.n
  pub tile-n : st.tile_n ≡ size_n (shape J) j

pub record InK (J : Job) (i j s : ℕ) (st : State) (mem : List ℕ) : Type 0 where
  pub in_block : InBlock J i j st mem
  pub s≤k : s ≤ J.plan.k
  pub holds-c : HoldsC J i j s st.regs st.marks

pub record InTerms (J : Job) (i j s : ℕ) (st : State) (mem : List ℕ) : Type 0 where
  pub in-k : InK J i j s st mem
  pub s<k : s < J.plan.k
  pub tile-k : st.tile_k ≡ size_k (shape J) s

-- what holds at each place of a run
abbrev pub At : Job → Place → State → List ℕ → Type 0
At J AtType st mem = Registers J st.regs st.marks × OutsideKept J mem
At J (AtM i) st mem = InM J i st mem × (i < J.plan.m)
At J (AtN i j) st mem = InN J i j st mem × (j < J.plan.n)
At J (AtClear i j) st mem = InBlock J i j st mem
At J (AtK i j s) st mem = InK J i j s st mem × (s < J.plan.k)
At J (AtA i j s) st mem = InTerms J i j s st mem
At J (AtB i j s) st mem = InTerms J i j s st mem × HoldsA J i s st.regs st.marks
At J (AtMultiply i j s) st mem = InTerms J i j s st mem × HoldsA J i s st.regs st.marks × HoldsB J s j st.regs st.marks
At J (AtStore i j) st mem = InK J i j J.plan.k st mem
At J AtEnd st mem = OutsideKept J mem × RowsDone J J.plan.m mem
