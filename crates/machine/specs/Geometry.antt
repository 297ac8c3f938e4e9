-- 01, "What a machine is", and 02, Twelve: its lengths, its sealed ranges, its registers in the lent bytes, and the scalars.
-- Lengths of the machine and ELEN are in bits, as 01 gives them; widths of elements and of rows are in bytes.
use Rattle.std.specs.Prelude.{◌||◌, ◌∷◌, ◌+◌, ◌*◌, ◌/◌}
use Rattle.numbers.specs.Kit.{Bool, false, cond, List, [], ℕ, ltb, eqb, get_or, set}
use Rattle.numbers.specs.Blocks.{Choice}
use Rattle.machine.specs.declared.Machine.{Machine}
use Rattle.machine.specs.declared.Matrix.{Matrix}
use Rattle.machine.specs.declared.Matrix.TheVariants.{MatrixA, MatrixB, MatrixC}
use Rattle.machine.specs.Tests.{is_in, every, within}

-- ---- lengths

-- "RLEN is a power of two from 64 to 512, MLEN a power of two from 128 to 4,096, RLEN below MLEN." 02, Ten: "MLEN up to 65,536, RLEN up
-- to 4,096 and ELEN 64 as a choice beside 32; ELEN must be below RLEN."
abbrev pub rlens : List ℕ
rlens = 64 ∷ 128 ∷ 256 ∷ 512 ∷ 1024 ∷ 2048 ∷ 4096 ∷ []

abbrev pub mlens : List ℕ
mlens = 128 ∷ 256 ∷ 512 ∷ 1024 ∷ 2048 ∷ 4096 ∷ 8192 ∷ 16384 ∷ 32768 ∷ 65536 ∷ []

abbrev pub elens : List ℕ
elens = 32 ∷ 64 ∷ []

unfoldable pub permitted : (rlen mlen elen : ℕ) → Bool
permitted rlen mlen elen = every (is_in rlen rlens ∷ is_in mlen mlens ∷ ltb rlen mlen ∷ is_in elen elens ∷ ltb elen rlen ∷ [])

-- ---- the sealed ranges

-- 01: "one range of memory (start, length)"; 02, Twelve: "none to eight sealed ranges"
pub record Range : Type 0 where
  pub start : ℕ
  pub size : ℕ

abbrev pub range : (start size : ℕ) → Range
range start size = record { start = start; size = size }

-- a byte is sealed if one of the ranges has it; "length 0 seals nothing"
abbrev pub sealed : List Range → ℕ → Bool
sealed [] q = false
sealed (r ∷ rs) q = within r.start r.size q || sealed rs q

-- ---- parameters

-- what a machine keeps from its start on: the rows of its registers, the bytes of a tile register's row, ELEN, and its choice of
-- sizes (from the maximum and what is asked)
pub record Parameters : Type 0 where
  pub rows : ℕ
  pub pitch : ℕ
  pub elen : ℕ
  pub grant : ℕ → ℕ → ℕ

-- "Eight tile registers of MLEN bits have MLEN/RLEN rows of RLEN/8 bytes."
abbrev pub parameters_of : (ℕ → ℕ → ℕ) → (rlen mlen elen : ℕ) → Parameters
parameters_of grant rlen mlen elen = record {
  rows = mlen / rlen;
  pitch = rlen / 8;
  elen = elen;
  grant = grant;
}

-- under a choice of sizes for each rule, of which the machine goes by its own: 02, Eight: "the size choice speaks of the rule"
abbrev pub parameters : Choice → Machine → Parameters
parameters grant m = parameters_of (grant m.rule) m.rlen m.mlen m.elen

-- ---- state

-- what instructions change: the register bytes, their marks ("1 written, 0 not"), mtype and the tile sizes
pub record State : Type 0 where
  pub regs : List ℕ
  pub marks : List ℕ
  pub mtype : ℕ
  pub tile_m : ℕ
  pub tile_k : ℕ
  pub tile_n : ℕ

abbrev pub state_of : Machine → List ℕ → List ℕ → State
state_of m regs marks = record { regs = regs; marks = marks; mtype = m.mtype; tile_m = m.tile_m; tile_k = m.tile_k; tile_n = m.tile_n }

abbrev pub machine_after : Machine → State → Machine
machine_after m st = record {
  rlen = m.rlen;
  mlen = m.mlen;
  mtype = st.mtype;
  tile_m = st.tile_m;
  tile_k = st.tile_k;
  tile_n = st.tile_n;
  rule = m.rule;
  elen = m.elen;
}

-- a machine with its sealed ranges, in order of entry, and what it is lent: the register bytes, their marks, and memory, "address 0 its
-- first byte"
pub record Bench : Type 0 where
  pub machine : Machine
  pub seals : List Range
  pub registers : List ℕ
  pub marks : List ℕ
  pub memory : List ℕ

abbrev pub bench_of : Machine → List Range → (registers marks memory : List ℕ) → Bench
bench_of m seals registers marks memory = record { machine = m; seals = seals; registers = registers; marks = marks; memory = memory }

-- ---- registers: tr0 to tr7, acc0 and acc1 one after another, row by row

-- eight of MLEN bits and two of 4 x MLEN bits
abbrev pub register_bytes : ℕ → ℕ
register_bytes mlen = 2 * mlen

-- "a tile register is 0 to 7, an accumulator 0 or 1. Loads and stores of A and B name tile registers, those of C accumulators."
abbrev pub register_count : Matrix → ℕ
register_count MatrixA = 8
register_count MatrixB = 8
register_count MatrixC = 2

-- where register r starts; "Two accumulators of 4 x MLEN bits"
abbrev pub start_of : Parameters → Matrix → ℕ → ℕ
start_of M MatrixA r = r * (M.rows * M.pitch)
start_of M MatrixB r = r * (M.rows * M.pitch)
start_of M MatrixC r = (8 + 4 * r) * (M.rows * M.pitch)

-- the bytes of its rows; "have as many rows, each 4 x RLEN/8 bytes"
abbrev pub pitch_of : Parameters → Matrix → ℕ
pitch_of M MatrixA = M.pitch
pitch_of M MatrixB = M.pitch
pitch_of M MatrixC = 4 * M.pitch

-- where row i of register r starts
abbrev pub register_at : Parameters → Matrix → ℕ → ℕ → ℕ
register_at M k r i = start_of M k r + i * pitch_of M k

abbrev pub tile_at : Parameters → ℕ → ℕ → ℕ
tile_at M = register_at M MatrixA

abbrev pub acc_at : Parameters → ℕ → ℕ → ℕ
acc_at M = register_at M MatrixC

-- ---- scalars

-- "Slot 0 is read as 0 whatever it holds and is never written."
abbrev pub scalar : List ℕ → ℕ → ℕ
scalar xs r = cond (eqb r 0) 0 (get_or xs r 0)

abbrev pub with_scalar : List ℕ → ℕ → ℕ → List ℕ
with_scalar xs r v = cond (eqb r 0) xs (set xs r v)
