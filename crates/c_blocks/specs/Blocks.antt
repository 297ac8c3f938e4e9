-- Numbers as the host passes them: the machine's numbers and the scalars in blocks of bytes, an answer in one number.
-- 01, "What a machine is": "The bench host is written in C and passes numbers and byte buffers, so stepping is offered to it in that
-- form too". The layout of the blocks is that of include/bodlarina.h (docs/DECISIONS.md).
use Rattle.std.specs.Prelude.{◌≡◌, ◌∷◌, ◌++◌, ◌+◌, ◌*◌, ◌%◌, ◌^◌, ◌<◌}
use Rattle.numbers.specs.Kit.{List, [], ℕ, length, get_or}
use Rattle.numbers.specs.Upto.{upto}
use Rattle.numbers.specs.Tile.{get_le, put_le, put_row}
use Rattle.unit_ranges.specs.Ranges.{block_bytes}
use Rattle.machine.specs.declared.Machine.{Machine}
use Rattle.machine.specs.declared.Reply.{Reply}

-- a buffer of bytes
abbrev pub Bytes : List ℕ → Type 0
Bytes xs = (q : ℕ) → get_or xs q 0 < 256

-- ---- the machine's block

-- the machine's numbers of 64 bits, low byte first, and its ranges (unit_ranges/specs/Ranges.antt), of which the first lies between the sizes
-- and the rule
abbrev pub machine_bytes : ℕ
machine_bytes = block_bytes

unfoldable pub machine_of : List ℕ → Machine
machine_of block = record {
  rlen = get_le block 0 8;
  mlen = get_le block 8 8;
  mtype = get_le block 16 8;
  tile_m = get_le block 24 8;
  tile_k = get_le block 32 8;
  tile_n = get_le block 40 8;
  rule = get_le block 64 8;
  elen = get_le block 72 8;
}

-- the numbers of a machine written over a block, each where machine_of reads it
unfoldable pub put_machine : Machine → List ℕ → List ℕ
put_machine m block =
    put_le 72 8 m.elen
    (put_le 64 8 m.rule
    (put_le 40 8 m.tile_n
    (put_le 32 8 m.tile_k
    (put_le 24 8 m.tile_m
    (put_le 16 8 m.mtype
    (put_le 8 8 m.mlen
    (put_le 0 8 m.rlen block)))))))

-- a machine that has another's numbers but for those that steps change: its lengths, its rule and ELEN
pub record SameMachine (m other : Machine) : Type 0 where
  pub rlen : m.rlen ≡ other.rlen
  pub mlen : m.mlen ≡ other.mlen
  pub rule : m.rule ≡ other.rule
  pub elen : m.elen ≡ other.elen

-- ---- the scalars' block

-- 01: "thirty-two scalar values of 64 bits", "the scalars as 256 bytes, low byte first"
abbrev pub scalar_bytes : ℕ
scalar_bytes = 256

-- the first n values: slot s at byte 8 x s, low byte first
abbrev pub first_values : ℕ → List ℕ → List ℕ
first_values n block = upto n (λ s values. values ++ (get_le block (s * 8) 8 ∷ [])) []

unfoldable pub values_of : List ℕ → List ℕ
values_of block = first_values 32 block

-- the values written over a block, each where values_of reads it
unfoldable pub put_values : List ℕ → List ℕ → List ℕ
put_values values block = put_row 0 32 8 (λ s. get_or values s 0) block

-- ---- numbers one after another

-- numbers of 64 bits written over a block from its first byte on, low byte first
unfoldable pub put_numbers : List ℕ → List ℕ → List ℕ
put_numbers numbers block = put_row 0 (length numbers) 8 (λ j. get_or numbers j 0) block

-- ---- an answer as one number

-- a result packs answer | row << 16 | column << 32 (row and column 0 unless the answer is 5)
-- The function takes every answer, whose row and column are any u64, so each is cut to its 16 bits. No real answer loses by it: a tile
-- has at most 1,024 rows and 512 columns.
abbrev pub packed : Reply → ℕ
packed a = a.number + a.row % 2 ^ 16 * 2 ^ 16 + a.column % 2 ^ 16 * 2 ^ 32
