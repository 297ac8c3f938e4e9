-- The largest machine: every bound that the tile functions ask for follows from the largest RLEN, MLEN and ELEN. And the block of a product
-- that the kernels take at once: a larger tile is multiplied in blocks.
use Rattle.std.specs.Prelude.{◌/◌}
use Rattle.numbers.specs.Kit.{ℕ}

-- RLEN and MLEN, in bits
abbrev pub most_rlen : ℕ
most_rlen = 4096

abbrev pub most_mlen : ℕ
most_mlen = 65536

-- ELEN, in bits
abbrev pub most_elen : ℕ
most_elen = 64

-- the bytes of a row of a tile register: RLEN / 8
abbrev pub most_pitch : ℕ
most_pitch = most_rlen / 8

-- the bytes of a tile register: MLEN / 8
abbrev pub most_size : ℕ
most_size = most_mlen / 8

-- the columns of a block
abbrev pub most_columns : ℕ
most_columns = 64

-- the columns of a block of elements of four bytes
abbrev pub most_floats : ℕ
most_floats = most_columns / 4

-- the terms of a block
abbrev pub most_terms : ℕ
most_terms = 16
