-- The comparison is `nan_bits`.
use Rattle.numbers.proofs.Kit.{sym}
use lib.Ieee.{binary32}
use lib.Ieee.Bits.{nan_bits_above}
use Rattle.unit_binary32.proofs.is_nan_bits.Goals as goal

pub returns : goal.returns
returns c = sym (nan_bits_above binary32 c.args.bits)
