use Rattle.numbers.proofs.Kit.{refl, sym, ◌∙◌}
use lib.Ieee.{binary32, div, of_bits, nan_bits}
use Rattle.numbers.specs.Binary32.{value_of}
use Rattle.unit_binary32.proofs.Laws.{nan-value, no_nan}
use Rattle.unit_binary32.proofs.value_of.Goals as goal

pub float_from_bits-result : goal.float_from_bits-result
float_from_bits-result c = no_nan (nan_bits binary32 c.before.before.args.bits) (sym c.before.is_nan_bits.ensures ∙ c.if-is_nan_bits.false)

pub returns-then-is_nan_bits : goal.returns-then-is_nan_bits
unfolding div of_bits
returns-then-is_nan_bits c = sym (nan-value c.before.before.args.bits (sym c.before.is_nan_bits.ensures ∙ c.if-is_nan_bits.true))

pub returns-else-is_nan_bits : goal.returns-else-is_nan_bits
unfolding value_of
returns-else-is_nan_bits c = refl
