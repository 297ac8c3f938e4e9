-- What each operation means.
use Rattle.numbers.specs.Kit.{Bool, List, ℕ}
use Rattle.machine.specs.Answers.{Check}
use Rattle.machine.specs.Geometry.{Parameters, State}
use Rattle.machine.specs.Operation.{Operation, illegal, set_type, set_size, cut_size, load, store, multiply, combine, scale, float_multiply, move_out, move_in}
use Rattle.machine.specs.Meaning.{Meaning}
use Rattle.machine.specs.SettingWords.{refused_word, type_setting, size_setting, size_cut}
use Rattle.machine.specs.TransferWords.{loading, storing}
use Rattle.machine.specs.ArithmeticWords.{multiplying, combining, scaling, float_multiplying}
use Rattle.machine.specs.MoveWords.{moving_out, moving_in}

abbrev pub meaning : Parameters → State → Operation → Meaning
meaning M st (illegal wrong) = refused_word st wrong
meaning M st (set_type v) = type_setting M st v
meaning M st (set_size d asked) = size_setting M st d asked
meaning M st (cut_size d) = size_cut M st d
meaning M st (load f k r w base stride) = loading M st f k r w base stride
meaning M st (store f k r w base stride) = storing M st f k r w base stride
meaning M st (multiply f d a b) = multiplying M st f d a b
meaning M st (combine o f d a) = combining M st o f d a
meaning M st (scale f d a x) = scaling M st f d a x
meaning M st (float_multiply d a b) = float_multiplying M st d a b
meaning M st (move_out f a v first count) = moving_out M st f a v first count
meaning M st (move_in f d v first count file) = moving_in M st f d v first count file

-- and each part of it by its name
abbrev pub checks : Parameters → (ℕ → Bool) → Operation → State → List ℕ → List Check
checks M isSealed o st mem = (meaning M st o).checks isSealed mem

abbrev pub state_after : Parameters → Operation → State → List ℕ → State
state_after M o st mem = (meaning M st o).state mem

abbrev pub memory_after : Parameters → Operation → State → List ℕ → List ℕ
memory_after M o st mem = (meaning M st o).memory mem

abbrev pub vectors_after : Parameters → Operation → State → List ℕ → List ℕ
vectors_after M o st file = (meaning M st o).vectors file

abbrev pub result_of : Parameters → Operation → State → ℕ
result_of M o st = (meaning M st o).result
