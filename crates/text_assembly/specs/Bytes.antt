-- A text's bytes.
use Prim.Native.Char.{code}
use Prim.Native.String.{String, len, char_at}
use Rattle.std.specs.Prelude.{◌∷◌}
use Rattle.numbers.specs.Kit.{List, [], ℕ, zero, suc}

-- n of them, from i on
abbrev pub bytes_from : ℕ → ℕ → String → List ℕ
bytes_from zero i s = []
bytes_from (suc n) i s = code (char_at s i) ∷ bytes_from n (suc i) s

abbrev pub bytes : String → List ℕ
bytes s = bytes_from (len s) 0 s
