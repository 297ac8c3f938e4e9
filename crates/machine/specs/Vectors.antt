-- 02, Eleven: "a lent vector file of 32 registers of 128 bits with a group size of 1, 2, 4 or 8".
use Rattle.std.specs.Prelude.{◌∷◌, ◌+◌, ◌*◌, ◌%◌}
use Rattle.numbers.specs.Kit.{Bool, List, [], ℕ, eqb, length, replicate}
use Rattle.machine.specs.Tests.{is_in, every}

-- what is lent beside the scalars with each word; "Vector bytes carry no marks"
pub record Vectors : Type 0 where
  pub file : List ℕ
  pub group : ℕ

abbrev pub vectors_of : List ℕ → ℕ → Vectors
vectors_of file group = record { file = file; group = group }

-- the bytes of a register, and of the file
abbrev pub vector_bytes : ℕ
vector_bytes = 16

abbrev pub file_bytes : ℕ
file_bytes = 32 * vector_bytes

abbrev pub group_sizes : List ℕ
group_sizes = 1 ∷ 2 ∷ 4 ∷ 8 ∷ []

-- 8: "a bad vector file or group size gets 8"
unfoldable pub vectors_fit : Vectors → Bool
vectors_fit W = every (eqb (length W.file) file_bytes ∷ is_in W.group group_sizes ∷ [])

-- where the register g places after register v starts
abbrev pub vector_at : ℕ → ℕ → ℕ
vector_at v g = v * vector_bytes + g * vector_bytes

-- "The group must start at a multiple of its size."
abbrev pub aligned : Vectors → ℕ → Bool
aligned W v = eqb (v % W.group) 0

-- the file of a step that is lent none, as a product run's are: no word of a run is a move
unfoldable pub idle : Vectors
idle = vectors_of (replicate file_bytes 0) 1
