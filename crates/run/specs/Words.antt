-- The words of a product run, as 01 lists them: nested loops over the blocks of rows, columns and terms.
use Rattle.std.specs.Prelude.{◌∷◌, ◌++◌, ◌+◌, ◌*◌, ◌-◌}
use Rattle.numbers.specs.Kit.{List, [], ℕ}
use Rattle.numbers.specs.Blocks.{chunks, count}

-- what a step of a run does: the mtype of the plan; a size that is asked; the clear; a load from a row and a column; ..
pub data Op : Type 0 where
  set_type : Op
  set_m : ℕ → Op
  set_k : ℕ → Op
  set_n : ℕ → Op
  clear : Op
  load_a : ℕ → ℕ → Op
  load_b : ℕ → ℕ → Op
  multiply : Op
  store : ℕ → ℕ → Op

-- a block of words for each start
abbrev pub flat : (ℕ → List Op) → List ℕ → List Op
flat f [] = []
flat f (s ∷ ss) = f s ++ flat f ss

-- the sizes of a product and the maxima of a machine
pub record Shape : Type 0 where
  pub grant : ℕ → ℕ → ℕ
  pub tm : ℕ
  pub tk : ℕ
  pub tn : ℕ
  pub m : ℕ
  pub k : ℕ
  pub n : ℕ

-- the block sizes
abbrev pub size_m : Shape → ℕ → ℕ
size_m S i = S.grant S.tm (S.m - i)

abbrev pub size_n : Shape → ℕ → ℕ
size_n S j = S.grant S.tn (S.n - j)

abbrev pub size_k : Shape → ℕ → ℕ
size_k S s = S.grant S.tk (S.k - s)

-- ---- "for each block of rows msettilemi; for each block of columns msettileni, clear acc0 .., then for each block of k msettileki,
-- load A to tr0, load B to tr1, multiply to acc0; then store acc0 .. each asked size is the rest"

abbrev pub block_k : Shape → ℕ → ℕ → ℕ → List Op
block_k S i j s = set_k (S.k - s) ∷ load_a i s ∷ load_b s j ∷ multiply ∷ []

abbrev pub from_k : Shape → ℕ → ℕ → ℕ → List Op
from_k S i j s = flat (block_k S i j) (chunks S.grant S.tk S.k s)

abbrev pub block_n : Shape → ℕ → ℕ → List Op
block_n S i j = set_n (S.n - j) ∷ clear ∷ (from_k S i j 0 ++ (store i j ∷ []))

abbrev pub from_n : Shape → ℕ → ℕ → List Op
from_n S i j = flat (block_n S i) (chunks S.grant S.tn S.n j)

abbrev pub block_m : Shape → ℕ → List Op
block_m S i = set_m (S.m - i) ∷ from_n S i 0

abbrev pub from_m : Shape → ℕ → List Op
from_m S i = flat (block_m S) (chunks S.grant S.tm S.m i)

-- "the words are: msettypei; .."
abbrev pub words : Shape → List Op
words S = set_type ∷ from_m S 0

-- "With M, K, N the counts m/TMMAX, k/TKMAX, n/TNMAX rounded up, there are 1 + M(1 + N(3 + 4K)) steps."
abbrev pub steps : Shape → ℕ
steps S = 1 + count S.tm S.m * (1 + count S.tn S.n * (3 + 4 * count S.tk S.k))
