-- A run and a step as the host passes them, in blocks of bytes. The layout is that of include/bodlarina.h (docs/DECISIONS.md).
use Rattle.std.specs.Prelude.{◌≡◌, ◌∷◌, ◌++◌, ◌+◌}
use Rattle.numbers.specs.Kit.{Bool, List, [], ℕ, eqb, length, get_or}
use Rattle.numbers.specs.Tile.{get_le}
use Rattle.machine.specs.Tests.{every}
use Rattle.run.specs.declared.Layout.{Layout}
use Rattle.run.specs.declared.Plan.{Plan}
use Rattle.run.specs.declared.Place.{Place}
use Rattle.run.specs.declared.Place.TheVariants.{AtType, AtM, AtN, AtClear, AtK, AtA, AtB, AtMultiply, AtStore, AtEnd}
use Rattle.run.specs.declared.Run.{Run}
use Rattle.run.specs.declared.Handed.{Handed}
use Rattle.c_blocks.specs.Blocks.{put_numbers}
use Rattle.c_run_blocks.specs.declared.Spot.{Spot}

-- ---- a run's block

-- twenty numbers of 64 bits, low byte first: the plan's eleven without its kind, the machine's lengths, the place's kind, row, column
-- and term, the plan's kind, the rule, and ELEN
abbrev pub run_bytes : ℕ
run_bytes = 160

-- a place's kind, and its row, column and term, 0 where it has none
abbrev pub spot : (kind row column term : ℕ) → Spot
spot kind row column term = record { kind = kind; row = row; column = column; term = term }

abbrev pub spot_of : Place → Spot
spot_of AtType = spot 0 0 0 0
spot_of (AtM i) = spot 1 i 0 0
spot_of (AtN i j) = spot 2 i j 0
spot_of (AtClear i j) = spot 3 i j 0
spot_of (AtK i j s) = spot 4 i j s
spot_of (AtA i j s) = spot 5 i j s
spot_of (AtB i j s) = spot 6 i j s
spot_of (AtMultiply i j s) = spot 7 i j s
spot_of (AtStore i j) = spot 8 i j 0
spot_of AtEnd = spot 9 0 0 0

-- the places of kind 0 to 8 with these numbers
abbrev pub places : (row column term : ℕ) → List Place
places i j s =
    AtType ∷ AtM i ∷ AtN i j ∷ AtClear i j ∷ AtK i j s ∷ AtA i j s ∷ AtB i j s ∷ AtMultiply i j s ∷ AtStore i j ∷ []

-- the place of a kind; above 9 too it is the end, and run_fit refuses it
unfoldable pub place_of : Spot → Place
place_of s = get_or (places s.row s.column s.term) s.kind AtEnd

abbrev pub layout_of : List ℕ → ℕ → Layout
layout_of block at = record { address = get_le block at 8; stride = get_le block (at + 8) 8 }

unfoldable pub plan_of : List ℕ → Plan
plan_of block = record {
  kind = get_le block 136 8;
  sew = get_le block 0 8;
  factor = get_le block 8 8;
  m = get_le block 16 8;
  k = get_le block 24 8;
  n = get_le block 32 8;
  a = layout_of block 40;
  b = layout_of block 56;
  c = layout_of block 72;
}

abbrev pub spot_in : List ℕ → Spot
spot_in block = spot (get_le block 104 8) (get_le block 112 8) (get_le block 120 8) (get_le block 128 8)

unfoldable pub run_of : List ℕ → Run
run_of block = record {
  plan = plan_of block;
  rlen = get_le block 88 8;
  mlen = get_le block 96 8;
  rule = get_le block 144 8;
  elen = get_le block 152 8;
  place = place_of (spot_in block);
}

-- the numbers of a plan but for its kind, which stands behind the place
abbrev pub plan_numbers : Plan → List ℕ
plan_numbers P =
    P.sew ∷ P.factor ∷ P.m ∷ P.k ∷ P.n
    ∷ P.a.address ∷ P.a.stride ∷ P.b.address ∷ P.b.stride ∷ P.c.address ∷ P.c.stride ∷ []

abbrev pub spot_numbers : Spot → List ℕ
spot_numbers s = s.kind ∷ s.row ∷ s.column ∷ s.term ∷ []

-- the numbers of a run in their order
abbrev pub run_numbers : Plan → (rlen mlen elen rule : ℕ) → Spot → List ℕ
run_numbers P rlen mlen elen rule s = plan_numbers P ++ (rlen ∷ mlen ∷ (spot_numbers s ++ (P.kind ∷ rule ∷ elen ∷ [])))

-- the numbers of a run written over a block, each where run_of reads it
unfoldable pub put_run : Run → List ℕ → List ℕ
put_run R block = put_numbers (run_numbers R.plan R.rlen R.mlen R.elen R.rule (spot_of R.place)) block

-- a run that has another's numbers but for its place
pub record RunKept (R other : Run) : Type 0 where
  pub plan : R.plan ≡ other.plan
  pub rlen : R.rlen ≡ other.rlen
  pub mlen : R.mlen ≡ other.mlen
  pub rule : R.rule ≡ other.rule
  pub elen : R.elen ≡ other.elen

-- the four numbers are the same
abbrev pub same_spot : Spot → Spot → List Bool
same_spot s t = eqb s.kind t.kind ∷ eqb s.row t.row ∷ eqb s.column t.column ∷ eqb s.term t.term ∷ []

-- a block that a run can lie in: of the right length, its place of a kind that there is, with 0 for each number that the kind does not have
unfoldable pub run_fit : List ℕ → Bool
run_fit block = every (eqb (length block) run_bytes ∷ same_spot (spot_in block) (spot_of (place_of (spot_in block))))

-- ---- a step's block

-- three numbers of 64 bits, low byte first: the word, scalar 10 and scalar 11
abbrev pub step_bytes : ℕ
step_bytes = 24

unfoldable pub put_handed : Handed → List ℕ → List ℕ
put_handed h block = put_numbers (h.word ∷ h.address ∷ h.stride ∷ []) block
