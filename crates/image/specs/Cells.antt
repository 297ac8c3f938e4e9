-- Register bytes with their marks, and their runs.
use Rattle.std.specs.Prelude.{◌∷◌, ◌++◌, ◌+◌, ◌-◌, ◌≤◌, ◌<◌}
use Rattle.numbers.specs.Kit.{cond, List, [], map, Option, none, some, ℕ, zero, suc, eqb, length, replicate}

-- a register byte: the byte if its mark is 1, nothing if not
abbrev pub Cell : Type 0
Cell = Option ℕ

abbrev pub cell : (byte mark : ℕ) → Cell
cell b m = cond (eqb m 1) (some b) none

-- all of them, "in register order tr0 to tr7, acc0, acc1, row by row": the order in which they are lent
abbrev pub cells_of : (registers marks : List ℕ) → List Cell
cells_of [] ms = []
cells_of (b ∷ bs) [] = []
cells_of (b ∷ bs) (m ∷ ms) = cell b m ∷ cells_of bs ms

-- "A run is a maximal stretch of marked register bytes": "its gap from the previous run's end or the start", and its bytes
pub data Run : Type 0 where
  run : (gap : ℕ) → (bytes : List ℕ) → Run

-- an unmarked byte before these runs: the first gap is one more
abbrev pub widen : List Run → List Run
widen [] = []
widen (run g b ∷ rs) = run (suc g) b ∷ rs

-- a marked byte before these runs: it belongs to a run that starts at once, and else is a run
abbrev pub join : ℕ → List Run → List Run
join c [] = run 0 (c ∷ []) ∷ []
join c (run zero b ∷ rs) = run 0 (c ∷ b) ∷ rs
join c (run (suc g) b ∷ rs) = run 0 (c ∷ []) ∷ run (suc g) b ∷ rs

-- the runs of all cells
unfoldable pub runs : List Cell → List Run
runs [] = []
runs (none ∷ cs) = widen (runs cs)
runs (some b ∷ cs) = join b (runs cs)

-- ---- and back

-- n cells with these runs
unfoldable pub spread : ℕ → List Run → List Cell
spread n [] = replicate n none
spread n (run g b ∷ rs) = replicate g none ++ (map some b ++ spread (n - (g + length b)) rs)

-- runs that n cells can have: none is empty, and after the first no gap is 0, so that each is maximal
abbrev pub Fit : (least n : ℕ) → List Run → Type 0
Fit least n [] = Unit {0}
Fit least n (run g b ∷ rs) = ((least ≤ g) × (0 < length b) × (g + length b ≤ n)) × Fit 1 (n - (g + length b)) rs

-- the cells' bytes in lent registers, whose other bytes stay
abbrev pub over : List Cell → List ℕ → List ℕ
over [] bs = []
over (c ∷ cs) [] = []
over (none ∷ cs) (b ∷ bs) = b ∷ over cs bs
over (some x ∷ cs) (b ∷ bs) = x ∷ over cs bs

-- the cells' marks
abbrev pub marks_of : List Cell → List ℕ
marks_of [] = []
marks_of (none ∷ cs) = 0 ∷ marks_of cs
marks_of (some x ∷ cs) = 1 ∷ marks_of cs
