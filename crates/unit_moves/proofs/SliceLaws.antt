-- A slice whose checks of answers 2 and 4 passed lies in its accumulator, and its group in the vector file; and what answer 5 names.
use Rattle.numbers.proofs.Kit.{◌≡◌, refl, sym, subst, Bool, true, false, cond, not, List, [], ◌∷◌, ℕ, suc, ◌+◌, ◌*◌, ◌/◌, ◌^◌, ◌≤◌, ◌<◌, mul-le-mul_right}
use Rattle.numbers.proofs.Kit.{div-le_self, arith, eqb, length, get_or, leb-true, not-true, Err}
use Rattle.numbers.specs.Bounds.{most_elen}
use Rattle.machine.specs.declared.Machine.{Machine}
use Rattle.machine.specs.declared.Form.{Form}
use Rattle.machine.specs.declared.Form.TheVariants.{Plain, Transposed}
use Rattle.machine.specs.declared.Matrix.TheVariants.{MatrixC}
use Rattle.machine.specs.declared.Refusal.TheVariants.{Unwritten}
use Rattle.machine.specs.Tests.{is_in, all}
use Rattle.machine.specs.Answers.{reply, verdict, is_done, Answer, Done}
use Rattle.machine.specs.Geometry.{Parameters, State, state_of, start_of, pitch_of}
use Rattle.machine.specs.Vectors.{vector_bytes, file_bytes}
use Rattle.machine.specs.Setting.{chosen, sew, mill}
use Rattle.machine.specs.Operation.{memory_rows, memory_cols}
use Rattle.machine.specs.MoveWords.{lines_of, line_of, corner_of, slice_rows, slice_cols, slice_fits, slice_needs, unwritten_in}
use Rattle.machine.specs.Refusals.{needs, marked, first_row, first_column}
use Rattle.machine.specs.Faults.{sound}
use Rattle.machine.proofs.TestLaws.{false-true, first-le}
use Rattle.machine.proofs.CheckLaws.{Passed, passed}
use Rattle.machine.proofs.CodeLaws.{legal_types, arises-any}
use Rattle.machine.proofs.StepLaws.{permitted-bounds, permitted-lengths, permitted-elen}
use Rattle.machine.proofs.NoFault.{sound-is}
use Rattle.unit_element.specs.Element.{Width}
use Rattle.unit_tile.specs.Checks.{RowsIn}
use Rattle.unit_tile.proofs.Room.{rows_end, same_length, tile-fits}
use Rattle.unit_transfer.proofs.Room.{sew-width}
use Rattle.unit_settings.specs.Parts.{ours}

-- ---- the slice lies in its accumulator

module _ (m : Machine) (regs marks : List ℕ) (h : sound m regs marks ≡ true) (f : Form) (r first count : ℕ) (l : r < 2)
    (d : is_done (verdict (slice_fits (ours m) f first count (state_of m [] []))) ≡ true) (w : ℕ) (ew : w ≡ sew m.mtype) where
  abbrev M : Parameters
  M = ours m

  abbrev st : State
  st = state_of m [] []

  abbrev Q : ℕ
  Q = pitch_of M MatrixC

  abbrev S : ℕ
  S = start_of M MatrixC r

  p : Passed (slice_fits M f first count st)
  p = passed (slice_fits M f first count st) refl d

  pub legal : is_in m.mtype (legal_types most_elen) ≡ true
  legal =
      let s = sound-is m regs marks h in
      arises-any m.elen (permitted-elen m.rlen m.mlen m.elen s.lengths).0 m.mtype s.state.type-arises (not-true (mill m.mtype) p.0)

  pub width : Width w
  width = subst Width (sym ew) (sew-width m.mtype legal)

  rows-most : m.tile_m ≤ m.mlen / m.rlen
  rows-most = leb-true m.tile_m (m.mlen / m.rlen) p.1.0

  columns-most : m.tile_n ≤ m.rlen / 8 / sew m.mtype
  columns-most = leb-true m.tile_n (m.rlen / 8 / sew m.mtype) p.1.1.0

  pub lines-in : first + count ≤ lines_of f st
  lines-in = leb-true (first + count) (lines_of f st) p.1.1.1.0

  pub line-in : line_of f st * w ≤ vector_bytes
  line-in = subst (λ (w : ℕ). line_of f st * w ≤ vector_bytes) (sym ew) (leb-true (line_of f st * sew m.mtype) vector_bytes p.1.1.1.1.0)

  wide : w ≤ 4 * sew m.mtype
  wide = omega (arith, ew)

  -- the tile, and one row of it
  tile : (S + m.tile_m * Q ≤ length regs) × (m.tile_n * w ≤ Q)
  tile = tile-fits chosen m regs marks h MatrixC r w m.tile_m m.tile_n l wide rows-most columns-most

  row : S + 1 * Q ≤ length regs
  row = (tile-fits chosen m regs marks h MatrixC r w 1 m.tile_n l wide (permitted-lengths m.rlen m.mlen m.elen (sound-is m regs marks h).lengths).0 columns-most).0

  pub small : (length regs < 2 ^ 32) × (Q < 2 ^ 32)
  small =
      let s = sound-is m regs marks h in
      let b = permitted-bounds m.rlen m.mlen m.elen s.lengths in
      omega (arith, s.state.regs-length)

  pub few : (m.tile_m < 2 ^ 32) × (m.tile_n < 2 ^ 32)
  few =
      let s = sound-is m regs marks h in
      let b = permitted-bounds m.rlen m.mlen m.elen s.lengths in
      (omega (arith, s.state.m-fits, div-le_self m.mlen m.rlen), omega (arith, s.state.n-fits))

  pub corner-in : corner_of M f r first w ≤ length regs
  corner-in = go f lines-in
    where
      go : (f : Form) → first + count ≤ lines_of f st → corner_of M f r first w ≤ length regs
      go Plain e = let a : first ≤ m.tile_m = omega arith in omega (arith, tile.0, mul-le-mul_right Q a)
      go Transposed e = let a : first ≤ m.tile_n = omega arith in omega (arith, tile.1, row, mul-le-mul_right w a)

  pub rows_in : RowsIn (corner_of M f r first w) Q (slice_rows f st count) (slice_cols f st count * w) (length regs)
  rows_in = (corner-in, go f lines-in)
    where
      go : (f : Form) → first + count ≤ lines_of f st → (i : ℕ) → i < slice_rows f st count → corner_of M f r first w + i * Q + slice_cols f st count * w ≤ length regs
      go Plain e i g = let a : first + suc i ≤ m.tile_m = omega arith in omega (arith, tile.0, tile.1, mul-le-mul_right Q a)
      go Transposed e i g = omega (arith, tile.0, tile.1, mul-le-mul_right w e, mul-le-mul_right Q g)

  pub marks-in : RowsIn (corner_of M f r first w) Q (slice_rows f st count) (slice_cols f st count * w) (length marks)
  marks-in =
      let e = same_length chosen m regs marks h in
      (omega (arith, corner-in), λ i g. omega (arith, rows_in.1 i g))

  pub columns-in : slice_cols f st count * w ≤ Q
  columns-in = go f lines-in
    where
      go : (f : Form) → first + count ≤ lines_of f st → slice_cols f st count * w ≤ Q
      go Plain e = tile.1
      go Transposed e = let a : count ≤ m.tile_n = omega arith in omega (arith, tile.1, mul-le-mul_right w a)

  -- what answer 5 names is a number
  pub shift_small : (first + slice_rows f st count < 2 ^ 64) × (first + slice_cols f st count < 2 ^ 64)
  shift_small = go f lines-in
    where
      go : (f : Form) → first + count ≤ lines_of f st → (first + slice_rows f st count < 2 ^ 64) × (first + slice_cols f st count < 2 ^ 64)
      go Plain e = (omega (arith, few), omega (arith, few))
      go Transposed e = (omega (arith, few), omega (arith, few))

  -- the group lies in the vector file
  pub group-in : (v : ℕ) (file : List ℕ) → v + count ≤ 32 → length file ≡ file_bytes → RowsIn (v * vector_bytes) vector_bytes count (line_of f st * w) (length file)
  group-in v file g e = rows_end (v * vector_bytes) vector_bytes count (line_of f st * w) (length file) (omega arith) line-in

-- the other way the group is what the slice was
pub turned-in : (f : Form) (start pitch count line w len : ℕ) → RowsIn start pitch count (line * w) len
    → RowsIn start pitch (memory_rows f (memory_rows f count line) (memory_cols f count line)) (memory_cols f (memory_rows f count line) (memory_cols f count line) * w) len
turned-in Plain start pitch count line w len h = h
turned-in Transposed start pitch count line w len h = h

-- ---- answer 5

module _ (f : Form) (start : ℕ) (ms : List ℕ) (at : ℕ → ℕ) (rows cols w : ℕ) where
  abbrev found : Answer
  found = verdict (needs false ms at rows cols w ∷ [])

  abbrev wanted : Answer
  wanted = verdict (slice_needs f start ms at rows cols w ∷ [])

  abbrev i : ℕ
  i = first_row ms at rows (cols * w)

  abbrev j : ℕ
  j = first_column ms (at i) cols w

  pub needs-done : is_done found ≡ true → Done ≡ wanted
  needs-done = go (marked ms at rows (cols * w))
    where
      go : (t : Bool) → is_done (cond t Done (Err (Unwritten i j))) ≡ true → Done ≡ cond t Done (Err (unwritten_in f start i j))
      go true h = refl
      go false h = absurd (false-true h)

  pub needs-named : is_done found ≡ false → Err (unwritten_in f start (reply found).row (reply found).column) ≡ wanted
  needs-named = go (marked ms at rows (cols * w))
    where
      go : (t : Bool) → is_done (cond t Done (Err (Unwritten i j))) ≡ false
          → Err (unwritten_in f start (reply (cond t Done (Err (Unwritten i j)))).row (reply (cond t Done (Err (Unwritten i j)))).column) ≡ cond t Done (Err (unwritten_in f start i j))
      go true h = absurd (false-true (sym h))
      go false h = refl

  pub needs-bounded : ((reply found).row ≤ rows) × ((reply found).column ≤ cols)
  needs-bounded = go (marked ms at rows (cols * w))
    where
      go : (t : Bool) → ((reply (cond t Done (Err (Unwritten i j)))).row ≤ rows) × ((reply (cond t Done (Err (Unwritten i j)))).column ≤ cols)
      go true = (omega arith, omega arith)
      go false = (
        first-le rows (λ i. not (all (cols * w) (λ b. eqb (get_or ms (at i + b) 0) 1))),
        first-le cols (λ j. not (all w (λ b. eqb (get_or ms (at i + j * w + b) 0) 1))),
      )
