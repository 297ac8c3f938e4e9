-- What each return of the two moves has to show.
use Rattle.numbers.proofs.Kit.{◌≡◌, refl, ap, ap₂, ◌∙◌, subst, Bool, true, false, cond, List, [], ◌∷◌, ℕ, ◌+◌, ◌*◌, Err}
use Rattle.numbers.specs.Tile.{put_tile, mark_tile}
use Rattle.machine.specs.declared.Machine.{Machine}
use Rattle.machine.specs.declared.Form.{Form}
use Rattle.machine.specs.declared.Form.TheVariants.{Plain, Transposed}
use Rattle.machine.specs.declared.Refusal.TheVariants.{WrongRegister}
use Rattle.machine.specs.Answers.{Check, verdict, is_done, Answer, Done}
use Rattle.machine.specs.Geometry.{Parameters, State, state_of}
use Rattle.machine.specs.Vectors.{Vectors, vector_at, vector_bytes, aligned}
use Rattle.machine.specs.Setting.{sew}
use Rattle.machine.specs.Operation.{Operation, placed, element, memory_rows, memory_cols}
use Rattle.machine.specs.MoveWords.{line_of, slice_at, slice_rows, slice_cols, slice_fits, slice_needs}
use Rattle.machine.specs.Meanings.{checks}
use Rattle.unit_geometry.specs.declared.Placed.{Placed}
use Rattle.unit_checks.proofs.CheckLaws.{part-refused, part-passed}
use Rattle.unit_settings.specs.Parts.{ours}
use Rattle.unit_moves.specs.Parts.{slice_placed, moved, MovesOut, MovesIn, Moves}

module _ (m : Machine) (regs marks : List ℕ) (f : Form) (r v first count : ℕ) where
  abbrev M : Parameters
  M = ours m

  abbrev st : State
  st = state_of m regs marks

  abbrev bare : State
  bare = state_of m [] []

  abbrev fits : List Check
  fits = slice_fits M f first count bare

  -- the lent bytes don't count
  fits-is : slice_fits M f first count bare ≡ slice_fits M f first count st
  fits-is = by f
    where
      by : (f : Form) → slice_fits M f first count bare ≡ slice_fits M f first count st
      by Plain = refl
      by Transposed = refl

  line-is : line_of f bare ≡ line_of f st
  line-is = by f
    where
      by : (f : Form) → line_of f bare ≡ line_of f st
      by Plain = refl
      by Transposed = refl

  fits-done : is_done (verdict fits) ≡ true → is_done (verdict (slice_fits M f first count st)) ≡ true
  fits-done d = subst (λ (cs : List Check). is_done (verdict cs) ≡ true) fits-is d

  -- the check of answer 5, of a place and a width
  abbrev five : Placed → ℕ → List Check
  five p w = slice_needs f first marks (λ i. p.start + i * p.pitch) p.rows p.columns w ∷ []

  abbrev here : ℕ → Placed
  here w = slice_placed m f r first count w

  abbrev rest : List Check
  rest = slice_needs f first marks (slice_at M f r first (sew m.mtype)) (slice_rows f st count) (slice_cols f st count) (sew m.mtype) ∷ []

  five-is : five (here (sew m.mtype)) (sew m.mtype) ≡ rest
  five-is = ap (λ (n : ℕ). slice_needs f first marks (slice_at M f r first (sew m.mtype)) (memory_rows f count n) (memory_cols f count n) (sew m.mtype) ∷ []) line-is

  -- ---- a move out

  abbrev outward : Operation
  outward = Operation.move_out f r v first count

  module _ (file : List ℕ) where
    pub out-refused : (a : Answer) → a ≡ verdict fits → is_done a ≡ false → MovesOut m outward regs marks file a file
    out-refused a e d = record {
      answer-is = λ z. part-refused (slice_fits M f first count st) rest refl a (e ∙ ap verdict fits-is) d;
      vectors-are = rw d;
    }

    module _ (d : is_done (verdict fits) ≡ true) (w : ℕ) (ew : w ≡ sew m.mtype) (p : Placed) (e : p ≡ here w) where
      five-here : verdict (five p w) ≡ verdict rest
      five-here =
          ap (λ (p : Placed). verdict (five p w)) e ∙ ap (λ (w : ℕ). verdict (five (here w) w)) ew ∙ ap verdict five-is

      told : (a : Answer) → a ≡ verdict (five p w) → (z : ℕ → Bool) → a ≡ verdict (checks M z outward st [])
      told a ea z = part-passed (slice_fits M f first count st) rest refl (fits-done d) a (ea ∙ five-here)

      pub out-unmarked : (a : Answer) → a ≡ verdict (five p w) → is_done a ≡ false → MovesOut m outward regs marks file a file
      out-unmarked a ea n = record { answer-is = told a ea; vectors-are = rw n }

      pub out-done : Done ≡ verdict (five p w) → (line : ℕ) → line ≡ line_of f bare → (file' : List ℕ)
          → file' ≡ put_tile (λ i. v * vector_bytes + i * vector_bytes) count line w (placed f (element regs (λ i. p.start + i * p.pitch) w)) file
          → MovesOut m outward regs marks file Done file'
      out-done ea line el file' ev = record {
        answer-is = told Done ea;
        vectors-are =
            ev
            ∙ ap₂ (λ (n : ℕ) (p : Placed). put_tile (vector_at v) count n w (placed f (element regs (λ i. p.start + i * p.pitch) w)) file) (el ∙ line-is) e
            ∙ ap (λ (w : ℕ). put_tile (vector_at v) count (line_of f st) w (placed f (element regs (slice_at M f r first w) w)) file) ew;
      }

  -- ---- a move in

  module _ (file : List ℕ) where
    abbrev inward : Operation
    inward = Operation.move_in f r v first count file

    pub in-refused : (a : Answer) → a ≡ verdict fits → is_done a ≡ false → MovesIn m inward regs marks a regs marks
    in-refused a e d = record { answer-is = λ z. e ∙ ap verdict fits-is; registers-are = rw d; marks-are = rw d }

    module _ (w : ℕ) (ew : w ≡ sew m.mtype) (p : Placed) (e : p ≡ here w) where
      pub in-done : Done ≡ verdict fits → (regs' marks' : List ℕ)
          → regs' ≡ put_tile (λ i. p.start + i * p.pitch) p.rows p.columns w (placed f (element file (λ i. v * vector_bytes + i * vector_bytes) w)) regs
          → marks' ≡ mark_tile (λ i. p.start + i * p.pitch) p.rows (p.columns * w) marks
          → MovesIn m inward regs marks Done regs' marks'
      in-done ea regs' marks' er em = record {
        answer-is = λ z. ea ∙ ap verdict fits-is;
        registers-are =
            er
            ∙ ap (λ (p : Placed). put_tile (λ i. p.start + i * p.pitch) p.rows p.columns w (placed f (element file (vector_at v) w)) regs) e
            ∙ ap₂ (λ (n w : ℕ). put_tile (slice_at M f r first w) (memory_rows f count n) (memory_cols f count n) w (placed f (element file (vector_at v) w)) regs) line-is ew;
        marks-are =
            em
            ∙ ap (λ (p : Placed). mark_tile (λ i. p.start + i * p.pitch) p.rows (p.columns * w) marks) e
            ∙ ap₂ (λ (n w : ℕ). mark_tile (slice_at M f r first w) (memory_rows f count n) (memory_cols f count n * w) marks) line-is ew;
      }

-- ---- with the group

module _ (m : Machine) (regs marks : List ℕ) (inward : Bool) (f : Form) (r v first : ℕ) (W : Vectors) where
  -- a misaligned one
  pub misaligned : aligned W v ≡ false → Moves m (moved inward W f r v first) regs marks W.file (Err WrongRegister) regs marks W.file
  misaligned a = record {
    inside = record { answer-is = λ z. rw a; registers-are = refl; marks-are = refl };
    outside = record { answer-is = λ z. rw a; vectors-are = refl };
  }

  -- a move in leaves the vector file
  pub moved_in : aligned W v ≡ true → inward ≡ true → (a : Answer) (regs' marks' : List ℕ)
      → MovesIn m (Operation.move_in f r v first W.group W.file) regs marks a regs' marks' → Moves m (moved inward W f r v first) regs marks W.file a regs' marks' W.file
  moved_in e d a regs' marks' l = rw (e, d) (record { inside = l; outside = record { answer-is = l.answer-is; vectors-are = same (is_done a) } })
    where
      same : (t : Bool) → W.file ≡ cond t W.file W.file
      same true = refl
      same false = refl

  -- a move out leaves the registers and their marks
  pub moved_out : aligned W v ≡ true → inward ≡ false → (a : Answer) (file' : List ℕ) → MovesOut m (Operation.move_out f r v first W.group) regs marks W.file a file'
      → Moves m (moved inward W f r v first) regs marks W.file a regs marks file'
  moved_out e d a file' l = rw (e, d) (record { inside = record { answer-is = l.answer-is; registers-are = same regs (is_done a); marks-are = same marks (is_done a) }; outside = l })
    where
      same : (xs : List ℕ) (t : Bool) → xs ≡ cond t xs xs
      same xs true = refl
      same xs false = refl
