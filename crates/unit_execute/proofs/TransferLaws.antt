-- Loads and stores: what the checks of answers 2 to 4 give, and what the rest then is.
use Rattle.numbers.proofs.Kit.{◌≡◌, refl, sym, ap, ◌∙◌, subst, Bool, true, false, cond, List, [], ◌∷◌, ℕ, ◌+◌, ◌*◌, ◌≤◌, ◌<◌, length}
use Rattle.numbers.specs.Tile.{put_tile, mark_tile}
use Rattle.machine.specs.declared.Machine.{Machine}
use Rattle.machine.specs.declared.Form.{Form}
use Rattle.machine.specs.declared.Matrix.{Matrix}
use Rattle.machine.specs.declared.Refusal.TheVariants.{BadWidth, OutsideMemory, SealedByte, RowsOverlap}
use Rattle.machine.specs.declared.Matrix.TheVariants.{MatrixA, MatrixB, MatrixC}
use Rattle.machine.specs.Answers.{Check, ◌otherwise◌, verdict, is_done, Answer}
use Rattle.machine.specs.Geometry.{State, state_of, register_count, register_at, start_of, pitch_of}
use Rattle.machine.specs.Setting.{chosen}
use Rattle.machine.specs.Memory.{row_at, inside, distinct, rows_miss}
use Rattle.machine.specs.Operation.{Operation, element, placed, rows_of, columns_of, tile_rows, tile_cols, memory_rows, memory_cols}
use Rattle.machine.specs.Meanings.{memory_after}
use Rattle.machine.specs.Refusals.{needs, typed, fitting}
use Rattle.machine.specs.TransferWords.{width_of}
use Rattle.machine.specs.Faults.{sound}
use Rattle.machine.proofs.CheckLaws.{passed}
use Rattle.machine.proofs.MemoryLaws.{inside-at}
use Rattle.machine.proofs.StoreLaws.{stored-puts}
use Rattle.machine.proofs.CodeLaws.{verdict-append}
use Rattle.unit_element.specs.Element.{Width}
use Rattle.unit_transfer.proofs.Room.{transfer-requires}
use Rattle.unit_geometry.specs.declared.Placed.{Placed}
use Rattle.unit_settings.specs.Parts.{ours}
use Rattle.unit_checks.specs.Parts.{transfer_checks}
use Rattle.unit_geometry.specs.Tiles.{placed_as}
use Rattle.unit_execute.specs.Parts.{WritesRegisters, WritesMemory}

module _ (m : Machine) (regs marks mem : List ℕ) (f : Form) (k : Matrix) (r w base stride : ℕ) where
  abbrev st : State
  st = state_of m regs marks

  -- the checks and the tile as the definitions of a step have them, with the lent bytes in the state
  abbrev first : List Check
  first = typed st ∷ (width_of m.elen m.mtype k w otherwise BadWidth) ∷ fitting (ours m) st (rows_of k) ∷ fitting (ours m) st (columns_of k) ∷ []

  abbrev here : Placed
  here = record { start = start_of (ours m) k r; pitch = pitch_of (ours m) k; rows = tile_rows st k; columns = tile_cols st k }

  first-is : transfer_checks m k w ≡ first
  first-is = by k
    where
      by : (k : Matrix) → transfer_checks m k w ≡ (typed st ∷ (width_of m.elen m.mtype k w otherwise BadWidth) ∷ fitting (ours m) st (rows_of k) ∷ fitting (ours m) st (columns_of k) ∷ [])
      by MatrixA = refl
      by MatrixB = refl
      by MatrixC = refl

  here-is : placed_as m k r ≡ here
  here-is = by k
    where
      by : (k : Matrix) → placed_as m k r ≡ record { start = start_of (ours m) k r; pitch = pitch_of (ours m) k; rows = tile_rows st k; columns = tile_cols st k }
      by MatrixA = refl
      by MatrixB = refl
      by MatrixC = refl

  -- what a transfer's tile functions require
  pub room : sound m regs marks ≡ true → r < register_count k → is_done (verdict (transfer_checks m k w)) ≡ true → (p : Placed) → p ≡ placed_as m k r
      → (p.start + p.rows * p.pitch ≤ length regs) × ((length marks ≡ length regs) × ((p.columns * w ≤ p.pitch) × (Width w × (w ≤ p.pitch))))
  room h l d' p e' =
      let d : is_done (verdict first) ≡ true = subst (λ (cs : List Check). is_done (verdict cs) ≡ true) first-is d' in
      let e : p ≡ here = e' ∙ here-is in
      subst (λ (p : Placed). (p.start + p.rows * p.pitch ≤ length regs) × ((length marks ≡ length regs) × ((p.columns * w ≤ p.pitch) × (Width w × (w ≤ p.pitch))))) (sym e)
      (transfer-requires chosen m regs marks h k r w l (passed first refl d))

  pub load-refused : (a : Answer) → a ≡ verdict (transfer_checks m k w) → is_done a ≡ false → WritesRegisters m (Operation.load f k r w base stride) regs marks mem a regs marks
  load-refused a e' d = let e : a ≡ verdict first = e' ∙ ap verdict first-is in record {
    answer-is = λ z. e ∙ ap (λ (t : Bool). cond t (verdict rest) (verdict first)) (sym (sym (ap is_done e) ∙ d)) ∙ sym (verdict-append first rest refl);
    registers-are = rw d;
    marks-are = rw d;
  }
    where
      rest : List Check
      rest = (inside (length mem) base stride (memory_rows f (tile_rows st k) (tile_cols st k)) (memory_cols f (tile_rows st k) (tile_cols st k) * w) otherwise OutsideMemory) ∷ []

  pub load-done : (p : Placed) → p ≡ placed_as m k r → is_done (verdict (transfer_checks m k w)) ≡ true → (a : Answer) (regs' marks' : List ℕ)
      → a ≡ verdict ((inside (length mem) base stride (memory_rows f p.rows p.columns) (memory_cols f p.rows p.columns * w) otherwise OutsideMemory) ∷ [])
      → regs' ≡ cond (is_done a) (put_tile (λ i. p.start + i * p.pitch) p.rows p.columns w (placed f (element mem (row_at base stride) w)) regs) regs
      → marks' ≡ cond (is_done a) (mark_tile (λ i. p.start + i * p.pitch) p.rows (p.columns * w) marks) marks
      → WritesRegisters m (Operation.load f k r w base stride) regs marks mem a regs' marks'
  load-done p e' d' a regs' marks' ea er em = let d : is_done (verdict first) ≡ true = subst (λ (cs : List Check). is_done (verdict cs) ≡ true) first-is d' in let e : p ≡ here = e' ∙ here-is in record {
    answer-is = λ z. ea ∙ ap (λ (p : Placed). verdict ((inside (length mem) base stride (memory_rows f p.rows p.columns) (memory_cols f p.rows p.columns * w) otherwise OutsideMemory) ∷ [])) e
        ∙ ap (λ (t : Bool). cond t (verdict rest) (verdict first)) (sym d) ∙ sym (verdict-append first rest refl);
    registers-are = er ∙ ap (λ (p : Placed). cond (is_done a) (put_tile (λ i. p.start + i * p.pitch) p.rows p.columns w (placed f (element mem (row_at base stride) w)) regs) regs) e;
    marks-are = em ∙ ap (λ (p : Placed). cond (is_done a) (mark_tile (λ i. p.start + i * p.pitch) p.rows (p.columns * w) marks) marks) e;
  }
    where
      rest : List Check
      rest = (inside (length mem) base stride (memory_rows f (tile_rows st k) (tile_cols st k)) (memory_cols f (tile_rows st k) (tile_cols st k) * w) otherwise OutsideMemory) ∷ []

  -- the checks of a store from answer 5 on
  abbrev store_rest : (ℕ → Bool) → Placed → List Check
  store_rest z p =
      needs false marks (λ i. p.start + i * p.pitch) p.rows p.columns w
      ∷ (inside (length mem) base stride (memory_rows f p.rows p.columns) (memory_cols f p.rows p.columns * w) otherwise OutsideMemory)
      ∷ (distinct (row_at base stride) (memory_rows f p.rows p.columns) (memory_cols f p.rows p.columns * w) otherwise RowsOverlap)
      ∷ (rows_miss z base stride (memory_rows f p.rows p.columns) (memory_cols f p.rows p.columns * w) otherwise SealedByte) ∷ []

  pub store-refused : (z : ℕ → Bool) (a : Answer) → a ≡ verdict (transfer_checks m k w) → is_done a ≡ false → WritesMemory m (Operation.store f k r w base stride) regs marks mem z a mem
  store-refused z a e' d = let e : a ≡ verdict first = e' ∙ ap verdict first-is in record {
    answer-is = e ∙ ap (λ (t : Bool). cond t (verdict (store_rest z here)) (verdict first)) (sym (sym (ap is_done e) ∙ d)) ∙ sym (verdict-append first (store_rest z here) refl);
    memory-is = rw d;
  }

  -- where these pass, the rows written one after another are the rows stored
  put-or-kept : (z : ℕ → Bool) (t : Bool) → is_done (verdict (store_rest z here)) ≡ t
      → cond t (put_tile (row_at base stride) (memory_rows f (tile_rows st k) (tile_cols st k)) (memory_cols f (tile_rows st k) (tile_cols st k)) w (placed f (element regs (register_at (ours m) k r) w)) mem) mem
      ≡ cond t (memory_after (ours m) (Operation.store f k r w base stride) st mem) mem
  put-or-kept z true e =
      let q = passed (store_rest z here) refl e in
      sym (stored-puts (row_at base stride) _ _ w _ mem q.1.1.0 (λ i l some. (inside-at (length mem) base stride _ _ q.1.0 some i l).1))
  put-or-kept z false e = refl

  pub store-done : (z : ℕ → Bool) (p : Placed) → p ≡ placed_as m k r → is_done (verdict (transfer_checks m k w)) ≡ true → (a : Answer) (mem' : List ℕ)
      → a ≡ verdict (store_rest z p)
      → mem' ≡ cond (is_done a) (put_tile (row_at base stride) (memory_rows f p.rows p.columns) (memory_cols f p.rows p.columns) w (placed f (element regs (λ i. p.start + i * p.pitch) w)) mem) mem
      → WritesMemory m (Operation.store f k r w base stride) regs marks mem z a mem'
  store-done z p e' d' a mem' ea em = let d : is_done (verdict first) ≡ true = subst (λ (cs : List Check). is_done (verdict cs) ≡ true) first-is d' in let e : p ≡ here = e' ∙ here-is in record {
    answer-is = ea ∙ ap (λ (p : Placed). verdict (store_rest z p)) e
        ∙ ap (λ (t : Bool). cond t (verdict (store_rest z here)) (verdict first)) (sym d) ∙ sym (verdict-append first (store_rest z here) refl);
    memory-is = em ∙ ap (λ (p : Placed). cond (is_done a) (put_tile (row_at base stride) (memory_rows f p.rows p.columns) (memory_cols f p.rows p.columns) w (placed f (element regs (λ i. p.start + i * p.pitch) w)) mem) mem) e
        ∙ put-or-kept z (is_done a) (ap is_done (sym (ea ∙ ap (λ (p : Placed). verdict (store_rest z p)) e)));
  }
