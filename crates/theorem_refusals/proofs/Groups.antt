-- The checks of an operation that is not illegal, in the groups of their answers: 2, 3, 4, 5, 6, 13, 7.
use Rattle.numbers.proofs.Kit.{◌≡◌, refl, sym, ap, ap₂, ◌∙◌, subst, fun_ext, ◌⊎◌, inl, inr, Bool, true, false, cond, not, ◌&&◌, ◌||◌, List, [], ◌∷◌, ◌++◌}
use Rattle.numbers.proofs.Kit.{map, ℕ, zero, suc, ◌+◌, ◌*◌, ◌≤◌, ◌<◌, zero-add, zero-mul, one-mul, mul-le-mul_right, arith, leb, eqb, length, get_or, eq-eqb}
use Rattle.numbers.proofs.Kit.{eqb-true, eqb-false, ne_eqb, leb-true, leb-false, Err}
use Rattle.machine.specs.declared.Refusal.{Refusal}
use Rattle.machine.specs.declared.Refusal.TheVariants.{IllegalType, BadWidth, TileTooLarge, Unwritten, OutsideMemory, SealedByte, RowsOverlap}
use Rattle.machine.specs.declared.Form.{Form}
use Rattle.machine.specs.declared.Form.TheVariants.{Plain, Transposed}
use Rattle.machine.specs.Tests.{all, every}
use Rattle.machine.specs.Answers.{Check, ◌otherwise◌, verdict, Answer, Done}
use Rattle.machine.specs.Geometry.{Parameters, State, register_at, tile_at, acc_at}
use Rattle.machine.specs.Setting.{sew, mill}
use Rattle.machine.specs.Memory.{row_at, inside, distinct, rows_miss}
use Rattle.machine.specs.Vectors.{vector_bytes}
use Rattle.machine.specs.Operation.{Operation, illegal, set_type, set_size, cut_size, load, store, multiply, combine, scale, float_multiply, move_out, move_in, tile_rows, tile_cols}
use Rattle.machine.specs.MoveWords.{lines_of, line_of, slice_at, slice_rows, slice_cols, slice_needs}
use Rattle.machine.specs.Refusals.{marked, first_row, first_column, needs}
use Rattle.machine.specs.TransferWords.{width_of}
use Rattle.machine.specs.ArithmeticWords.{width_ok, is_zero, multiply_reads}
use Rattle.machine.specs.Meanings.{checks}
use Rattle.machine.proofs.TestLaws.{and_left, and_right, all-at, all_true, all-elements, false-true, first-is}
use Rattle.machine.proofs.CheckLaws.{marked-true, first-row-is, first-column-is}
use Rattle.theorem_refusals.specs.Given.{TypeIsIllegal, KeepsWidths, WidthIsBroken, uses, LinesTooLarge, SliceTooLarge, SizeTooLarge, Source, tile, slice, factors, reads, Written, Unmarked, AllWritten, First, FirstAmong, NotWritten, Rows, rows_for, no_rows, writes, touches}
use Rattle.theorem_refusals.proofs.Reflect.{Tells, tells-not, tells-never, first-fails, memory-width, width-memory, output-width, width-output, fits, tells-sizes}

-- ---- 5: elements to be read

module _ (marks : List ℕ) where
  abbrev pub elements_check : Source → Check
  elements_check E =
      let row = first_row marks E.at E.rows (E.columns * E.width) in
      marked marks E.at E.rows (E.columns * E.width) otherwise
      Unwritten (E.top + row) (E.left + first_column marks (E.at row) E.columns E.width)

  -- byte x of row i
  abbrev mark : Source → (i x : ℕ) → Bool
  mark E i x = eqb (get_or marks (E.at i + x) 0) 1

  element-byte : (E : Source) (i j b : ℕ) → E.at i + (j * E.width + b) ≡ E.at i + j * E.width + b
  element-byte E i j b = omega arith

  row_written : (E : Source) (i : ℕ) → all (E.columns * E.width) (mark E i) ≡ true → (j : ℕ) → j < E.columns → Written marks E i j
  row_written E i h j m b n =
      subst (λ (q : ℕ). get_or marks q 0 ≡ 1) (element-byte E i j b)
      (eqb-true (get_or marks (E.at i + (j * E.width + b)) 0) 1
      (all-at (E.columns * E.width) (mark E i) h (j * E.width + b) (omega (arith, mul-le-mul_right E.width m))))

  written_row : (E : Source) → AllWritten marks E → marked marks E.at E.rows (E.columns * E.width) ≡ true
  unfolding marked
  written_row E h =
      all_true E.rows (λ i. all (E.columns * E.width) (mark E i)) (λ i l.
      all-elements E.columns E.width (mark E i) ∙
      all_true E.columns (λ j. all E.width (λ b. mark E i (j * E.width + b))) (λ j m.
      all_true E.width (λ b. mark E i (j * E.width + b)) (λ b n.
      eq-eqb (get_or marks (E.at i + (j * E.width + b)) 0) 1 (subst (λ (q : ℕ). get_or marks q 0 ≡ 1) (sym (element-byte E i j b)) (h i j l m b n)))))

  all-written : (E : Source) → marked marks E.at E.rows (E.columns * E.width) ≡ true → AllWritten marks E
  unfolding marked
  all-written E h i j l m = row_written E i (all-at E.rows (λ i. all (E.columns * E.width) (mark E i)) h i l) j m

  not_written : (E : Source) → marked marks E.at E.rows (E.columns * E.width) ≡ false → (i : ℕ) × (j : ℕ) × First marks E i j
  unfolding marked
  not_written E h =
      let x = first-fails E.rows (λ i. all (E.columns * E.width) (mark E i)) h in
      let i = x.0 in
      let y = first-fails E.columns (λ j. all E.width (λ b. mark E i (j * E.width + b))) (sym (all-elements E.columns E.width (mark E i)) ∙ x.2) in
      let j = y.0 in
      let z = first-fails E.width (λ b. mark E i (j * E.width + b)) y.2 in
      let b = z.0 in (
        i,
        j,
        record {
          row-there = x.1;
          column-there = y.1;
          without-mark = (b, z.1, subst (λ (q : ℕ). ¬ (get_or marks q 0 ≡ 1)) (element-byte E i j b) (eqb-false (get_or marks (E.at i + (j * E.width + b)) 0) 1 z.2));
          rows_before = λ k l g m. row_written E k (x.3 k g) l m;
          columns-before = λ l g c n.
              subst (λ (q : ℕ). get_or marks q 0 ≡ 1) (element-byte E i l c)
              (eqb-true (get_or marks (E.at i + (l * E.width + c)) 0) 1 (all-at E.width (λ b. mark E i (l * E.width + b)) (y.3 l g) c n));
        },
      )

  -- the check names it
  check-names : (E : Source) (i j : ℕ) → First marks E i j → (elements_check E).answer ≡ Unwritten (E.top + i) (E.left + j)
  check-names E i j f =
      let at = E.at in
      let cols = E.columns in
      let w = E.width in
      let u = f.without-mark in
      let before : (k c : ℕ) → k < i → c < cols * w → get_or marks (at k + c) 0 ≡ 1 = λ k c g m. bytes-of-row k c g m in
      let r = first-row-is marks at E.rows cols w i j u.0 f.row-there f.column-there u.1 before (λ k c g n. f.columns-before k g c n) u.2 in
      let q = first-column-is marks at E.rows cols w i j u.0 f.row-there f.column-there u.1 before (λ k c g n. f.columns-before k g c n) u.2 in
      ap (λ (x : ℕ). Unwritten (E.top + x) (E.left + first_column marks (at x) cols w)) r ∙ ap (λ (x : ℕ). Unwritten (E.top + i) (E.left + x)) q
    where
      bytes-of-row : (k c : ℕ) → k < i → c < E.columns * E.width → get_or marks (E.at k + c) 0 ≡ 1
      bytes-of-row k c g m =
          eqb-true (get_or marks (E.at k + c) 0) 1
          (all-at (E.columns * E.width) (mark E k)
          (all-elements E.columns E.width (mark E k) ∙
          all_true E.columns (λ l. all E.width (λ b. mark E k (l * E.width + b))) (λ l h.
          all_true E.width (λ b. mark E k (l * E.width + b)) (λ b n.
          eq-eqb (get_or marks (E.at k + (l * E.width + b)) 0) 1 (subst (λ (q : ℕ). get_or marks q 0 ≡ 1) (sym (element-byte E k l b)) (f.rows_before k l g h b n)))))
          c m)

  -- of several, with checks behind them: all are written, or the first that is not is named
  abbrev pub AllOf : List Source → Type 0
  AllOf [] = Unit {0}
  AllOf (E ∷ Es) = AllWritten marks E × AllOf Es

  abbrev pub Read : List Source → List Check → Type 0
  Read Es rest = (AllOf Es × (verdict (map elements_check Es ++ rest) ≡ verdict rest))
      ⊎ ((row : ℕ) × (column : ℕ) × FirstAmong marks Es row column × (verdict (map elements_check Es ++ rest) ≡ Err (Unwritten row column)))

  pub read : (Es : List Source) (rest : List Check) → Read Es rest
  read [] rest = inl (tt, refl)
  read (E ∷ Es) rest = go (marked marks E.at E.rows (E.columns * E.width)) refl (read Es rest)
    where
      more : Check → Answer
      more c = verdict (c ∷ (map elements_check Es ++ rest))

      go : (t : Bool) → marked marks E.at E.rows (E.columns * E.width) ≡ t → Read Es rest → Read (E ∷ Es) rest
      go true e (inl x) = inl ((all-written E e, x.0), ap (λ (b : Bool). cond b (verdict (map elements_check Es ++ rest)) (Err (elements_check E).answer)) e ∙ x.1)
      go true e (inr x) =
          inr (x.0, x.1, inr (all-written E e, x.2), ap (λ (b : Bool). cond b (verdict (map elements_check Es ++ rest)) (Err (elements_check E).answer)) e ∙ x.3)
      go false e x =
          let f = not_written E e in
          inr (
            E.top + f.0,
            E.left + f.1,
            inl (f.0, f.1, f.2, refl, refl),
            ap (λ (b : Bool). cond b (verdict (map elements_check Es ++ rest)) (Err (elements_check E).answer)) e ∙ ap (λ (r : Refusal). Err r) (check-names E f.0 f.1 f.2),
          )

  pub all_none : (Es : List Source) → AllOf Es → ¬ ((row : ℕ) × (column : ℕ) × FirstAmong marks Es row column)
  all_none [] a x = x.2
  all_none (E ∷ Es) a x =
      elim x.2 [
        | inl f ↦ let g = f.2 in let u = g.without-mark in u.2 (a.0 f.0 f.1 g.row-there g.column-there u.0 u.1)
        | inr g ↦ all_none Es a.1 (x.0, x.1, g.1)
      ]

-- ---- the groups

abbrev pub is_set_type : Operation → Bool
is_set_type (illegal wrong) = false
is_set_type (set_type v) = true
is_set_type (set_size d a) = false
is_set_type (cut_size d) = false
is_set_type (load f k r w base stride) = false
is_set_type (store f k r w base stride) = false
is_set_type (multiply f d a b) = false
is_set_type (combine o f d a) = false
is_set_type (scale f d a x) = false
is_set_type (float_multiply d a b) = false
is_set_type (move_out f a v first count) = false
is_set_type (move_in f d v first count file) = false

abbrev pub is_illegal : Operation → Bool
is_illegal (illegal wrong) = true
is_illegal (set_type v) = false
is_illegal (set_size d a) = false
is_illegal (cut_size d) = false
is_illegal (load f k r w base stride) = false
is_illegal (store f k r w base stride) = false
is_illegal (multiply f d a b) = false
is_illegal (combine o f d a) = false
is_illegal (scale f d a x) = false
is_illegal (float_multiply d a b) = false
is_illegal (move_out f a v first count) = false
is_illegal (move_in f d v first count file) = false

abbrev pub widths_kept : (elen t : ℕ) → Operation → Bool
widths_kept elen t (illegal wrong) = true
widths_kept elen t (set_type v) = true
widths_kept elen t (set_size d a) = true
widths_kept elen t (cut_size d) = true
widths_kept elen t (load f k r w base stride) = width_of elen t k w
widths_kept elen t (store f k r w base stride) = width_of elen t k w
widths_kept elen t (multiply f d a b) = width_ok elen t f
widths_kept elen t (combine o f d a) = width_ok elen t f
widths_kept elen t (scale f d a x) = width_ok elen t f
widths_kept elen t (float_multiply d a b) = eqb (8 * sew t) 32
widths_kept elen t (move_out f a v first count) = true
widths_kept elen t (move_in f d v first count file) = true

abbrev pub lines_fit : State → Form → (first count : ℕ) → List Bool
lines_fit st f first count = leb (first + count) (lines_of f st) ∷ leb (line_of f st * sew st.mtype) vector_bytes ∷ []

abbrev pub slice_fitting : State → Operation → List Bool
slice_fitting st (illegal wrong) = []
slice_fitting st (set_type v) = []
slice_fitting st (set_size d a) = []
slice_fitting st (cut_size d) = []
slice_fitting st (load f k r w base stride) = []
slice_fitting st (store f k r w base stride) = []
slice_fitting st (multiply f d a b) = []
slice_fitting st (combine o f d a) = []
slice_fitting st (scale f d a x) = []
slice_fitting st (float_multiply d a b) = []
slice_fitting st (move_out f a v first count) = lines_fit st f first count
slice_fitting st (move_in f d v first count file) = lines_fit st f first count

abbrev pub too_large : Bool → Check
too_large b = b otherwise TileTooLarge

module _ (M : Parameters) (isSealed : ℕ → Bool) (st : State) (mem : List ℕ) where
  abbrev pub size_tests : Operation → List Bool
  size_tests op = map (fits M st) (uses op) ++ slice_fitting st op

  abbrev pub memory_checks : Rows → Rows → List Check
  memory_checks T S =
      (inside (length mem) T.base T.stride T.count T.size otherwise OutsideMemory)
      ∷ (distinct (row_at S.base S.stride) S.count S.size otherwise RowsOverlap)
      ∷ (rows_miss isSealed S.base S.stride S.count S.size otherwise SealedByte) ∷ []

  abbrev pub behind_sizes : Operation → List Check
  behind_sizes op = map (elements_check st.marks) (reads M st op) ++ memory_checks (touches st op) (writes st op)

  abbrev pub groups : Operation → List Check
  groups op =
      (is_set_type op || not (mill st.mtype) otherwise IllegalType)
      ∷ (widths_kept M.elen st.mtype op otherwise BadWidth)
      ∷ (map too_large (size_tests op) ++ behind_sizes op)

  tile-needs : (at : ℕ → ℕ) (rows cols w : ℕ) → elements_check st.marks (tile at rows cols w) ≡ needs false st.marks at rows cols w
  tile-needs at rows cols w = ap₂ (λ (i j : ℕ). marked st.marks at rows (cols * w) otherwise Unwritten i j) (zero-add _) (zero-add _)

  -- a slice starts at its corner; the check names rows or columns from the first on
  slice-needs : (f : Form) (a first count : ℕ)
      → elements_check st.marks (slice M st f a first count)
      ≡ slice_needs f first st.marks (slice_at M f a first (sew st.mtype)) (slice_rows f st count) (slice_cols f st count) (sew st.mtype)
  slice-needs Plain a first count =
      let w : ℕ = sew st.mtype in
      let at : ℕ → ℕ = slice_at M Plain a first w in
      let check : (ℕ → ℕ) → ℕ → Check = λ f j. marked st.marks f count (st.tile_n * w) otherwise Unwritten (first + first_row st.marks f count (st.tile_n * w)) j in
      let e : (λ i. acc_at M a (first + i) + 0 * w) ≡ at = fun_ext (λ i. omega arith) in
      ap (λ (f : ℕ → ℕ). check f (0 + first_column st.marks (f (first_row st.marks f count (st.tile_n * w))) st.tile_n w)) e ∙ ap (check at) (zero-add _)
  slice-needs Transposed a first count =
      let w : ℕ = sew st.mtype in
      let at : ℕ → ℕ = slice_at M Transposed a first w in
      let check : (ℕ → ℕ) → ℕ → Check = λ f i. marked st.marks f st.tile_m (count * w) otherwise Unwritten i (first + first_column st.marks (f (first_row st.marks f st.tile_m (count * w))) count w) in
      let e : (λ i. acc_at M a (0 + i) + first * w) ≡ at = fun_ext (λ i. omega arith) in
      ap (λ (f : ℕ → ℕ). check f (0 + first_row st.marks f st.tile_m (count * w))) e ∙ ap (check at) (zero-add _)

  -- a tile without an element is written
  empty-marked : (at : ℕ → ℕ) (rows cols w : ℕ) → eqb (rows * cols) 0 ≡ true → marked st.marks at rows (cols * w) ≡ true
  empty-marked at rows cols w e = marked-true st.marks at rows (cols * w) (λ i b l m. absurd (none i b l m))
    where
      none : (i b : ℕ) → i < rows → b < cols * w → ⊥
      none i b l m = go cols (eqb-true (rows * cols) 0 e) m
        where
          go : (c : ℕ) → rows * c ≡ 0 → b < c * w → ⊥
          go zero z m = omega (arith, m, zero-mul w)
          go (suc c) z m = omega (arith, z, l)

  -- those of a multiply, by whether C has an element
  multiply-reads : (wide d a b : ℕ) (rest : List Check) → (u : Bool) → eqb (st.tile_m * st.tile_n) 0 ≡ u
      → verdict (
      needs u st.marks (tile_at M a) st.tile_m st.tile_k (sew st.mtype)
      ∷ needs u st.marks (tile_at M b) st.tile_k st.tile_n (sew st.mtype)
      ∷ needs false st.marks (acc_at M d) st.tile_m st.tile_n wide ∷ rest)
      ≡ verdict (map (elements_check st.marks) (cond u []
      (tile (tile_at M a) st.tile_m st.tile_k (sew st.mtype)
      ∷ tile (tile_at M b) st.tile_k st.tile_n (sew st.mtype)
      ∷ tile (acc_at M d) st.tile_m st.tile_n wide ∷ [])) ++ rest)
  multiply-reads wide d a b rest true e =
      ap (λ (t : Bool). cond t (verdict rest) (Err (needs false st.marks (acc_at M d) st.tile_m st.tile_n wide).answer))
      (empty-marked (acc_at M d) st.tile_m st.tile_n wide e)
  multiply-reads wide d a b rest false e =
      sym (
      ap (λ (c : Check). verdict (c ∷ y ∷ z ∷ rest)) (tile-needs (tile_at M a) st.tile_m st.tile_k (sew st.mtype))
      ∙ ap (λ (c : Check). verdict (x ∷ c ∷ z ∷ rest)) (tile-needs (tile_at M b) st.tile_k st.tile_n (sew st.mtype))
      ∙ ap (λ (c : Check). verdict (x ∷ v ∷ c ∷ rest)) (tile-needs (acc_at M d) st.tile_m st.tile_n wide))
    where
      x : Check
      x = needs false st.marks (tile_at M a) st.tile_m st.tile_k (sew st.mtype)

      v : Check
      v = needs false st.marks (tile_at M b) st.tile_k st.tile_n (sew st.mtype)

      y : Check
      y = elements_check st.marks (tile (tile_at M b) st.tile_k st.tile_n (sew st.mtype))

      z : Check
      z = elements_check st.marks (tile (acc_at M d) st.tile_m st.tile_n wide)

  abbrev multiplies : (wide d a b : ℕ) → List Check → List Check
  multiplies wide d a b rest =
      needs (eqb (st.tile_m * st.tile_n) 0) st.marks (tile_at M a) st.tile_m st.tile_k (sew st.mtype)
      ∷ needs (eqb (st.tile_m * st.tile_n) 0) st.marks (tile_at M b) st.tile_k st.tile_n (sew st.mtype)
      ∷ needs false st.marks (acc_at M d) st.tile_m st.tile_n wide ∷ rest

  -- an operation that is no load or store has nothing to check behind what it reads
  abbrev nothing : List Check
  nothing = memory_checks no_rows no_rows

  reads-last : (cs : List Check) → verdict cs ≡ verdict (cs ++ nothing)
  unfolding inside distinct rows_miss
  reads-last [] = refl
  reads-last (c ∷ cs) = ap (λ (a : Answer). cond c.holds a (Err c.answer)) (reads-last cs)

  same-behind : (cs ds es : List Check) → verdict ds ≡ verdict es → verdict (cs ++ ds) ≡ verdict (cs ++ es)
  same-behind [] ds es h = h
  same-behind (c ∷ cs) ds es h = ap (λ (a : Answer). cond c.holds a (Err c.answer)) (same-behind cs ds es h)

  scale-reads : (a : ℕ) (u : Bool) → verdict (needs u st.marks (acc_at M a) st.tile_m st.tile_n (sew st.mtype) ∷ [])
      ≡ verdict (map (elements_check st.marks) (cond u [] (tile (acc_at M a) st.tile_m st.tile_n (sew st.mtype) ∷ [])) ++ nothing)
  unfolding inside distinct rows_miss
  scale-reads a true = refl
  scale-reads a false =
      reads-last (needs false st.marks (acc_at M a) st.tile_m st.tile_n (sew st.mtype) ∷ [])
      ∙ ap (λ (c : Check). verdict (c ∷ nothing)) (sym (tile-needs (acc_at M a) st.tile_m st.tile_n (sew st.mtype)))

  combine-reads : (wide d a : ℕ) → verdict (needs false st.marks (acc_at M a) st.tile_m st.tile_n (sew st.mtype) ∷ needs false st.marks (acc_at M d) st.tile_m st.tile_n wide ∷ [])
      ≡ verdict (elements_check st.marks (tile (acc_at M a) st.tile_m st.tile_n (sew st.mtype)) ∷ elements_check st.marks (tile (acc_at M d) st.tile_m st.tile_n wide) ∷ nothing)
  combine-reads wide d a =
      reads-last (needs false st.marks (acc_at M a) st.tile_m st.tile_n (sew st.mtype) ∷ needs false st.marks (acc_at M d) st.tile_m st.tile_n wide ∷ [])
      ∙ ap₂ (λ (x y : Check). verdict (x ∷ y ∷ nothing)) (sym (tile-needs (acc_at M a) st.tile_m st.tile_n (sew st.mtype))) (sym (tile-needs (acc_at M d) st.tile_m st.tile_n wide))

  multiply-grouped : (wide d a b : ℕ) → verdict (multiplies wide d a b []) ≡ verdict (map (elements_check st.marks) (factors M st wide d a b) ++ nothing)
  multiply-grouped wide d a b = reads-last (multiplies wide d a b []) ∙ multiply-reads wide d a b nothing (eqb (st.tile_m * st.tile_n) 0) refl

  -- the checks before what is read
  abbrev heads : Operation → List Check
  heads op =
      (is_set_type op || not (mill st.mtype) otherwise IllegalType)
      ∷ (widths_kept M.elen st.mtype op otherwise BadWidth)
      ∷ map too_large (size_tests op)

  pub grouped : (op : Operation) → is_illegal op ≡ false → verdict (checks M isSealed op st mem) ≡ verdict (groups op)
  unfolding inside distinct rows_miss
  grouped (illegal wrong) h = absurd (false-true (sym h))
  grouped (set_type v) h = refl
  grouped (set_size d a) h = refl
  grouped (cut_size d) h = refl
  grouped (load f k r w base stride) h = refl
  grouped (store f k r w base stride) h =
      let R = rows_for st f k w base stride in
      let at = register_at M k r in
      let rows = tile_rows st k in
      let cols = tile_cols st k in
      same-behind (heads (store f k r w base stride)) (needs false st.marks at rows cols w ∷ memory_checks R R) (behind_sizes (store f k r w base stride))
      (ap (λ (c : Check). verdict (c ∷ memory_checks R R)) (sym (tile-needs at rows cols w)))
  grouped (multiply f d a b) h =
      same-behind (heads (multiply f d a b)) (multiplies (f * sew st.mtype) d a b []) (behind_sizes (multiply f d a b)) (multiply-grouped (f * sew st.mtype) d a b)
  grouped (combine o f d a) h =
      same-behind (heads (combine o f d a))
      (needs false st.marks (acc_at M a) st.tile_m st.tile_n (sew st.mtype) ∷ needs false st.marks (acc_at M d) st.tile_m st.tile_n (f * sew st.mtype) ∷ [])
      (behind_sizes (combine o f d a)) (combine-reads (f * sew st.mtype) d a)
  grouped (scale f d a x) h =
      same-behind (heads (scale f d a x)) (needs (is_zero x) st.marks (acc_at M a) st.tile_m st.tile_n (sew st.mtype) ∷ []) (behind_sizes (scale f d a x)) (scale-reads a (is_zero x))
  grouped (float_multiply d a b) h =
      same-behind (heads (float_multiply d a b)) (multiplies (1 * sew st.mtype) d a b []) (behind_sizes (float_multiply d a b))
      (ap (λ (wide : ℕ). verdict (multiplies wide d a b [])) (one-mul (sew st.mtype)) ∙ multiply-grouped (sew st.mtype) d a b)
  grouped (move_out f a v first count) h =
      let at = slice_at M f a first (sew st.mtype) in
      let rows = slice_rows f st count in
      let cols = slice_cols f st count in
      let w = sew st.mtype in
      same-behind (heads (move_out f a v first count)) (slice_needs f first st.marks at rows cols w ∷ []) (behind_sizes (move_out f a v first count))
      (reads-last (slice_needs f first st.marks at rows cols w ∷ []) ∙ ap (λ (c : Check). verdict (c ∷ nothing)) (sym (slice-needs f a first count)))
  grouped (move_in f d v first count file) h = refl

-- ---- each group and its sentence

module _ (M : Parameters) (st : State) where
  set-type : (op : Operation) → is_set_type op ≡ true → (v : ℕ) × (op ≡ set_type v)
  set-type (illegal wrong) h = absurd (false-true h)
  set-type (set_type v) h = (v, refl)
  set-type (set_size d a) h = absurd (false-true h)
  set-type (cut_size d) h = absurd (false-true h)
  set-type (load f k r w base stride) h = absurd (false-true h)
  set-type (store f k r w base stride) h = absurd (false-true h)
  set-type (multiply f d a b) h = absurd (false-true h)
  set-type (combine o f d a) h = absurd (false-true h)
  set-type (scale f d a x) h = absurd (false-true h)
  set-type (float_multiply d a b) h = absurd (false-true h)
  set-type (move_out f a v first count) h = absurd (false-true h)
  set-type (move_in f d v first count file) h = absurd (false-true h)

  pub tells-type : (op : Operation) → Tells (is_set_type op || not (mill st.mtype)) (TypeIsIllegal st op)
  tells-type op = go (is_set_type op) (mill st.mtype) refl refl
    where
      go : (s t : Bool) → is_set_type op ≡ s → mill st.mtype ≡ t → Tells (s || not t) (TypeIsIllegal st op)
      go true t e g = record { shows = λ h. absurd (false-true (sym h)); refutes = λ h x. x.1 (set-type op e) }
      go false true e g = record { shows = λ h. (g, λ x. false-true (sym e ∙ ap is_set_type x.1)); refutes = λ h. absurd (false-true h) }
      go false false e g = record { shows = λ h. absurd (false-true (sym h)); refutes = λ h x. false-true (sym g ∙ x.0) }

  keeps : (op : Operation) → widths_kept M.elen st.mtype op ≡ true → KeepsWidths M.elen st.mtype op
  keeps (illegal wrong) h = tt
  keeps (set_type v) h = tt
  keeps (set_size d a) h = tt
  keeps (cut_size d) h = tt
  keeps (load f k r w base stride) h = memory-width M.elen st.mtype k w h
  keeps (store f k r w base stride) h = memory-width M.elen st.mtype k w h
  keeps (multiply f d a b) h = output-width M.elen st.mtype f h
  keeps (combine o f d a) h = output-width M.elen st.mtype f h
  keeps (scale f d a x) h = output-width M.elen st.mtype f h
  keeps (float_multiply d a b) h = eqb-true (8 * sew st.mtype) 32 h
  keeps (move_out f a v first count) h = tt
  keeps (move_in f d v first count file) h = tt

  kept : (op : Operation) → KeepsWidths M.elen st.mtype op → widths_kept M.elen st.mtype op ≡ true
  kept (illegal wrong) h = refl
  kept (set_type v) h = refl
  kept (set_size d a) h = refl
  kept (cut_size d) h = refl
  kept (load f k r w base stride) h = width-memory M.elen st.mtype k w h
  kept (store f k r w base stride) h = width-memory M.elen st.mtype k w h
  kept (multiply f d a b) h = width-output M.elen st.mtype f h
  kept (combine o f d a) h = width-output M.elen st.mtype f h
  kept (scale f d a x) h = width-output M.elen st.mtype f h
  kept (float_multiply d a b) h = eq-eqb (8 * sew st.mtype) 32 h
  kept (move_out f a v first count) h = refl
  kept (move_in f d v first count file) h = refl

  pub tells-width : (op : Operation) → Tells (widths_kept M.elen st.mtype op) (WidthIsBroken M st op)
  tells-width op = tells-not (widths_kept M.elen st.mtype op) (KeepsWidths M.elen st.mtype op) (keeps op) (kept op)

  -- two bounds, and what is above one of them
  tells_both : (a b c d : ℕ) → Tells (every (leb a b ∷ leb c d ∷ [])) ((b < a) ⊎ (d < c))
  tells_both a b c d = record {
    shows = shown (leb a b) (leb c d) refl refl;
    refutes = λ e s. elim s [
      | inl l ↦ omega (arith, l, leb-true a b (and_left (leb a b) (leb c d && true) e))
      | inr l ↦ omega (arith, l, leb-true c d (and_left (leb c d) true (and_right (leb a b) (leb c d && true) e)))
    ];
  }
    where
      shown : (s t : Bool) → leb a b ≡ s → leb c d ≡ t → s && (t && true) ≡ false → (b < a) ⊎ (d < c)
      shown false t e g h = inl (leb-false a b e)
      shown true false e g h = inr (leb-false c d g)
      shown true true e g h = absurd (false-true (sym h))

  -- a line's bytes and bits
  tells-bits : (t : Bool) (a b n w : ℕ) → Tells t ((b < a) ⊎ (vector_bytes < n * w)) → Tells t ((b < a) ⊎ (128 < n * (8 * w)))
  tells-bits t a b n w k = record {
    shows = λ e. elim (k.shows e) [ inl l ↦ inl l | inr l ↦ inr (omega (arith, l)) ];
    refutes = λ e s. k.refutes e (elim s [ inl l ↦ inl l | inr l ↦ inr (omega (arith, l)) ]);
  }

  tells-lines : (f : Form) (first count : ℕ) → Tells (every (lines_fit st f first count)) (LinesTooLarge st f first count)
  tells-lines Plain first count =
      tells-bits (every (lines_fit st Plain first count)) (first + count) st.tile_m st.tile_n (sew st.mtype) (tells_both (first + count) st.tile_m (st.tile_n * sew st.mtype) vector_bytes)
  tells-lines Transposed first count =
      tells-bits (every (lines_fit st Transposed first count)) (first + count) st.tile_n st.tile_m (sew st.mtype) (tells_both (first + count) st.tile_n (st.tile_m * sew st.mtype) vector_bytes)

  tells-slice : (op : Operation) → Tells (every (slice_fitting st op)) (SliceTooLarge st op)
  tells-slice (illegal wrong) = tells-never ⊥ (λ x. x)
  tells-slice (set_type v) = tells-never ⊥ (λ x. x)
  tells-slice (set_size d a) = tells-never ⊥ (λ x. x)
  tells-slice (cut_size d) = tells-never ⊥ (λ x. x)
  tells-slice (load f k r w base stride) = tells-never ⊥ (λ x. x)
  tells-slice (store f k r w base stride) = tells-never ⊥ (λ x. x)
  tells-slice (multiply f d a b) = tells-never ⊥ (λ x. x)
  tells-slice (combine o f d a) = tells-never ⊥ (λ x. x)
  tells-slice (scale f d a x) = tells-never ⊥ (λ x. x)
  tells-slice (float_multiply d a b) = tells-never ⊥ (λ x. x)
  tells-slice (move_out f a v first count) = tells-lines f first count
  tells-slice (move_in f d v first count file) = tells-lines f first count

  pub tells-size : (op : Operation) → Tells (every (map (fits M st) (uses op) ++ slice_fitting st op)) (SizeTooLarge M st op)
  tells-size op = tells-sizes M st (uses op) (slice_fitting st op) (SliceTooLarge st op) (tells-slice op)

-- the checks of sizes, with others behind them
pub sizes-verdict : (bs : List Bool) (rest : List Check) → verdict (map too_large bs ++ rest) ≡ cond (every bs) (verdict rest) (Err TileTooLarge)
sizes-verdict [] rest = refl
sizes-verdict (true ∷ bs) rest = sizes-verdict bs rest
sizes-verdict (false ∷ bs) rest = refl
