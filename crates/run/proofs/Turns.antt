-- One turn keeps the invariant: the checks of each step pass, and what it leaves holds at the next place.
use Rattle.numbers.proofs.Kit.{◌≡◌, refl, sym, ap, ◌∙◌, subst, ◌⊎◌, inl, inr, ◌≢◌, Bool, true, false, cond, not, List, ℕ, zero, suc, ◌+◌, ◌*◌, ◌-◌, ◌/◌}
use Rattle.numbers.proofs.Kit.{◌%◌, ◌^◌, ◌≤◌, ◌<◌, min-le_left, mul-pos, not-suc-le-zero, min-le_right, div-mul-le_self, le-div_iff_mul-le}
use Rattle.numbers.proofs.Kit.{mul-le-mul_right, mul-le-mul, mod-eq_of_lt, arith, ℕ_discrete, ltb, leb, eqb, length, ℤ, pos, ◌*ℤ◌, ltb-true, ltb-false}
use Rattle.numbers.proofs.Kit.{le-leb, eq-eqb}
use Rattle.numbers.specs.Reduce.{signed, reduce}
use Rattle.numbers.proofs.TileLaws as Tile
use Rattle.numbers.specs.Tile.{get_le, In, put_tile, mark_tile}
use Rattle.numbers.proofs.BlockLaws.{granted, le-or-lt}
use Rattle.machine.specs.declared.Form.{Form}
use Rattle.machine.specs.declared.Form.TheVariants.{Plain, Transposed}
use Rattle.machine.specs.declared.Matrix.{Matrix}
use Rattle.machine.specs.declared.Matrix.TheVariants.{MatrixA, MatrixB, MatrixC}
use Rattle.machine.specs.declared.Dimension.TheVariants.{DimensionM, DimensionK, DimensionN}
use Rattle.machine.proofs.TestLaws.{or_right}
use Rattle.machine.proofs.CheckLaws.{Passed, marked-true}
use Rattle.machine.specs.Geometry.{Parameters, State, tile_at, acc_at}
use Rattle.machine.specs.Setting.{sew, mill, max_n, max_k}
use Rattle.machine.specs.TransferWords.{width_of}
use Rattle.machine.specs.ArithmeticWords.{width_ok}
use Rattle.machine.specs.Memory.{row_at, inside, distinct, rows_miss}
use Rattle.machine.proofs.StoreLaws.{at-distinct, stored-puts}
use Rattle.machine.proofs.MemoryLaws.{inside-at, block_inside, block-row_at, misses-part, rows-miss-at, rows-miss-true}
use Rattle.machine.specs.Operation.{Operation, memory_rows, memory_cols, placed, element, written}
use Rattle.machine.specs.Meanings.{state_after, memory_after, checks}
use Rattle.machine.specs.Refusals.{marked}
use Rattle.run.specs.declared.Plan.{Plan}
use Rattle.run.specs.declared.Place.{Place}
use Rattle.run.specs.declared.Place.TheVariants.{AtType, AtM, AtN, AtClear, AtK, AtA, AtB, AtMultiply, AtStore, AtEnd}
use Rattle.run.specs.Words.{Op, Shape, size_m, size_n, size_k}
use Rattle.run.specs.Places.{next, head_m, head_n, head_k}
use Rattle.run.proofs.PlaceLaws.{Sound}
use Rattle.run.proofs.NumberLaws.{Suits, multiply_of, product_by, multiply-passes, multiply-leaves, multiply-memory, total-small, product_small, cleared, total-more}
use Rattle.run.specs.Plan.{Elements, elements_of, Job, OutsideKept, shape, narrow, wide, type_of, a_at, b_at, c_at, form_of, a_row, a_column, a_of, b_of, OfC}
use Rattle.run.proofs.FormLaws.{block_in}
use Rattle.run.proofs.Invariant.{operation_of, Accepted, partial, Registers, RowsDone, ColsDone, Holds, HoldsC, InM, InN, InBlock, InK, InTerms, At}

-- ---- writing a register tile

-- a tile that is written holds its values, cut to their width
holds : (at : ℕ → ℕ) (base pitch rows cols w : ℕ) (value value' : ℕ → ℕ → ℕ) (regs marks : List ℕ)
    → ((i : ℕ) → at i ≡ base + i * pitch) → cols * w ≤ pitch → base + rows * pitch ≤ length regs → base + rows * pitch ≤ length marks
    → ((i j : ℕ) → i < rows → j < cols → value i j % 256 ^ w ≡ value' i j)
    → Holds at rows cols w value' (put_tile at rows cols w value regs) (mark_tile at rows (cols * w) marks)
holds at base pitch rows cols w value value' regs marks a f r m v = record {
  values = λ i j l l'. Tile.put_tile-le at rows cols w value regs i l (omega (arith, a i, mul-le-mul_right pitch l)) j l' (λ k l'' g q x y. omega (arith, a i, a k, mul-le-mul_right pitch g)) ∙ v i j l l';
  written = λ i b l l'. Tile.mark_tile-at at rows (cols * w) marks i l (omega (arith, a i, mul-le-mul_right pitch l)) b l';
}

-- a tile keeps its values and marks where another is written that shares no byte with it
holds-still : (at : ℕ → ℕ) (rows cols w : ℕ) (value : ℕ → ℕ → ℕ) (at' : ℕ → ℕ) (rows' cols' w' : ℕ) (value' : ℕ → ℕ → ℕ) (regs marks : List ℕ)
    → ((i k : ℕ) → i < rows → k < rows' → (at i + cols * w ≤ at' k) ⊎ (at' k + cols' * w' ≤ at i))
    → Holds at rows cols w value regs marks
    → Holds at rows cols w value (put_tile at' rows' cols' w' value' regs) (mark_tile at' rows' (cols' * w') marks)
holds-still at rows cols w value at' rows' cols' w' value' regs marks d h = record {
  values = λ i j l l'. Tile.put_tile-keeps at' rows' cols' w' value' regs (at i + j * w) w (λ k l'' q x y. elim (d i k l l'') [ inl g ↦ omega (arith, mul-le-mul_right w l') | inr g ↦ omega (arith, mul-le-mul_right w l') ]) ∙ h.values i j l l';
  written = λ i b l l'. Tile.mark_tile-keeps at' rows' (cols' * w') marks (at i + b) (h.written i b l l');
}

abbrev IsInput : Matrix → Type 0
IsInput MatrixA = Unit {0}
IsInput MatrixB = Unit {0}
IsInput MatrixC = ⊥

module _ (J : Job) (isSealed : ℕ → Bool) (A : Accepted J isSealed) where
  abbrev M : Parameters
  M = J.parameters

  abbrev P : Plan
  P = J.plan

  abbrev S : Shape
  S = shape J

  abbrev e : ℕ
  e = narrow P

  abbrev W : ℕ
  W = wide P

  abbrev R : ℕ
  R = M.rows

  abbrev L : ℕ
  L = M.pitch

  -- ---- sizes

  0<e : zero < e
  0<e = A.0<narrow

  tn-fits : S.tn * e ≤ L
  tn-fits = subst (λ (w : ℕ). L / sew (type_of P) * w ≤ L) A.sew-is (div-mul-le_self L (sew (type_of P)))

  0<tn : zero < S.tn
  0<tn = (le-div_iff_mul-le {k = sew (type_of P)} {x = 1} {y = L} (rw A.sew-is 0<e)).1 (rw A.sew-is (omega (arith, A.row-holds)))

  pub sound : Sound S
  sound = record { grants = A.grants; 0<tm = A.0<rows; 0<tk = omega (arith, A.0<rows, 0<tn); 0<tn = 0<tn }

  size-m : (i : ℕ) → i < P.m → (zero < size_m S i) × (size_m S i ≤ P.m - i) × (size_m S i ≤ R)
  size-m i l = granted M.grant A.grants S.tm A.0<rows (P.m - i) (omega arith)

  size-n : (j : ℕ) → j < P.n → (zero < size_n S j) × (size_n S j ≤ P.n - j) × (size_n S j ≤ S.tn)
  size-n j l = granted M.grant A.grants S.tn 0<tn (P.n - j) (omega arith)

  size-k : (s : ℕ) → s < P.k → (zero < size_k S s) × (size_k S s ≤ P.k - s) × (size_k S s ≤ S.tk)
  size-k s l = granted M.grant A.grants S.tk sound.0<tk (P.k - s) (omega arith)

  n-narrow : (j : ℕ) → j < P.n → size_n S j * e ≤ L
  n-narrow j l = omega (arith, mul-le-mul_right e (size-n j l).2, tn-fits)

  n-wide : (j : ℕ) → j < P.n → size_n S j * W ≤ 4 * L
  n-wide j l = omega (arith, mul-le-mul A.factor≤4 (n-narrow j l))

  k-narrow : (s : ℕ) → s < P.k → size_k S s * e ≤ L
  k-narrow s l = omega (arith, mul-le-mul_right e (size-k s l).2, mul-le-mul_right e (min-le_right R S.tn), tn-fits)

  -- ---- the heads of the loops

  open-m : (i : ℕ) (st : State) (mem : List ℕ) → InM J i st mem → At J (head_m S i) st mem
  open-m i st mem h = go (ltb i P.m) refl
    where
      go : (t : Bool) → ltb i P.m ≡ t → At J (cond t (AtM i) AtEnd) st mem
      go true b = (h, ltb-true i P.m b)
      go false b = (h.kept, λ r c l l' l''. h.rows-done r c (omega (arith, ltb-false i P.m b)) l' l'')

  open-n : (i j : ℕ) (st : State) (mem : List ℕ) → InN J i j st mem → At J (head_n S i j) st mem
  open-n i j st mem h = go (ltb j P.n) refl
    where
      all-rows : P.n ≤ j → RowsDone J (i + size_m S i) mem
      all-rows b r c l l' l'' = split (le-or-lt i r)
        where
          split : (i ≤ r) ⊎ (r < i) → element mem (c_at P) W r c ≡ partial J r c P.k
          split (inl g) =
              let x : i + (r - i) ≡ r = omega arith in
              subst (λ (z : ℕ). element mem (c_at P) W z c ≡ partial J z c P.k) x (h.cols-done (r - i) c (omega arith) (omega arith) l'')
          split (inr g) = h.in-m.rows-done r c g l' l''

      go : (t : Bool) → ltb j P.n ≡ t → At J (cond t (AtN i j) (head_m S (i + size_m S i))) st mem
      go true b = (h, ltb-true j P.n b)
      go false b =
          open-m (i + size_m S i) st mem (record { registers = h.in-m.registers; kept = h.in-m.kept; rows-done = all-rows (ltb-false j P.n b); typed = h.in-m.typed })

  open-k : (i j s : ℕ) (st : State) (mem : List ℕ) → InK J i j s st mem → At J (head_k S i j s) st mem
  open-k i j s st mem h = go (ltb s P.k) refl
    where
      go : (t : Bool) → ltb s P.k ≡ t → At J (cond t (AtK i j s) (AtStore i j)) st mem
      go true b = (h, ltb-true s P.k b)
      go false b = subst (λ (z : ℕ). InK J i j z st mem) (omega (arith, ltb-false s P.k b, h.s≤k)) h

  -- ---- a turn

  -- the checks of an operation pass, and what it leaves holds at the next place
  abbrev pub Turned : Place → Operation → State → List ℕ → Type 0
  Turned p o st mem = Passed (checks M isSealed o st mem) × At J (next S p) (state_after M o st mem) (memory_after M o st mem)

  done : (p : Place) (o : Operation) (st : State) (mem : List ℕ) → Passed (checks M isSealed o st mem)
      → At J (next S p) (state_after M o st mem) (memory_after M o st mem) → Turned p o st mem
  done p o st mem v h = (v, h)

  -- what a new state keeps of the invariant
  carry-m : (i : ℕ) (st st' : State) (mem : List ℕ) → InM J i st mem → Registers J st'.regs st'.marks → st'.mtype ≡ st.mtype → InM J i st' mem
  carry-m i st st' mem h r t = record { registers = r; kept = h.kept; rows-done = h.rows-done; typed = t ∙ h.typed }

  carry-n : (i j : ℕ) (st st' : State) (mem : List ℕ) → InN J i j st mem → Registers J st'.regs st'.marks → st'.mtype ≡ st.mtype → st'.tile_m ≡ st.tile_m
      → InN J i j st' mem
  carry-n i j st st' mem h r t m = record { in-m = carry-m i st st' mem h.in-m r t; i<m = h.i<m; tile-m = m ∙ h.tile-m; cols-done = h.cols-done }

  carry-b : (i j : ℕ) (st st' : State) (mem : List ℕ) → InBlock J i j st mem → Registers J st'.regs st'.marks → st'.mtype ≡ st.mtype → st'.tile_m ≡ st.tile_m → st'.tile_n ≡ st.tile_n
      → InBlock J i j st' mem
  carry-b i j st st' mem h r t m n = record { in-n = carry-n i j st st' mem h.in-n r t m; j<n = h.j<n; tile-n = n ∙ h.tile-n }

  pub turn-type : (st : State) (mem : List ℕ) → At J AtType st mem → Turned AtType (operation_of P Op.set_type) st mem
  turn-type st mem h =
      done AtType (operation_of P Op.set_type) st mem tt
      (open-m 0 (state_after M (operation_of P Op.set_type) st mem) mem
      (record { registers = h.0; kept = h.1; rows-done = λ r c l. absurd (not-suc-le-zero l); typed = A.legal }))

  -- no refusal because of mtype
  no-mill : (st : State) → st.mtype ≡ type_of P → not (mill st.mtype) ≡ true
  no-mill st t = rw (t, A.no-mill)

  pub turn-m : (i : ℕ) (st : State) (mem : List ℕ) → At J (AtM i) st mem → Turned (AtM i) (operation_of P (Op.set_m (P.m - i))) st mem
  turn-m i st mem h =
      let st' : State = state_after M (Operation.set_size DimensionM (P.m - i)) st mem in
      done (AtM i) (Operation.set_size DimensionM (P.m - i)) st mem (no-mill st h.0.typed, tt)
      (open-n i 0 st' mem
      (record { in-m = carry-m i st st' mem h.0 h.0.registers refl; i<m = h.1; tile-m = refl; cols-done = λ r c l l'. absurd (not-suc-le-zero l') }))

  pub turn-n : (i j : ℕ) (st : State) (mem : List ℕ) → At J (AtN i j) st mem → Turned (AtN i j) (operation_of P (Op.set_n (P.n - j))) st mem
  turn-n i j st mem h =
      let st' : State = state_after M (Operation.set_size DimensionN (P.n - j)) st mem in
      done (AtN i j) (Operation.set_size DimensionN (P.n - j)) st mem (no-mill st h.0.in-m.typed, tt)
      (record {
        in-n = carry-n i j st st' mem h.0 h.0.in-m.registers refl refl;
        j<n = h.1;
        tile-n = ap (λ (t : ℕ). M.grant (max_n M t) (P.n - j)) h.0.in-m.typed;
      })

  pub turn-k : (i j s : ℕ) (st : State) (mem : List ℕ) → At J (AtK i j s) st mem → Turned (AtK i j s) (operation_of P (Op.set_k (P.k - s))) st mem
  turn-k i j s st mem h =
      let st' : State = state_after M (Operation.set_size DimensionK (P.k - s)) st mem in
      let b : InBlock J i j st mem = h.0.in_block in
      done (AtK i j s) (Operation.set_size DimensionK (P.k - s)) st mem (no-mill st b.in-n.in-m.typed, tt)
      (record {
        in-k = record { in_block = carry-b i j st st' mem b b.in-n.in-m.registers refl refl refl; s≤k = h.0.s≤k; holds-c = h.0.holds-c };
        s<k = h.1;
        tile-k = ap (λ (t : ℕ). M.grant (max_k M t) (P.k - s)) b.in-n.in-m.typed;
      })

  registers-still : (at : ℕ → ℕ) (rows cols w : ℕ) (value : ℕ → ℕ → ℕ) (regs marks : List ℕ) → Registers J regs marks
      → Registers J (put_tile at rows cols w value regs) (mark_tile at rows (cols * w) marks)
  registers-still at rows cols w value regs marks h = record {
    regs-length = Tile.length-put_tile at rows cols w value regs ∙ h.regs-length;
    marks-length = Tile.length-mark_tile at rows (cols * w) marks ∙ h.marks-length;
  }

  -- ---- the checks of a block

  module _ (i j : ℕ) (st : State) (mem : List ℕ) (h : InBlock J i j st mem) where
    typed : st.mtype ≡ type_of P
    typed = h.in-n.in-m.typed

    e-is : sew st.mtype ≡ e
    e-is = rw typed A.sew-is

    w-is : P.factor * sew st.mtype ≡ W
    w-is = ap (λ (x : ℕ). P.factor * x) e-is

    ok-w : width_ok M.elen st.mtype P.factor ≡ true
    ok-w = rw typed A.width

    -- the width rules of the run's loads and stores
    narrow-ok : (k : Matrix) → IsInput k → width_of M.elen st.mtype k e ≡ true
    unfolding width_of
    narrow-ok MatrixA t = eq-eqb e (sew st.mtype) (sym e-is)
    narrow-ok MatrixB t = eq-eqb e (sew st.mtype) (sym e-is)
    narrow-ok MatrixC t = absurd t

    wide_ok : width_of M.elen st.mtype MatrixC W ≡ true
    wide_ok = rw typed A.c-width

    ok-m : leb st.tile_m R ≡ true
    ok-m = le-leb st.tile_m R (omega (arith, h.in-n.tile-m, size-m i h.in-n.i<m))

    ok-n : leb st.tile_n (max_n M st.mtype) ≡ true
    ok-n = rw typed (le-leb st.tile_n S.tn (omega (arith, h.tile-n, size-n j h.j<n)))

    -- a write to accumulator 0 fits
    acc-fits : (8 * (R * L)) + size_m S i * (4 * L) ≤ 16 * (R * L)
    acc-fits = omega (arith, mul-le-mul_right L (size-m i h.in-n.i<m).2)

  pub turn-clear : (i j : ℕ) (st : State) (mem : List ℕ) → At J (AtClear i j) st mem → Turned (AtClear i j) (operation_of P Op.clear) st mem
  turn-clear i j st mem h =
      let st' : State = state_after M (operation_of P Op.clear) st mem in
      let old : ℕ → ℕ → ℤ = λ r c. signed (256 ^ sew st.mtype) (element st.regs (acc_at M 0) (sew st.mtype) r c) in
      let regs-ok = h.in-n.in-m.registers in
      done (AtClear i j) (operation_of P Op.clear) st mem
      (no-mill st (typed i j st mem h), (ok-w i j st mem h, (ok-m i j st mem h, (ok-n i j st mem h, (refl, tt)))))
      (open-k i j 0 st' mem (record {
        in_block = carry-b i j st st' mem h (registers-still _ _ _ _ _ _ _ regs-ok) refl refl refl;
        s≤k = omega arith;
        holds-c = rw (h.in-n.tile-m, h.tile-n, w-is i j st mem h) (
            holds (acc_at M 0) (8 * (R * L)) (4 * L) (size_m S i) (size_n S j) W (λ r c. reduce (256 ^ W) (old r c *ℤ pos 0)) (λ r c. partial J (i + r) (j + c) 0) st.regs st.marks
            (λ r. omega arith) (n-wide j h.j<n) (omega (arith, acc-fits i j st mem h, regs-ok.regs-length)) (omega (arith, acc-fits i j st mem h, regs-ok.marks-length))
            (λ r c l l'. cleared P.factor e (elements_of P) _ _ (old r c)));
      }))

  -- ---- loads

  -- bytes that are none of C's are as at the start
  as-started : (mem : List ℕ) → OutsideKept J mem → (p w : ℕ) → ((q : ℕ) → In p w q → ¬ OfC J q) → get_le mem p w ≡ get_le J.memory p w
  as-started mem kept p w h = Tile.le-cong mem J.memory p p w (λ b l. kept.outside (p + b) (h (p + b) (omega arith)))

  -- a block of a matrix in memory
  module _ (base stride total n i₀ j₀ rows cols : ℕ)
      (in_memory : inside (length J.memory) base stride total (n * e) ≡ true)
      (apart : (i q : ℕ) → i < total → In (row_at base stride i) (n * e) q → ¬ OfC J q)
      (0<rows : zero < rows) (0<n : zero < n) (rows≤ : i₀ + rows ≤ total) (cols≤ : j₀ + cols ≤ n) where
    part-inside : (mem : List ℕ) → OutsideKept J mem → inside (length mem) (row_at base stride i₀ + j₀ * e) stride rows (cols * e) ≡ true
    part-inside mem kept = rw kept.same_length (block_inside (length J.memory) base stride total (n * e) in_memory i₀ (j₀ * e) rows (cols * e) 0<rows (mul-pos 0<n 0<e) rows≤ (omega (arith, mul-le-mul_right e cols≤)))

    part-value : (mem : List ℕ) → OutsideKept J mem → (r c : ℕ) → r < rows → c < cols
        → element mem (row_at (row_at base stride i₀ + j₀ * e) stride) e r c % 256 ^ e ≡ element J.memory (row_at base stride) e (i₀ + r) (j₀ + c)
    part-value mem kept r c l l' =
        let p : ℕ = row_at base stride (i₀ + r) + (j₀ + c) * e in
        let at : row_at (row_at base stride i₀ + j₀ * e) stride r ≡ row_at base stride (i₀ + r) + j₀ * e =
        block-row_at (length J.memory) base stride total (n * e) in_memory i₀ (j₀ * e) rows (cols * e) 0<rows (mul-pos 0<n 0<e) rows≤ (omega (arith, mul-le-mul_right e cols≤)) r l in
        let here : row_at (row_at base stride i₀ + j₀ * e) stride r + c * e ≡ p = omega (arith, at) in
        let same : get_le mem p e ≡ get_le J.memory p e =
        as-started mem kept p e (λ q x. apart (i₀ + r) q (omega arith) (omega (arith, mul-le-mul_right {m = suc (j₀ + c)} {n = n} e (omega arith)))) in
        ap (λ (p : ℕ). get_le mem p e % 256 ^ e) here ∙ ap (λ (v : ℕ). v % 256 ^ e) same ∙ mod-eq_of_lt (Tile.le-lt J.memory A.bytes p e)

  -- the address of the block of a load, plain or transposed
  abbrev from : Form → (base stride i₀ j₀ : ℕ) → ℕ
  from f base stride i₀ j₀ = row_at base stride (memory_rows f i₀ j₀) + memory_cols f i₀ j₀ * e

  -- a matrix whose rows in memory lie inside it and apart from C
  record Apart (f : Form) (base stride total n : ℕ) : Type 0 where
    in_memory : inside (length J.memory) base stride (memory_rows f total n) (memory_cols f total n * e) ≡ true
    apart : (i q : ℕ) → i < memory_rows f total n → In (row_at base stride i) (memory_cols f total n * e) q → ¬ OfC J q

  load_value : (f : Form) (base stride total n i₀ j₀ rows cols : ℕ) → Apart f base stride total n
      → zero < rows → zero < cols → i₀ + rows ≤ total → j₀ + cols ≤ n → (mem : List ℕ) → OutsideKept J mem → (r c : ℕ) → r < rows → c < cols
      → placed f (element mem (row_at (from f base stride i₀ j₀) stride) e) r c % 256 ^ e ≡ placed f (element J.memory (row_at base stride) e) (i₀ + r) (j₀ + c)
  load_value Plain base stride total n i₀ j₀ rows cols a h h' g g' mem kept r c l l' =
      part-value base stride total n i₀ j₀ rows cols a.in_memory a.apart h (omega arith) g g' mem kept r c l l'
  load_value Transposed base stride total n i₀ j₀ rows cols a h h' g g' mem kept r c l l' =
      part-value base stride n total j₀ i₀ cols rows a.in_memory a.apart h' (omega arith) g' g mem kept c r l' l

  module _ (f : Form) (base stride total n reg i₀ j₀ rows cols : ℕ) (a : Apart f base stride total n)
      (0<rows : zero < rows) (0<cols : zero < cols) (rows≤ : i₀ + rows ≤ total) (cols≤ : j₀ + cols ≤ n) where
    load_inside : (mem : List ℕ) → OutsideKept J mem → inside (length mem) (from f base stride i₀ j₀) stride (memory_rows f rows cols) (memory_cols f rows cols * e) ≡ true
    load_inside mem kept =
        let b = block_in f i₀ j₀ rows cols total n 0<rows 0<cols rows≤ cols≤ in
        part-inside base stride (memory_rows f total n) (memory_cols f total n) (memory_rows f i₀ j₀) (memory_cols f i₀ j₀) (memory_rows f rows cols) (memory_cols f rows cols)
        a.in_memory a.apart b.0 b.1 b.2 b.3 mem kept

    load-holds : (regs marks mem : List ℕ) → Registers J regs marks → OutsideKept J mem → reg < 8 → rows ≤ R → cols * e ≤ L
        → Holds (tile_at M reg) rows cols e (λ r c. placed f (element J.memory (row_at base stride) e) (i₀ + r) (j₀ + c))
        (put_tile (tile_at M reg) rows cols e (placed f (element mem (row_at (from f base stride i₀ j₀) stride) e)) regs) (mark_tile (tile_at M reg) rows (cols * e) marks)
    load-holds regs marks mem ok kept g fit-rows fit-cols =
        let fit : reg * (R * L) + rows * L ≤ 16 * (R * L) = omega (arith, mul-le-mul_right L fit-rows, mul-le-mul_right (R * L) g) in
        holds (tile_at M reg) (reg * (R * L)) L rows cols e (placed f (element mem (row_at (from f base stride i₀ j₀) stride) e))
        (λ r c. placed f (element J.memory (row_at base stride) e) (i₀ + r) (j₀ + c)) regs marks
        (λ r. refl) fit-cols (omega (arith, fit, ok.regs-length)) (omega (arith, fit, ok.marks-length))
        (load_value f base stride total n i₀ j₀ rows cols a 0<rows 0<cols rows≤ cols≤ mem kept)

  -- ---- the checks of a block with its terms

  module _ (i j s : ℕ) (st : State) (mem : List ℕ) (h : InTerms J i j s st mem) where
    b : InBlock J i j st mem
    b = h.in-k.in_block

    ok-k : leb st.tile_k (max_k M st.mtype) ≡ true
    ok-k = rw (typed i j st mem b) (le-leb st.tile_k S.tk (omega (arith, h.tile-k, size-k s h.s<k)))

    -- a load of tile register r leaves the accumulator's tile
    c-still : (r rows cols : ℕ) (value : ℕ → ℕ → ℕ) → r < 8 → rows ≤ R → cols * e ≤ L
        → HoldsC J i j s (put_tile (tile_at M r) rows cols e value st.regs) (mark_tile (tile_at M r) rows (cols * e) st.marks)
    c-still r rows cols value g f f' =
        holds-still (acc_at M 0) (size_m S i) (size_n S j) W (λ r c. partial J (i + r) (j + c) s) (tile_at M r) rows cols e value st.regs st.marks
        (λ x y l l'. inr (omega (arith, mul-le-mul_right {m = suc y} {n = R} L (omega arith), mul-le-mul_right (R * L) g))) h.in-k.holds-c

  pub turn-a : (i j s : ℕ) (st : State) (mem : List ℕ) → At J (AtA i j s) st mem → Turned (AtA i j s) (operation_of P (Op.load_a i s)) st mem
  turn-a i j s st mem h =
      let o : Operation = operation_of P (Op.load_a i s) in
      let st' : State = state_after M o st mem in
      let blk : InBlock J i j st mem = h.in-k.in_block in
      let m' = size-m i blk.in-n.i<m in
      let k' = size-k s h.s<k in
      let mem_ok : OutsideKept J mem = blk.in-n.in-m.kept in
      let regs-ok = blk.in-n.in-m.registers in
      let f : Form = form_of P in
      let a : Apart f P.a.address P.a.stride P.m P.k = record { in_memory = A.a_in; apart = A.c-a } in
      let ins : inside (length mem) (a_at P (a_row P i s) + a_column P i s * e) P.a.stride (memory_rows f st.tile_m st.tile_k) (memory_cols f st.tile_m st.tile_k * e) ≡ true =
      rw (blk.in-n.tile-m, h.tile-k)
      (load_inside f P.a.address P.a.stride P.m P.k 0 i s (size_m S i) (size_k S s) a m'.0 k'.0 (omega arith) (omega arith) mem mem_ok) in
      done (AtA i j s) o st mem
      (no-mill st (typed i j st mem blk), (narrow-ok i j st mem blk MatrixA tt, (ok-m i j st mem blk, (ok-k i j s st mem h, (ins, tt))))) (
        record {
          in-k = record {
            in_block = carry-b i j st st' mem blk (registers-still _ _ _ _ _ _ _ regs-ok) refl refl refl;
            s≤k = h.in-k.s≤k;
            holds-c = rw (blk.in-n.tile-m, h.tile-k) (c-still i j s st mem h 0 (size_m S i) (size_k S s) _ (omega arith) m'.2 (k-narrow s h.s<k));
          };
          s<k = h.s<k;
          tile-k = h.tile-k;
        },
        rw (blk.in-n.tile-m, h.tile-k)
            (load-holds f P.a.address P.a.stride P.m P.k 0 i s (size_m S i) (size_k S s) a m'.0 k'.0 (omega arith) (omega arith) st.regs st.marks mem regs-ok mem_ok (omega arith) m'.2 (k-narrow s h.s<k)),
      )

  pub turn-b : (i j s : ℕ) (st : State) (mem : List ℕ) → At J (AtB i j s) st mem → Turned (AtB i j s) (operation_of P (Op.load_b s j)) st mem
  turn-b i j s st mem (h, ha) =
      let o : Operation = operation_of P (Op.load_b s j) in
      let st' : State = state_after M o st mem in
      let blk : InBlock J i j st mem = h.in-k.in_block in
      let k' = size-k s h.s<k in
      let n' = size-n j blk.j<n in
      let mem_ok : OutsideKept J mem = blk.in-n.in-m.kept in
      let regs-ok = blk.in-n.in-m.registers in
      let k≤R : size_k S s ≤ R = omega (arith, min-le_left R S.tn) in
      let b : Apart Plain P.b.address P.b.stride P.k P.n = record { in_memory = A.b-in; apart = A.c-b } in
      let ins : inside (length mem) (b_at P s + j * e) P.b.stride st.tile_k (st.tile_n * e) ≡ true =
      rw (h.tile-k, blk.tile-n)
      (load_inside Plain P.b.address P.b.stride P.k P.n 1 s j (size_k S s) (size_n S j) b k'.0 n'.0 (omega arith) (omega arith) mem mem_ok) in
      done (AtB i j s) o st mem
      (no-mill st (typed i j st mem blk), (narrow-ok i j st mem blk MatrixB tt, (ok-k i j s st mem h, (ok-n i j st mem blk, (ins, tt))))) (
        record {
          in-k = record {
            in_block = carry-b i j st st' mem blk (registers-still _ _ _ _ _ _ _ regs-ok) refl refl refl;
            s≤k = h.in-k.s≤k;
            holds-c = rw (h.tile-k, blk.tile-n) (c-still i j s st mem h 1 (size_k S s) (size_n S j) _ (omega arith) k≤R (n-narrow j blk.j<n));
          };
          s<k = h.s<k;
          tile-k = h.tile-k;
        },
        rw (h.tile-k, blk.tile-n)
            (holds-still (tile_at M 0) (size_m S i) (size_k S s) e (λ r c. a_of J (i + r) (s + c)) (tile_at M 1) (size_k S s) (size_n S j) e _ st.regs st.marks
            (λ x y l l'. inl (omega (arith, mul-le-mul_right {m = suc x} {n = R} L (omega (arith, size-m i blk.in-n.i<m)), k-narrow s h.s<k))) ha),
        rw (h.tile-k, blk.tile-n)
            (load-holds Plain P.b.address P.b.stride P.k P.n 1 s j (size_k S s) (size_n S j) b k'.0 n'.0 (omega arith) (omega arith) st.regs st.marks mem regs-ok mem_ok (omega arith) k≤R (n-narrow j blk.j<n)),
      )

  -- ---- multiply

  pub turn-multiply : (i j s : ℕ) (st : State) (mem : List ℕ) → At J (AtMultiply i j s) st mem → Turned (AtMultiply i j s) (operation_of P Op.multiply) st mem
  turn-multiply i j s st mem (h, ha, hb) =
      let q : Elements = elements_of P in
      let f : ℕ = P.factor in
      let blk : InBlock J i j st mem = h.in-k.in_block in
      let regs-ok = blk.in-n.in-m.registers in
      let k' = size-k s h.s<k in
      let suits : Suits q f (sew st.mtype) = subst (Suits q f) (sym (e-is i j st mem blk)) A.suits in
      let value : (w n t : ℕ) → ℕ → ℕ → ℕ = λ w n t r c. product_by q w n t (element st.regs (acc_at M 0) w r c) (λ l. element st.regs (tile_at M 0) n r l) (λ l. element st.regs (tile_at M 1) n l c) in
      let st' : State = written st (acc_at M 0) st.tile_m st.tile_n (f * sew st.mtype) (value (f * sew st.mtype) (sew st.mtype) st.tile_k) in
      let mark-a : marked st.marks (tile_at M 0) st.tile_m (st.tile_k * sew st.mtype) ≡ true =
      rw (blk.in-n.tile-m, h.tile-k, e-is i j st mem blk) (marked-true st.marks (tile_at M 0) (size_m S i) (size_k S s * e) ha.written) in
      let mark-b : marked st.marks (tile_at M 1) st.tile_k (st.tile_n * sew st.mtype) ≡ true =
      rw (h.tile-k, blk.tile-n, e-is i j st mem blk) (marked-true st.marks (tile_at M 1) (size_k S s) (size_n S j * e) hb.written) in
      let mark-c : marked st.marks (acc_at M 0) st.tile_m (st.tile_n * (f * sew st.mtype)) ≡ true =
      rw (blk.in-n.tile-m, blk.tile-n, w-is i j st mem blk) (marked-true st.marks (acc_at M 0) (size_m S i) (size_n S j * W) h.in-k.holds-c.written) in
      let passes : Passed (checks M isSealed (Operation.multiply f 0 0 1) st mem) = (
        no-mill st (typed i j st mem blk),
        (
          ok-w i j st mem blk,
          (
            ok-m i j st mem blk,
            (
              ok-k i j s st mem h,
              (
                ok-n i j st mem blk,
                (or_right (eqb (st.tile_m * st.tile_n) 0) _ mark-a, (or_right (eqb (st.tile_m * st.tile_n) 0) _ mark-b, (mark-c, tt))),
              ),
            ),
          ),
        ),
      ) in
      let after : At J (head_k S i j (s + size_k S s)) st' mem = open-k i j (s + size_k S s) st' mem (record {
        in_block = carry-b i j st st' mem blk (registers-still _ _ _ _ _ _ _ regs-ok) refl refl refl;
        s≤k = omega arith;
        holds-c = rw (blk.in-n.tile-m, blk.tile-n, h.tile-k, w-is i j st mem blk, e-is i j st mem blk) (
            holds (acc_at M 0) (8 * (R * L)) (4 * L) (size_m S i) (size_n S j) W (value W e (size_k S s)) (λ r c. partial J (i + r) (j + c) (s + size_k S s)) st.regs st.marks
            (λ r. omega arith) (n-wide j blk.j<n) (omega (arith, acc-fits i j st mem blk, regs-ok.regs-length)) (omega (arith, acc-fits i j st mem blk, regs-ok.marks-length))
            (λ r c l l'. product_small f e q A.suits (size_k S s) (element st.regs (acc_at M 0) W r c) (λ t. element st.regs (tile_at M 0) e r t) (λ t. element st.regs (tile_at M 1) e t c)
            ∙ total-more f e q (λ l. a_of J (i + r) l) (λ l. b_of J l (j + c)) s (size_k S s) (element st.regs (acc_at M 0) W r c) (λ t. element st.regs (tile_at M 0) e r t) (λ t. element st.regs (tile_at M 1) e t c)
            (h.in-k.holds-c.values r c l l') (λ t g. ha.values r t l g) (λ t g. hb.values t c g l')));
      }) in
      done (AtMultiply i j s) (multiply_of q f) st mem (multiply-passes M st mem f isSealed q suits passes)
      (subst (λ (m : List ℕ). At J (head_k S i j (s + size_k S s)) (state_after M (multiply_of q f) st mem) m) (sym (multiply-memory M st mem f q))
      (subst (λ (z : State). At J (head_k S i j (s + size_k S s)) z mem) (sym (multiply-leaves M st mem f q suits)) after))

  -- ---- store

  -- an element of C lies in its row
  in_row : (r c q : ℕ) → c < P.n → In (c_at P r + c * W) W q → In (c_at P r) (P.n * W) q
  in_row r c q l x = omega (arith, mul-le-mul_right W l)

  -- two rows of C share no byte
  rows_apart : (r r' q : ℕ) → r < P.m → r' < P.m → r ≢ r' → In (c_at P r) (P.n * W) q → ¬ In (c_at P r') (P.n * W) q
  rows_apart r r' q l l' d x y = elim (le-or-lt r r') [ inl g ↦ A.c-rows r r' q (omega arith) l' x y | inr g ↦ A.c-rows r' r q g l y x ]

  -- the rows of the block that starts at row i and column j of C, and the memory with the accumulator's tile there
  abbrev block_at : ℕ → ℕ → ℕ → ℕ
  block_at i j r = c_at P (i + r) + j * W

  stored_by : ℕ → ℕ → List ℕ → List ℕ → List ℕ
  stored_by i j regs mem = put_tile (block_at i j) (size_m S i) (size_n S j) W (element regs (acc_at M 0) W) mem

  module _ (i j : ℕ) (st : State) (mem : List ℕ) (h : InK J i j P.k st mem) where
    blk : InBlock J i j st mem
    blk = h.in_block

    bound-m : (zero < size_m S i) × (size_m S i ≤ P.m - i) × (size_m S i ≤ R)
    bound-m = size-m i blk.in-n.i<m

    bound-n : (zero < size_n S j) × (size_n S j ≤ P.n - j) × (size_n S j ≤ S.tn)
    bound-n = size-n j blk.j<n

    width≤ : j * W + size_n S j * W ≤ P.n * W
    width≤ = omega (arith, mul-le-mul_right {m = j + size_n S j} {n = P.n} W (omega (arith, bound-n, blk.j<n)))

    -- a row of the block lies in a row of C
    in_c : (r q : ℕ) → In (block_at i j r) (size_n S j * W) q → In (c_at P (i + r)) (P.n * W) q
    in_c r q x = omega (arith, width≤)

    store-inside : inside (length mem) (c_at P i + j * W) P.c.stride (size_m S i) (size_n S j * W) ≡ true
    store-inside =
        rw blk.in-n.in-m.kept.same_length
        (block_inside (length J.memory) P.c.address P.c.stride P.m (P.n * W) A.c-in i (j * W) (size_m S i) (size_n S j * W) bound-m.0
        (mul-pos {m = P.n} (omega (arith, blk.j<n)) A.0<wide) (omega (arith, bound-m, blk.in-n.i<m)) width≤)

    row_is : (r : ℕ) → r < size_m S i → row_at (c_at P i + j * W) P.c.stride r ≡ block_at i j r
    row_is r l =
        block-row_at (length J.memory) P.c.address P.c.stride P.m (P.n * W) A.c-in i (j * W) (size_m S i) (size_n S j * W) bound-m.0
        (mul-pos {m = P.n} (omega (arith, blk.j<n)) A.0<wide) (omega (arith, bound-m, blk.in-n.i<m)) width≤ r l

    store-unsealed : rows_miss isSealed (c_at P i + j * W) P.c.stride (size_m S i) (size_n S j * W) ≡ true
    store-unsealed =
        rows-miss-true isSealed (c_at P i + j * W) P.c.stride (size_m S i) (size_n S j * W) (λ r l.
        rw (row_is r l) (misses-part isSealed (c_at P (i + r)) (P.n * W) (c_at P (i + r) + j * W) (size_n S j * W)
        (rows-miss-at isSealed P.c.address P.c.stride P.m (P.n * W) A.c-unsealed (i + r) (omega (arith, bound-m, blk.in-n.i<m)))
        (omega arith) (omega (arith, width≤))))

    store-distinct : distinct (row_at (c_at P i + j * W) P.c.stride) (size_m S i) (size_n S j * W) ≡ true
    store-distinct =
        at-distinct (row_at (c_at P i + j * W) P.c.stride) (size_m S i) (size_n S j * W) (λ r r' q l l' x y.
        A.c-rows (i + r) (i + r') q (omega arith) (omega (arith, bound-m, blk.in-n.i<m))
        (in_c r q (omega (arith, row_is r (omega arith)))) (in_c r' q (omega (arith, row_is r' l'))))

    stored_is : memory_after M (operation_of P (Op.store i j)) st mem ≡ stored_by i j st.regs mem
    unfolding stored_by
    stored_is =
        rw (blk.in-n.tile-m, blk.tile-n)
        (stored-puts (row_at (c_at P i + j * W) P.c.stride) (size_m S i) (size_n S j) W (element st.regs (acc_at M 0) W) mem store-distinct
        (λ r l some. (inside-at (length mem) (c_at P i + j * W) P.c.stride (size_m S i) (size_n S j * W) store-inside some r l).1)
        ∙ Tile.put_tile-rows (row_at (c_at P i + j * W) P.c.stride) (block_at i j) (size_m S i) (size_n S j) W (element st.regs (acc_at M 0) W) mem row_is)

    stored-kept : OutsideKept J (stored_by i j st.regs mem)
    unfolding stored_by
    stored-kept = record {
      same_length = Tile.length-put_tile (block_at i j) (size_m S i) (size_n S j) W (element st.regs (acc_at M 0) W) mem ∙ blk.in-n.in-m.kept.same_length;
      outside = λ q o. Tile.put_tile-out (block_at i j) (size_m S i) (size_n S j) W (element st.regs (acc_at M 0) W) mem q (λ r l x. o (i + r, (omega (arith, bound-m, blk.in-n.i<m)), in_c r q x)) ∙ blk.in-n.in-m.kept.outside q o;
    }

    stored-rows : RowsDone J i (stored_by i j st.regs mem)
    unfolding stored_by
    stored-rows r c l l' l'' =
        Tile.put_tile-keeps (block_at i j) (size_m S i) (size_n S j) W (element st.regs (acc_at M 0) W) mem (c_at P r + c * W) W
        (λ k g q x y. A.c-rows r (i + k) q (omega arith) (omega (arith, bound-m, blk.in-n.i<m)) (in_row r c q l'' x) (in_c k q y))
        ∙ blk.in-n.in-m.rows-done r c l l' l''

    stored-cols : ColsDone J i (j + size_n S j) (stored_by i j st.regs mem)
    unfolding stored_by
    stored-cols r c l l' l'' = split (le-or-lt j c)
      where
        old : c < j → element (stored_by i j st.regs mem) (c_at P) W (i + r) c ≡ partial J (i + r) c P.k
        old g = Tile.put_tile-keeps (block_at i j) (size_m S i) (size_n S j) W (element st.regs (acc_at M 0) W) mem (c_at P (i + r) + c * W) W
            (λ k g' q x y. elim (ℕ_discrete r k) [
              | yes d ↦ omega (arith, mul-le-mul_right W g, ap (λ (z : ℕ). c_at P (i + z)) d)
              | no d ↦ rows_apart (i + r) (i + k) q (omega (arith, bound-m, blk.in-n.i<m)) (omega (arith, bound-m, blk.in-n.i<m)) (λ d'. d (omega arith)) (in_row (i + r) c q l'' x) (in_c k q y)
            ])
            ∙ blk.in-n.cols-done r c l g l''

        new : (c' : ℕ) → c' < size_n S j → element (stored_by i j st.regs mem) (c_at P) W (i + r) (j + c') ≡ partial J (i + r) (j + c') P.k
        new c' g =
            ap (λ (p : ℕ). get_le (stored_by i j st.regs mem) p W) (omega arith)
            ∙ Tile.put_tile-le (block_at i j) (size_m S i) (size_n S j) W (element st.regs (acc_at M 0) W) mem r l
            (omega (arith, width≤, blk.in-n.in-m.kept.same_length, (inside-at (length J.memory) P.c.address P.c.stride P.m (P.n * W) A.c-in (mul-pos {m = P.n} (omega (arith, blk.j<n)) A.0<wide) (i + r) (omega (arith, bound-m, blk.in-n.i<m))).1))
            c' g (λ k g' d q x y. A.c-rows (i + r) (i + k) q (omega arith) (omega (arith, bound-m, blk.in-n.i<m)) (in_c r q x) (in_c k q y))
            ∙ ap (λ (v : ℕ). v % 256 ^ W) (h.holds-c.values r c' l g)
            ∙ total-small P.factor e (elements_of P) A.suits _ _ P.k

        split : (j ≤ c) ⊎ (c < j) → element (stored_by i j st.regs mem) (c_at P) W (i + r) c ≡ partial J (i + r) c P.k
        split (inl g) =
            let d : j + (c - j) ≡ c = omega arith in
            subst (λ (z : ℕ). element (stored_by i j st.regs mem) (c_at P) W (i + r) z ≡ partial J (i + r) z P.k) d (new (c - j) (omega arith))
        split (inr g) = old g

  pub turn-store : (i j : ℕ) (st : State) (mem : List ℕ) → At J (AtStore i j) st mem → Turned (AtStore i j) (operation_of P (Op.store i j)) st mem
  turn-store i j st mem h =
      let o : Operation = operation_of P (Op.store i j) in
      let b : InBlock J i j st mem = h.in_block in
      let mark-c : marked st.marks (acc_at M 0) st.tile_m (st.tile_n * W) ≡ true =
      rw (b.in-n.tile-m, b.tile-n) (marked-true st.marks (acc_at M 0) (size_m S i) (size_n S j * W) h.holds-c.written) in
      let ins : inside (length mem) (c_at P i + j * W) P.c.stride st.tile_m (st.tile_n * W) ≡ true =
      rw (b.in-n.tile-m, b.tile-n) (store-inside i j st mem h) in
      let dis : distinct (row_at (c_at P i + j * W) P.c.stride) st.tile_m (st.tile_n * W) ≡ true =
      rw (b.in-n.tile-m, b.tile-n) (store-distinct i j st mem h) in
      let uns : rows_miss isSealed (c_at P i + j * W) P.c.stride st.tile_m (st.tile_n * W) ≡ true =
      rw (b.in-n.tile-m, b.tile-n) (store-unsealed i j st mem h) in
      done (AtStore i j) o st mem
      (no-mill st (typed i j st mem b), (wide_ok i j st mem b, (ok-m i j st mem b, (ok-n i j st mem b, (mark-c, (ins, (dis, (uns, tt))))))))
      (rw (stored_is i j st mem h)
      (open-n i (j + size_n S j) st (stored_by i j st.regs mem) (record {
        in-m = record { registers = b.in-n.in-m.registers; kept = stored-kept i j st mem h; rows-done = stored-rows i j st mem h; typed = b.in-n.in-m.typed };
        i<m = b.in-n.i<m;
        tile-m = b.in-n.tile-m;
        cols-done = stored-cols i j st mem h;
      })))
