-- A tile multiplied in blocks of columns and terms is the tile multiplied at once, by whatever rule an element of C is made from its old
-- value and the elements of A and B.
use Rattle.numbers.proofs.Kit.{◌≡◌, refl, sym, ap, ap₂, ◌∙◌, subst, ◌⊎◌, inl, inr, List, ℕ, zero, suc, ◌+◌, ◌*◌, ◌-◌, ◌/◌, ◌%◌, ◌^◌, ◌≤◌, ◌<◌, mul-le-mul_right}
use Rattle.numbers.proofs.Kit.{mul-le-mul_left, zero-mul, div-add-mod', mod-lt, mod-eq_of_lt, div-lt_iff_lt-mul, eq-or-lt_of_le, le_of_suc-le-suc, not-suc-le-zero}
use Rattle.numbers.proofs.Kit.{arith, length, get_or, ext_get_or, ℤ, ◌+ℤ◌, ◌*ℤ◌, +ℤ_assoc}
use Rattle.numbers.specs.Reduce.{signed, reduce, sumℤ}
use Rattle.numbers.proofs.ReduceLaws.{sumℤ-add, sumℤ-cong, reduce-lt, accumulate}
use Rattle.numbers.specs.Tile.{get_le, byte_of, put_tile, In}
use Rattle.numbers.proofs.TileLaws.{length-put_tile, put_tile-out, put_tile-at, put_tile-le, put_tile-keeps, put_tile-rows, pitched}
use Rattle.numbers.proofs.PutLaws.{put_tile-low, put_tile-none}
use Rattle.numbers.proofs.ElementLaws.{pow-256}
use Rattle.numbers.proofs.BlockLaws.{le-or-lt}
use Rattle.machine.specs.ArithmeticWords.{product}
use Rattle.unit_arithmetic.specs.declared.product.Product.{Product}
use Rattle.unit_arithmetic.specs.Products.{terms_from, columns_from, rows_from, LiesIn}

-- ---- two lists that agree on a tile's bytes and outside it

in_row : (at : ℕ → ℕ) (m n q : ℕ) → ((i : ℕ) × (i < m) × In (at i) n q) ⊎ ((i : ℕ) → i < m → ¬ In (at i) n q)
in_row at zero n q = inr (λ i l. absurd (not-suc-le-zero l))
in_row at (suc m) n q = go (le-or-lt (at m) q) (le-or-lt (at m + n) q) (in_row at m n q)
  where
    out : ¬ In (at m) n q → ((i : ℕ) × (i < m) × In (at i) n q) ⊎ ((i : ℕ) → i < m → ¬ In (at i) n q)
        → ((i : ℕ) × (i < suc m) × In (at i) n q) ⊎ ((i : ℕ) → i < suc m → ¬ In (at i) n q)
    out d (inl (i, l, x)) = inl (i, omega arith, x)
    out d (inr f) = inr (λ i l. last i (eq-or-lt_of_le (le_of_suc-le-suc l)))
      where
        last : (i : ℕ) → (i ≡ m) ⊎ (i < m) → ¬ In (at i) n q
        last i (inl e) = subst (λ (k : ℕ). ¬ In (at k) n q) (sym e) d
        last i (inr l) = f i l

    go : (at m ≤ q) ⊎ (q < at m) → (at m + n ≤ q) ⊎ (q < at m + n) → ((i : ℕ) × (i < m) × In (at i) n q) ⊎ ((i : ℕ) → i < m → ¬ In (at i) n q)
        → ((i : ℕ) × (i < suc m) × In (at i) n q) ⊎ ((i : ℕ) → i < suc m → ¬ In (at i) n q)
    go (inr l) _ o = out (λ x. omega (arith, x, l)) o
    go (inl l) (inl g) o = out (λ x. omega (arith, x, g)) o
    go (inl l) (inr g) o = inl (m, omega arith, (l, g))

pub tile-ext : (at : ℕ → ℕ) (m n w : ℕ) (xs ys : List ℕ) → length xs ≡ length ys
    → ((i j b : ℕ) → i < m → j < n → b < w → get_or xs (at i + j * w + b) 0 ≡ get_or ys (at i + j * w + b) 0)
    → ((q : ℕ) → ((i : ℕ) → i < m → ¬ In (at i) (n * w) q) → get_or xs q 0 ≡ get_or ys q 0) → xs ≡ ys
tile-ext at m n w xs ys el inside outside = ext_get_or 0 xs ys el (λ q l. by q (in_row at m (n * w) q))
  where
    by : (q : ℕ) → ((i : ℕ) × (i < m) × In (at i) (n * w) q) ⊎ ((i : ℕ) → i < m → ¬ In (at i) (n * w) q) → get_or xs q 0 ≡ get_or ys q 0
    by q (inr f) = outside q f
    by q (inl (i, l, x)) =
        let 0<w : zero < w = some w x in
        let r : ℕ = q - at i in
        let e : r / w * w + r % w ≡ r = div-add-mod' r w in
        let j<n : r / w < n = (div-lt_iff_lt-mul {k = w} {x = r} {y = n} 0<w).1 (omega (arith, x)) in
        let z : at i + r / w * w + r % w ≡ q = omega (arith, e, x) in
        subst (λ (p : ℕ). get_or xs p 0 ≡ get_or ys p 0) z (inside i (r / w) (r % w) l j<n (mod-lt r 0<w))
      where
        some : (w : ℕ) → In (at i) (n * w) q → zero < w
        some zero x = absurd (omega (arith, x))
        some (suc w) x = omega arith

-- ---- tiles at equal distances

module _ (c cpitch : ℕ) where
  abbrev at : ℕ → ℕ
  at i = c + i * cpitch

  -- a tile written over itself
  tile-over : (m n w : ℕ) (v v' : ℕ → ℕ → ℕ) (s : List ℕ) → n * w ≤ cpitch → ((i : ℕ) → i < m → at i + n * w ≤ length s)
      → put_tile at m n w v' (put_tile at m n w v s) ≡ put_tile at m n w v' s
  tile-over m n w v v' s wide room =
      let r : List ℕ = put_tile at m n w v s in
      let el : length r ≡ length s = length-put_tile at m n w v s in
      tile-ext at m n w (put_tile at m n w v' r) (put_tile at m n w v' s) (length-put_tile at m n w v' r ∙ el ∙ sym (length-put_tile at m n w v' s))
      (λ i j b li lj lb.
      let later : (k : ℕ) → k < m → i < k → ¬ In (at k) (n * w) (at i + j * w + b) = λ k lk g. pitched c cpitch (n * w) wide i k g (at i + j * w + b) (omega (arith, mul-le-mul_right w lj)) in
      put_tile-at at m n w v' r i li (omega (arith, room i li, el)) j lj b lb later ∙ sym (put_tile-at at m n w v' s i li (room i li) j lj b lb later))
      (λ q f. put_tile-out at m n w v' r q f ∙ put_tile-out at m n w v s q f ∙ sym (put_tile-out at m n w v' s q f))

  -- its first columns, then those behind them
  tile-join : (m n o w : ℕ) (v : ℕ → ℕ → ℕ) (s : List ℕ) → (n + o) * w ≤ cpitch → ((i : ℕ) → i < m → at i + (n + o) * w ≤ length s)
      → put_tile (λ i. c + n * w + i * cpitch) m o w (λ i j. v i (n + j)) (put_tile at m n w v s) ≡ put_tile at m (n + o) w v s
  tile-join m n o w v s wide room =
      tile-ext at m (n + o) w left right (length-put_tile at' m o w v' r ∙ el ∙ sym (length-put_tile at m (n + o) w v s))
      (λ i j b li lj lb. inside i j b li lj lb (le-or-lt n j))
      (λ q f. put_tile-out at' m o w v' r q (λ i li x. f i li (omega (arith, x))) ∙ put_tile-out at m n w v s q (λ i li x. f i li (omega (arith, x))) ∙ sym (put_tile-out at m (n + o) w v s q f))
    where
      at' : ℕ → ℕ
      at' i = c + n * w + i * cpitch

      v' : ℕ → ℕ → ℕ
      v' i j = v i (n + j)

      r : List ℕ
      r = put_tile at m n w v s

      left : List ℕ
      left = put_tile at' m o w v' r

      right : List ℕ
      right = put_tile at m (n + o) w v s

      el : length r ≡ length s
      el = length-put_tile at m n w v s

      -- a byte of a row is in no other
      alone : (i k q : ℕ) → In (at i) ((n + o) * w) q → In (at k) ((n + o) * w) q → i ≡ k
      alone i k q x y = go (le-or-lt i k) (le-or-lt k i)
        where
          go : (i ≤ k) ⊎ (k < i) → (k ≤ i) ⊎ (i < k) → i ≡ k
          go (inl l) (inl g) = omega arith
          go (inl l) (inr g) = absurd (pitched c cpitch ((n + o) * w) wide i k g q x y)
          go (inr l) _ = absurd (pitched c cpitch ((n + o) * w) wide k i l q y x)

      inside : (i j b : ℕ) → i < m → j < n + o → b < w → (n ≤ j) ⊎ (j < n) → get_or left (at i + j * w + b) 0 ≡ get_or right (at i + j * w + b) 0
      inside i j b li lj lb h = before h ∙ sym (put_tile-at at m (n + o) w v s i li (room i li) j lj b lb later)
        where
          q : ℕ
          q = at i + j * w + b

          here : In (at i) ((n + o) * w) q
          here = omega (arith, mul-le-mul_right w lj)

          later : (k : ℕ) → k < m → i < k → ¬ In (at k) ((n + o) * w) q
          later k lk g = pitched c cpitch ((n + o) * w) wide i k g q here

          before : (n ≤ j) ⊎ (j < n) → get_or left q 0 ≡ byte_of (v i j) b
          before (inr l) =
              put_tile-out at' m o w v' r q (λ k lk x.
              let e : i ≡ k = alone i k q here (omega (arith, x)) in
              omega (arith, x, mul-le-mul_right w l, ap (λ (t : ℕ). t * cpitch) e))
              ∙ put_tile-at at m n w v s i li (omega (arith, room i li)) j l b lb (λ k lk g x. later k lk g (omega (arith, x)))
          before (inl l) =
              let t : ℕ = j - n in
              let et : n + t ≡ j = omega arith in
              let e : at' i + t * w + b ≡ q = omega (arith, ap (λ (u : ℕ). u * w) et) in
              subst (λ (p : ℕ). get_or left p 0 ≡ byte_of (v i j) b) e
              (put_tile-at at' m o w v' r i li (omega (arith, room i li, el)) t (omega arith) b lb
              (λ k lk g x. later k lk g (omega (arith, x, e))) ∙ ap (λ (u : ℕ). byte_of (v i u) b) et)

-- ---- products

-- from the old value and the elements of A and B, by the number of terms
abbrev Rule : Type 0
Rule = ℕ → ℕ → (ℕ → ℕ) → (ℕ → ℕ) → ℕ

abbrev rule_row : Rule → List ℕ → (cw w pitch k a b c j : ℕ) → ℕ
rule_row rule s cw w pitch k a b c j = rule k (get_le s (c + j * cw) cw) (λ l. get_le s (a + l * w) w) (λ l. get_le s (b + l * pitch + j * w) w)

-- it reads the first k of them, fits cw bytes, and goes on from a value of its own
pub record Joins (cw : ℕ) (rule : Rule) : Type 0 where
  pub reads : (k old : ℕ) (x y u v : ℕ → ℕ) → ((l : ℕ) → l < k → x l ≡ u l) → ((l : ℕ) → l < k → y l ≡ v l) → rule k old x y ≡ rule k old u v
  pub small : (k old : ℕ) (x y : ℕ → ℕ) → rule k old x y % 256 ^ cw ≡ rule k old x y
  pub more : (k o old : ℕ) (x y : ℕ → ℕ) → rule o (rule k old x y) (λ l. x (k + l)) (λ l. y (k + l)) ≡ rule (k + o) old x y

-- A and B before C, whose rows lie in s
module _ (rule : Rule) (cw w pitch cpitch n a b c m : ℕ) (s : List ℕ) (joins : Joins cw rule) (narrow : n * w ≤ pitch) (wide : n * cw ≤ cpitch)
    (room : c + m * cpitch + n * cw ≤ length s + cpitch) where
  abbrev row_at : ℕ → ℕ
  row_at i = c + i * cpitch

  abbrev pub ruled : ℕ → ℕ → ℕ → ℕ
  ruled k i = rule_row rule s cw w pitch k (a + i * pitch) b (row_at i)

  rooms : (i : ℕ) → i < m → row_at i + n * cw ≤ length s
  rooms i l = omega (arith, room, mul-le-mul_right cpitch l)

  -- the product of k terms, then of o more
  pub term-turn : (k o from row : ℕ) (r out : List ℕ) → a + m * pitch + (k + o) * w ≤ c + pitch → b + (k + o) * pitch ≤ c
      → from ≡ a + k * w → row ≡ b + k * pitch → r ≡ put_tile row_at m n cw (ruled k) s
      → out ≡ put_tile row_at m n cw (λ i. rule_row rule r cw w pitch o (from + i * pitch) row (row_at i)) r
      → out ≡ put_tile row_at m n cw (ruled (k + o)) s
  term-turn k o from row r out apart-a apart-b ef eb er eo =
      eo ∙ put_tile-low cw row_at m n (λ i. rule_row rule r cw w pitch o (from + i * pitch) row (row_at i)) (ruled (k + o)) r
      (λ i j li lj. ap (λ (x : ℕ). x % 256 ^ cw) (same i j li lj))
      ∙ ap (put_tile row_at m n cw (ruled (k + o))) er ∙ tile-over c cpitch m n cw (ruled k) (ruled (k + o)) s wide rooms
    where
      kept : (p v : ℕ) → p + v ≤ c → get_le r p v ≡ get_le s p v
      kept p v h = ap (λ (l : List ℕ). get_le l p v) er ∙ put_tile-keeps row_at m n cw (ruled k) s p v (λ i li q x y. omega (arith, x, y))

      old : (i j : ℕ) → i < m → j < n → get_le r (row_at i + j * cw) cw ≡ ruled k i j
      old i j li lj =
          ap (λ (l : List ℕ). get_le l (row_at i + j * cw) cw) er
          ∙ put_tile-le row_at m n cw (ruled k) s i li (rooms i li) j lj (λ h lh g q x. pitched c cpitch (n * cw) wide i h g q x)
          ∙ joins.small k (get_le s (row_at i + j * cw) cw) (λ l. get_le s (a + i * pitch + l * w) w) (λ l. get_le s (b + l * pitch + j * w) w)

      of-a : (i : ℕ) → i < m → (l : ℕ) → l < o → get_le r (from + i * pitch + l * w) w ≡ get_le s (a + i * pitch + (k + l) * w) w
      of-a i li l ll =
          kept (from + i * pitch + l * w) w (omega (arith, ef, mul-le-mul_right w ll, mul-le-mul_right pitch li))
          ∙ ap (λ (p : ℕ). get_le s p w) (omega (arith, ef))

      of-b : (j : ℕ) → j < n → (l : ℕ) → l < o → get_le r (row + l * pitch + j * w) w ≡ get_le s (b + (k + l) * pitch + j * w) w
      of-b j lj l ll =
          kept (row + l * pitch + j * w) w (omega (arith, eb, mul-le-mul_right w lj, mul-le-mul_right pitch ll))
          ∙ ap (λ (p : ℕ). get_le s p w) (omega (arith, eb))

      same : (i j : ℕ) → i < m → j < n → rule_row rule r cw w pitch o (from + i * pitch) row (row_at i) j ≡ ruled (k + o) i j
      same i j li lj =
          ap (λ (v : ℕ). rule o v (λ l. get_le r (from + i * pitch + l * w) w) (λ l. get_le r (row + l * pitch + j * w) w)) (old i j li lj)
          ∙ joins.reads o (ruled k i j) (λ l. get_le r (from + i * pitch + l * w) w) (λ l. get_le r (row + l * pitch + j * w) w)
          (λ l. get_le s (a + i * pitch + (k + l) * w) w) (λ l. get_le s (b + (k + l) * pitch + j * w) w) (of-a i li) (of-b j lj)
          ∙ joins.more k o (get_le s (row_at i + j * cw) cw) (λ l. get_le s (a + i * pitch + l * w) w) (λ l. get_le s (b + l * pitch + j * w) w)

  -- what holds before a block of terms: none was taken, or the product has the first k
  abbrev pub Part : ℕ → List ℕ → Type 0
  Part k r = ((k ≡ 0) × (r ≡ s)) ⊎ (r ≡ put_tile row_at m n cw (ruled k) s)

  pub term-next : (k o from row : ℕ) (r out : List ℕ) → a + m * pitch + (k + o) * w ≤ c + pitch → b + (k + o) * pitch ≤ c
      → from ≡ a + k * w → row ≡ b + k * pitch → Part k r
      → out ≡ put_tile row_at m n cw (λ i. rule_row rule r cw w pitch o (from + i * pitch) row (row_at i)) r
      → out ≡ put_tile row_at m n cw (ruled (k + o)) s
  term-next k o from row r out apart-a apart-b ef eb (inr er) eo = term-turn k o from row r out apart-a apart-b ef eb er eo
  term-next k o from row r out apart-a apart-b ef eb (inl (ek, er)) eo =
      eo ∙ ap (λ (l : List ℕ). put_tile row_at m n cw (λ i. rule_row rule l cw w pitch o (from + i * pitch) row (row_at i)) l) er
      ∙ ap₂ (λ (p q : ℕ). put_tile row_at m n cw (λ i. rule_row rule s cw w pitch o (p + i * pitch) q (row_at i)) s) (ef ∙ omega (arith, ap (λ (x : ℕ). x * w) ek)) (eb ∙ omega (arith, ap (λ (x : ℕ). x * pitch) ek))
      ∙ ap (λ (t : ℕ). put_tile row_at m n cw (ruled t) s) (omega (arith, ek))

-- the first n columns, then o more
module _ (rule : Rule) (cw w pitch cpitch k a b c m : ℕ) (s : List ℕ) (joins : Joins cw rule) where
  abbrev pub column_ruled : ℕ → ℕ → ℕ
  column_ruled i = rule_row rule s cw w pitch k (a + i * pitch) b (c + i * cpitch)

  pub column-turn : (n o from to : ℕ) (r out : List ℕ) → (n + o) * w ≤ pitch → (n + o) * cw ≤ cpitch → c + m * cpitch + (n + o) * cw ≤ length s + cpitch
      → a + m * pitch + k * w ≤ c + pitch → b + k * pitch ≤ c → from ≡ b + n * w → to ≡ c + n * cw
      → r ≡ put_tile (λ i. c + i * cpitch) m n cw column_ruled s
      → out ≡ put_tile (λ i. to + i * cpitch) m o cw (λ i. rule_row rule r cw w pitch k (a + i * pitch) from (to + i * cpitch)) r
      → out ≡ put_tile (λ i. c + i * cpitch) m (n + o) cw column_ruled s
  column-turn n o from to r out narrow wide room apart-a apart-b ef et er eo =
      eo ∙ put_tile-rows (λ i. to + i * cpitch) (λ i. c + n * cw + i * cpitch) m o cw (λ i. rule_row rule r cw w pitch k (a + i * pitch) from (to + i * cpitch)) r (λ i li. omega (arith, et))
      ∙ put_tile-low cw (λ i. c + n * cw + i * cpitch) m o (λ i. rule_row rule r cw w pitch k (a + i * pitch) from (to + i * cpitch)) (λ i j. column_ruled i (n + j)) r
      (λ i j li lj. ap (λ (x : ℕ). x % 256 ^ cw) (same i j li lj))
      ∙ ap (put_tile (λ i. c + n * cw + i * cpitch) m o cw (λ i j. column_ruled i (n + j))) er
      ∙ tile-join c cpitch m n o cw column_ruled s wide (λ i li. omega (arith, room, wide, mul-le-mul_right cpitch li))
    where
      kept : (p v : ℕ) → p + v ≤ c → get_le r p v ≡ get_le s p v
      kept p v h = ap (λ (l : List ℕ). get_le l p v) er ∙ put_tile-keeps (λ i. c + i * cpitch) m n cw column_ruled s p v (λ i li q x y. omega (arith, x, y))

      old : (i j : ℕ) → i < m → j < o → get_le r (to + i * cpitch + j * cw) cw ≡ get_le s (c + i * cpitch + (n + j) * cw) cw
      old i j li lj =
          ap (λ (l : List ℕ). get_le l (to + i * cpitch + j * cw) cw) er
          ∙ put_tile-keeps (λ i. c + i * cpitch) m n cw column_ruled s (to + i * cpitch + j * cw) cw (λ h lh q x y. apart h q x y (le-or-lt h i) (le-or-lt i h))
          ∙ ap (λ (p : ℕ). get_le s p cw) (omega (arith, et))
        where
          apart : (h q : ℕ) → In (to + i * cpitch + j * cw) cw q → In (c + h * cpitch) (n * cw) q → (h ≤ i) ⊎ (i < h) → (i ≤ h) ⊎ (h < i) → ⊥
          apart h q x y (inl l) (inl g) = let e : h ≡ i = omega arith in omega (arith, et, x, y, ap (λ (t : ℕ). t * cpitch) e)
          apart h q x y (inr l) _ = omega (arith, et, x, y, mul-le-mul_right cpitch l, mul-le-mul_right cw lj)
          apart h q x y (inl l) (inr g) = omega (arith, et, x, y, mul-le-mul_right cpitch g)

      same : (i j : ℕ) → i < m → j < o → rule_row rule r cw w pitch k (a + i * pitch) from (to + i * cpitch) j ≡ column_ruled i (n + j)
      same i j li lj =
          ap (λ (v : ℕ). rule k v (λ l. get_le r (a + i * pitch + l * w) w) (λ l. get_le r (from + l * pitch + j * w) w)) (old i j li lj)
          ∙ joins.reads k (get_le s (c + i * cpitch + (n + j) * cw) cw) (λ l. get_le r (a + i * pitch + l * w) w) (λ l. get_le r (from + l * pitch + j * w) w)
          (λ l. get_le s (a + i * pitch + l * w) w) (λ l. get_le s (b + l * pitch + (n + j) * w) w)
          (λ l ll. kept (a + i * pitch + l * w) w (omega (arith, apart-a, mul-le-mul_right w ll, mul-le-mul_right pitch li)))
          (λ l ll. kept (from + l * pitch + j * w) w (omega (arith, ef, mul-le-mul_right w lj, mul-le-mul_right pitch ll))
          ∙ ap (λ (p : ℕ). get_le s p w) (omega (arith, ef)))

-- ---- parts of a product lie where it does

pub terms-lie : (p : Product) (w cw len l k : ℕ) → LiesIn p w cw len → l + k ≤ p.k → LiesIn (terms_from p l k w) w cw len
terms-lie p w cw len l k h e =
    let x : (l + k) * w ≤ p.k * w = mul-le-mul_right w e in
    let y : (l + k) * p.pitch ≤ p.k * p.pitch = mul-le-mul_right p.pitch e in
    record {
      pitch-bound = h.pitch-bound;
      terms-bound = omega arith;
      columns-bound = h.columns-bound;
      a-row = omega arith;
      b-row = h.b-row;
      c-row = h.c-row;
      a-before = omega arith;
      b-before = omega arith;
      c-inside = h.c-inside;
      c-ends = h.c-ends;
    }

pub columns-lie : (p : Product) (w cw len j n : ℕ) → LiesIn p w cw len → w ≤ cw → zero < p.m → j + n ≤ p.n → LiesIn (columns_from p j n w cw) w cw len
columns-lie p w cw len j n h wider 0<m e =
    let x : (j + n) * w ≤ p.n * w = mul-le-mul_right w e in
    let y : (j + n) * cw ≤ p.n * cw = mul-le-mul_right cw e in
    let z : j * w ≤ j * cw = mul-le-mul_left j wider in
    let g : 1 * (4 * p.pitch) ≤ p.m * (4 * p.pitch) = mul-le-mul_right (4 * p.pitch) 0<m in
    record {
      pitch-bound = h.pitch-bound;
      terms-bound = h.terms-bound;
      columns-bound = omega arith;
      a-row = h.a-row;
      b-row = omega arith;
      c-row = omega arith;
      a-before = omega arith;
      b-before = omega arith;
      c-inside = omega arith;
      c-ends = omega arith;
    }

pub rows-lie : (p : Product) (w cw len i m : ℕ) → LiesIn p w cw len → zero < m → i + m ≤ p.m → LiesIn (rows_from p i m) w cw len
rows-lie p w cw len i m h 0<m e =
    let x : (i + m) * p.pitch ≤ p.m * p.pitch = mul-le-mul_right p.pitch e in
    let y : (i + m) * (4 * p.pitch) ≤ p.m * (4 * p.pitch) = mul-le-mul_right (4 * p.pitch) e in
    let z : 1 * (4 * p.pitch) ≤ m * (4 * p.pitch) = mul-le-mul_right (4 * p.pitch) 0<m in
    record {
      pitch-bound = h.pitch-bound;
      terms-bound = h.terms-bound;
      columns-bound = h.columns-bound;
      a-row = h.a-row;
      b-row = h.b-row;
      c-row = h.c-row;
      a-before = omega arith;
      b-before = omega arith;
      c-inside = omega arith;
      c-ends = omega arith;
    }

-- ---- a product in parts, by a rule

abbrev pub first_terms : Product → ℕ → Product
first_terms p k = record { a = p.a; b = p.b; c = p.c; pitch = p.pitch; m = p.m; k = k; n = p.n }

abbrev pub first_columns : Product → ℕ → Product
first_columns p n = record { a = p.a; b = p.b; c = p.c; pitch = p.pitch; m = p.m; k = p.k; n = n }

-- what the product of elements of w bytes leaves, those of C of cw bytes
abbrev pub ruled_added : Rule → Product → (w cw : ℕ) → List ℕ → List ℕ
ruled_added rule p w cw s =
    put_tile (λ i. p.c + i * (4 * p.pitch)) p.m p.n cw (λ i. rule_row rule s cw w p.pitch p.k (p.a + i * p.pitch) p.b (p.c + i * (4 * p.pitch))) s

module _ (rule : Rule) (w cw : ℕ) (joins : Joins cw rule) (p : Product) (s r out : List ℕ) (q : Product) (lies : LiesIn p w cw (length s)) where
  -- k more of the terms, after l of them or none
  pub terms-added : (l k t : ℕ) → l + k ≡ t → t ≤ p.k → ((l ≡ 0) × (r ≡ s)) ⊎ (r ≡ ruled_added rule (first_terms p l) w cw s)
      → q ≡ terms_from p l k w → out ≡ ruled_added rule q w cw r → out ≡ ruled_added rule (first_terms p t) w cw s
  terms-added l k t et ht er eq eo =
      let h : l + k ≤ p.k = omega arith in
      let x : (l + k) * w ≤ p.k * w = mul-le-mul_right w h in
      let y : (l + k) * p.pitch ≤ p.k * p.pitch = mul-le-mul_right p.pitch h in
      term-next rule cw w p.pitch (4 * p.pitch) p.n p.a p.b p.c p.m s joins lies.b-row lies.c-row lies.c-ends l k (p.a + l * w) (p.b + l * p.pitch) r out
      (omega (arith, lies.a-before)) (omega (arith, lies.b-before)) refl refl er (eo ∙ ap (λ (q : Product). ruled_added rule q w cw r) eq)
      ∙ ap (λ (t : ℕ). ruled_added rule (first_terms p t) w cw s) et

  -- n more of the columns, after j of them
  pub columns-added : (j n t : ℕ) → j + n ≡ t → t ≤ p.n → r ≡ ruled_added rule (first_columns p j) w cw s
      → q ≡ columns_from p j n w cw → out ≡ ruled_added rule q w cw r → out ≡ ruled_added rule (first_columns p t) w cw s
  columns-added j n t et ht er eq eo =
      let h : j + n ≤ p.n = omega arith in
      let x : (j + n) * w ≤ p.n * w = mul-le-mul_right w h in
      let y : (j + n) * cw ≤ p.n * cw = mul-le-mul_right cw h in
      column-turn rule cw w p.pitch (4 * p.pitch) p.k p.a p.b p.c p.m s joins j n (p.b + j * w) (p.c + j * cw) r out
      (omega (arith, lies.b-row)) (omega (arith, lies.c-row)) (omega (arith, lies.c-ends)) lies.a-before lies.b-before refl refl er
      (eo ∙ ap (λ (q : Product). ruled_added rule q w cw r) eq)
      ∙ ap (λ (t : ℕ). ruled_added rule (first_columns p t) w cw s) et

-- no column, and no row
module _ (rule : Rule) (w cw : ℕ) (p : Product) (s : List ℕ) where
  pub columns-none : s ≡ ruled_added rule (first_columns p 0) w cw s
  columns-none =
      put_tile-none (λ i. p.c + i * (4 * p.pitch)) p.m 0 cw (λ i. rule_row rule s cw w p.pitch p.k (p.a + i * p.pitch) p.b (p.c + i * (4 * p.pitch))) s (zero-mul cw)

  pub rows-none : p.m ≡ 0 → s ≡ ruled_added rule p w cw s
  unfolding put_tile
  rows-none e =
      ap (λ (m : ℕ). put_tile (λ i. p.c + i * (4 * p.pitch)) m p.n cw (λ i. rule_row rule s cw w p.pitch p.k (p.a + i * p.pitch) p.b (p.c + i * (4 * p.pitch))) s) (sym e)

-- products of signed numbers
pub product-joins : (cw w : ℕ) → Joins cw (product cw w)
product-joins cw w = record {
  reads = λ k old x y u v hx hy. ap (λ (z : ℤ). reduce (256 ^ cw) (signed (256 ^ cw) old +ℤ z))
      (sumℤ-cong k (λ l. signed (256 ^ w) (x l) *ℤ signed (256 ^ w) (y l)) (λ l. signed (256 ^ w) (u l) *ℤ signed (256 ^ w) (v l))
      (λ l ll. ap₂ (λ (p q : ℕ). signed (256 ^ w) p *ℤ signed (256 ^ w) q) (hx l ll) (hy l ll)));
  small = λ k old x y. mod-eq_of_lt (reduce-lt (256 ^ cw) (pow-256 cw) (signed (256 ^ cw) old +ℤ sumℤ k (λ l. signed (256 ^ w) (x l) *ℤ signed (256 ^ w) (y l))));
  more = λ k o old x y.
      let f : ℕ → ℤ = λ l. signed (256 ^ w) (x l) *ℤ signed (256 ^ w) (y l) in
      accumulate (256 ^ cw) (pow-256 cw) (signed (256 ^ cw) old +ℤ sumℤ k f) (sumℤ o (λ l. f (k + l)))
      ∙ ap (reduce (256 ^ cw)) (+ℤ_assoc (signed (256 ^ cw) old) (sumℤ k f) (sumℤ o (λ l. f (k + l))) ∙ ap (λ (z : ℤ). signed (256 ^ cw) old +ℤ z) (sym (sumℤ-add k o f)));
}
