-- The layout of `product`: a start is accepted, the elements of A and B are the numbers that were written, and where C's elements lie.
use Rattle.numbers.proofs.Kit.{◌≡◌, refl, sym, ap, ap₂, ◌∙◌, subst, inl, inr, Bool, true, not, ◌||◌, List, [], ◌∷◌, ℕ, suc, ◌+◌, ◌*◌, ◌-◌, ◌/◌, ◌%◌, ◌^◌}
use Rattle.numbers.proofs.Kit.{◌≤◌, ◌<◌, mul-le-mul_left, mul-le-mul_right, mod-eq_of_lt, add-mul-mod_self_right, mod-mod, arith, leb, length, ℤ, pos}
use Rattle.numbers.proofs.Kit.{negsuc, ◌+ℤ◌, ◌*ℤ◌, le-leb, le-ltb, lt-ltb}
use Rattle.numbers.specs.Reduce.{signed, reduce, sumℤ}
use Rattle.numbers.specs.Tile.{get_le, put_le, put_row, In}
use Rattle.numbers.proofs.ReduceLaws.{sumℤ-cong}
use Rattle.numbers.proofs.TileLaws.{le-cong, length-put_row, put_row-out, pitched}
use Rattle.numbers.proofs.PutLaws.{put_le-low}
use Rattle.numbers.proofs.WordLaws.{le-put_row}
use Rattle.machine.specs.declared.Reply.{Reply}
use Rattle.machine.specs.Tests.{is_in, every}
use Rattle.machine.specs.Geometry.{Range, Parameters, Bench}
use Rattle.machine.specs.Memory.{row_z, row_at, address}
use Rattle.machine.specs.Faults.{sound_bench}
use Rattle.machine.specs.Operation.{element}
use Rattle.machine.proofs.TestLaws.{false-true, every-each, each-every, each, each_in, or-not}
use Rattle.machine.proofs.MemoryLaws.{row_z-up}
use Rattle.unit_element.specs.Element.{Short}
use Rattle.unit_element.proofs.Laws.{short-small}
use Rattle.run.specs.Plan.{narrow, wide, a_at, b_at, c_at, total, product_of}
use Rattle.run.specs.Start.{format, kind_fit, planned}
use Rattle.run.specs.Statement.{Lies, Inside, Separate, Answered}
use Rattle.run.proofs.StartLaws.{one_of, numbers-are}
use Rattle.product_memory.specs.Memory.{plan_for, filled}

-- ---- the widths of a format

abbrev right : ℕ → ℕ → List Bool
right s f = is_in (s / 8) (1 ∷ 2 ∷ 4 ∷ []) ∷ is_in (f * (s / 8)) (1 ∷ 2 ∷ 4 ∷ []) ∷ []

rights : each (8 ∷ 16 ∷ 32 ∷ 64 ∷ []) (λ s. each (1 ∷ 2 ∷ 4 ∷ []) (λ f. not (leb (f * s) 32) || every (right s f))) ≡ true
rights = refl

-- elements of A and B, and of C, have 1, 2 or 4 bytes
pub widths : (sew f : ℕ) → format 32 sew f ≡ true → Short (sew / 8) × Short (f * (sew / 8))
unfolding format
widths s f h =
    let t = every-each (is_in s (8 ∷ 16 ∷ 32 ∷ 64 ∷ []) ∷ is_in f (1 ∷ 2 ∷ 4 ∷ []) ∷ leb (f * s) 32 ∷ []) h in
    let r = every-each (right s f) (or-not (not (leb (f * s) 32)) (every (right s f))
    (each_in f (1 ∷ 2 ∷ 4 ∷ []) (λ f. not (leb (f * s) 32) || every (right s f))
    (each_in s (8 ∷ 16 ∷ 32 ∷ 64 ∷ []) (λ s. each (1 ∷ 2 ∷ 4 ∷ []) (λ f. not (leb (f * s) 32) || every (right s f))) rights t.0) t.1.0)
    (ap not t.1.1.0)) in
    (one_of (s / 8) 1 2 4 r.0, one_of (f * (s / 8)) 1 2 4 r.1.0)

-- a row of at most 16 elements has at most 64 bytes
pub row_small : (n w : ℕ) → n ≤ 16 → Short w → n * w ≤ 64
row_small n w h g = let l : w ≤ 4 = short-small w g in omega (arith, mul-le-mul_left n l)

-- and a matrix of at most 16 such rows at most 1024
pub matrix-small : (rows cols w : ℕ) → rows ≤ 16 → cols ≤ 16 → Short w → rows * cols * w ≤ 1024
matrix-small rows cols w h g x = let l = row_small cols w g x in omega (arith, mul-le-mul_left rows l)

-- ---- rows one after another, each of s bytes

module _ (base s : ℕ) (small : s ≤ 64) where
  row_up : (i : ℕ) → row_z base s i ≡ pos (base + i * s)
  row_up i = row_z-up base s i (omega arith)

  pub row-at : (i : ℕ) → row_at base s i ≡ base + i * s
  row-at i = ap address (row_up i)

  -- at most 16 rows end by 1024 bytes
  lies : (len i b : ℕ) → base + 1024 ≤ len → i < 16 → b < s → Lies len (row_z base s i +ℤ pos b)
  lies len i b h l m = (base + i * s + b, ap (λ (z : ℤ). z +ℤ pos b) (row_up i), omega (arith, mul-le-mul_right s l))

  -- a byte of a row is one of the 1024
  row_in : (i q : ℕ) → i < 16 → In (row_at base s i) s q → In base 1024 q
  row_in i q l x = rows (rw (row-at i) at x)
    where
      rows : In (base + i * s) s q → In base 1024 q
      rows x = (omega arith, omega (arith, mul-le-mul_right s l))

  -- no byte is in two rows
  rows_apart : (i j q : ℕ) → i < j → In (row_at base s i) s q → ¬ In (row_at base s j) s q
  rows_apart i j q l = rw (row-at i, row-at j) (pitched base s s (omega arith) i j l q)

-- ---- elements written and read by rows

-- element (i, j) of rows of cols elements, one after another
pub place : (mem : List ℕ) (base cols w i j : ℕ) → cols * w ≤ 64 → element mem (row_at base (cols * w)) w i j ≡ get_le mem (base + (i * cols + j) * w) w
place mem base cols w i j small =
    let e : base + i * (cols * w) + j * w ≡ base + (i * cols + j) * w = omega arith in
    ap (λ (p : ℕ). get_le mem (p + j * w) w) (row-at base (cols * w) small i) ∙ ap (λ (p : ℕ). get_le mem p w) e

-- element (i, j) of a matrix is one of its elements
pub element-in : (rows cols i j : ℕ) → i < rows → j < cols → i * cols + j < rows * cols
element-in rows cols i j l g = omega (arith, mul-le-mul_right cols l)

-- a number that ends before a row that is written stays
row_keeps : (p cols w : ℕ) (value : ℕ → ℕ) (xs : List ℕ) (q v : ℕ) → q + v ≤ p → get_le (put_row p cols w value xs) q v ≡ get_le xs q v
row_keeps p cols w value xs q v h = le-cong (put_row p cols w value xs) xs q q v (λ b l. put_row-out p cols w value xs (q + b) (λ x. omega arith))

-- ---- the plan of a format and sizes up to 16

module _ (sew f m k n : ℕ) (formatted : format 32 sew f ≡ true) (m≤ : m ≤ 16) (k≤ : k ≤ 16) (n≤ : n ≤ 16) where
  a-row : k * (sew / 8) ≤ 64
  a-row = row_small k (sew / 8) k≤ (widths sew f formatted).0

  b-row : n * (sew / 8) ≤ 64
  b-row = row_small n (sew / 8) n≤ (widths sew f formatted).0

  c-row : n * (f * (sew / 8)) ≤ 64
  c-row = row_small n (f * (sew / 8)) n≤ (widths sew f formatted).1

  numbers : planned 32 (plan_for sew f m k n) ≡ true
  unfolding kind_fit planned
  numbers = each-every (format 32 sew f ∷ leb m 1024 ∷ leb k 1024 ∷ leb n 1024 ∷ leb 0 1 ∷ [])
      (formatted, (le-leb m 1024 (omega arith), (le-leb k 1024 (omega arith), (le-leb n 1024 (omega arith), (refl, tt)))))

  insides : (mem : List ℕ) → length mem ≡ 3072 → Inside (plan_for sew f m k n) mem
  unfolding narrow
  insides mem e = record {
    a-lies = λ i b l. lies 0 (k * (sew / 8)) a-row (length mem) i b (omega arith) (omega arith);
    b-lies = λ i b l. lies 1024 (n * (sew / 8)) b-row (length mem) i b (omega arith) (omega arith);
    c-lies = λ i b l. lies 2048 (n * (f * (sew / 8))) c-row (length mem) i b (omega arith) (omega arith);
  }

  separates : Separate [] (plan_for sew f m k n)
  unfolding narrow
  separates = record {
    rows = λ i j q l g. rows_apart 2048 (n * (f * (sew / 8))) c-row i j q l;
    from-a = λ i j q l g x y. omega (arith, row_in 0 (k * (sew / 8)) a-row i q (omega arith) x, row_in 2048 (n * (f * (sew / 8))) c-row j q (omega arith) y);
    from-b = λ i j q l g x y. omega (arith, row_in 1024 (n * (sew / 8)) b-row i q (omega arith) x, row_in 2048 (n * (f * (sew / 8))) c-row j q (omega arith) y);
    from-seal = λ i q l x y. false-true y;
  }

  -- a start is accepted
  pub accepted-here : (B : Bench) → sound_bench B ≡ true → B.machine.elen ≡ 32 → B.seals ≡ [] → length B.memory ≡ 3072
      → (a : Reply) → Answered (plan_for sew f m k n) B a → a.number ≡ 0
  accepted-here B s known none len a h =
      h.gives-0 (numbers-are (plan_for sew f m k n) B s (ap (λ (e : ℕ). planned e (plan_for sew f m k n)) known ∙ numbers)) (insides B.memory len) (subst (λ (rs : List Range). Separate rs (plan_for sew f m k n)) (sym none) separates)

  -- the elements of C lie row after row
  pub c-place : (mem : List ℕ) (i j : ℕ)
      → element mem (c_at (plan_for sew f m k n)) (wide (plan_for sew f m k n)) i j ≡ get_le mem (2048 + (i * n + j) * (f * (sew / 8))) (f * (sew / 8))
  unfolding narrow
  c-place mem i j = place mem 2048 n (f * (sew / 8)) i j c-row

  -- what A's and B's elements are once they are written
  module _ (va vb : ℕ → ℕ) (mem : List ℕ) (len : length mem ≡ 3072) where
    a-element : (i l : ℕ) → i < m → l < k → element (filled (sew / 8) m k n va vb mem) (a_at (plan_for sew f m k n)) (sew / 8) i l ≡ va (i * k + l) % 256 ^ (sew / 8)
    a-element i l i< l< =
        let w : ℕ = sew / 8 in
        let q : i * k + l < m * k = element-in m k i l i< l< in
        let ends = matrix-small m k w m≤ k≤ (widths sew f formatted).0 in
        place (filled w m k n va vb mem) 0 k w i l a-row
        ∙ row_keeps 1024 (k * n) w vb (put_row 0 (m * k) w va mem) (0 + (i * k + l) * w) w (omega (arith, mul-le-mul_right w q))
        ∙ le-put_row 0 (m * k) w va mem (omega arith) (i * k + l) q

    b-element : (l j : ℕ) → l < k → j < n → element (filled (sew / 8) m k n va vb mem) (b_at (plan_for sew f m k n)) (sew / 8) l j ≡ vb (l * n + j) % 256 ^ (sew / 8)
    b-element l j l< j< =
        let w : ℕ = sew / 8 in
        let ends = matrix-small k n w k≤ n≤ (widths sew f formatted).0 in
        place (filled w m k n va vb mem) 1024 n w l j b-row
        ∙ le-put_row 1024 (k * n) w vb (put_row 0 (m * k) w va mem) (omega (arith, length-put_row 0 (m * k) w va mem)) (l * n + j) (element-in k n l j l< j<)

    -- the element (i, j) that C shall have; za and zb are the signed numbers that the values stand for
    pub sum-here : (M : Parameters) (za zb : ℕ → ℤ)
        → ((q : ℕ) → q < m * k → signed (256 ^ (sew / 8)) (va q % 256 ^ (sew / 8)) ≡ za q)
        → ((q : ℕ) → q < k * n → signed (256 ^ (sew / 8)) (vb q % 256 ^ (sew / 8)) ≡ zb q)
        → (i j : ℕ) → i < m → j < n
        → product_of (record { parameters = M; plan = plan_for sew f m k n; memory = filled (sew / 8) m k n va vb mem }) i j
        ≡ reduce (256 ^ (f * (sew / 8))) (sumℤ k (λ l. za (i * k + l) *ℤ zb (l * n + j)))
    unfolding narrow total
    sum-here M za zb ea eb i j i< j< =
        let w : ℕ = sew / 8 in
        ap (reduce (256 ^ (f * w))) (sumℤ-cong k _ (λ l. za (i * k + l) *ℤ zb (l * n + j)) (λ l l<.
        ap₂ ◌*ℤ◌ (ap (signed (256 ^ w)) (a-element i l i< l<) ∙ ea (i * k + l) (element-in m k i l i< l<))
        (ap (signed (256 ^ w)) (b-element l j l< j<) ∙ eb (l * n + j) (element-in k n l j l< j<))))

-- ---- a level of a number that sew bits hold, cut to sew bits, stands for the number

-- at the modulus h + h, of which 2^32 is a multiple
level-at : (h c v : ℕ) → v < h → 0x1_0000_0000 ≡ suc c * (h + h)
    → (signed (h + h) ((0x1_0000_0000 + v) % (h + h)) ≡ pos v) × (signed (h + h) ((0x1_0000_0000 - suc v) % (h + h)) ≡ negsuc v)
level-at h c v l e =
    let m : ℕ = h + h in
    let up : 0x1_0000_0000 + v ≡ v + suc c * m = omega arith in
    let down : 0x1_0000_0000 - suc v ≡ (m - suc v) + c * m = omega arith in
    let r : (0x1_0000_0000 + v) % m ≡ v = ap (λ (x : ℕ). x % m) up ∙ add-mul-mod_self_right v (suc c) m ∙ mod-eq_of_lt {n = v} {m = m} (omega arith) in
    let r' : (0x1_0000_0000 - suc v) % m ≡ m - suc v =
    ap (λ (x : ℕ). x % m) down ∙ add-mul-mod_self_right (m - suc v) c m ∙ mod-eq_of_lt {n = m - suc v} {m = m} (omega arith) in (
      rw (r, lt-ltb (v + v) m (omega arith)),
      rw (r', le-ltb (m - suc v + (m - suc v)) m (omega arith)) (ap negsuc (omega arith)),
    )

-- the levels 2^32 + v of v and 2^32 - (v + 1) of - (v + 1)
abbrev pub Levels : ℕ → Type 0
Levels sew = (v : ℕ) → v < 2 ^ (sew - 1)
    → (signed (256 ^ (sew / 8)) ((0x1_0000_0000 + v) % 256 ^ (sew / 8)) ≡ pos v)
    × (signed (256 ^ (sew / 8)) ((0x1_0000_0000 - suc v) % 256 ^ (sew / 8)) ≡ negsuc v)

pub level-signed : (sew : ℕ) → is_in sew (8 ∷ 16 ∷ 32 ∷ []) ≡ true → Levels sew
level-signed sew h = elim (one_of sew 8 16 32 h) [
  | inl e ↦ subst Levels (sym e) (λ v l. level-at 128 0xff_ffff v l refl)
  | inr (inl e) ↦ subst Levels (sym e) (λ v l. level-at 32768 65535 v l refl)
  | inr (inr e) ↦ subst Levels (sym e) (λ v l. level-at 0x8000_0000 0 v l refl)
]

-- ---- for code

-- a value that was cut to d bytes, stored in d bytes
pub put_low : (p d w v : ℕ) (xs : List ℕ) → w ≡ d → put_le p d (v % 256 ^ d) xs ≡ put_le p w v xs
put_low p d w v xs e = put_le-low d p (v % 256 ^ d) v xs (mod-mod v (256 ^ d)) ∙ ap (λ (w : ℕ). put_le p w v xs) (sym e)
