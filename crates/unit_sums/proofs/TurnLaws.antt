-- Rows of a product written one after another hold the values that every element had at entry, by whatever rule an element of C is
-- made from its old value and the elements of A and B.
use Rattle.numbers.proofs.Kit.{◌≡◌, refl, sym, ap, ap₂, ◌∙◌, List, ℕ, ◌+◌, ◌-◌, ◌*◌, ◌^◌, ◌≤◌, ◌<◌, zero-mul, one-mul, mul-le-mul_right, arith, ℤ, ◌+ℤ◌}
use Rattle.numbers.proofs.Kit.{◌*ℤ◌}
use Rattle.numbers.specs.Reduce.{signed, reduce}
use Rattle.numbers.proofs.ReduceLaws.{sumℤ-cong}
use Rattle.numbers.specs.Tile.{get_le, put_row, put_tile}
use Rattle.numbers.proofs.TileLaws.{pitched}
use Rattle.numbers.specs.Upto.{upto}
use Rattle.numbers.proofs.UptoLaws.{upto-cong}
use Rattle.numbers.proofs.PutLaws.{upto_add}
use Rattle.numbers.proofs.ElementLaws.{put_row-cong, still, tile-turn}
use Rattle.machine.specs.ArithmeticWords.{product}
use Rattle.unit_sums.specs.Rows.{product_row}

-- from the old value and the elements of A and B
abbrev Rule : Type 0
Rule = ℕ → (ℕ → ℕ) → (ℕ → ℕ) → ℕ

-- it reads the first k of them
abbrev Reads : ℕ → Rule → Type 0
Reads k rule = (old : ℕ) (x y u v : ℕ → ℕ) → ((l : ℕ) → l < k → x l ≡ u l) → ((l : ℕ) → l < k → y l ≡ v l) → rule old x y ≡ rule old u v

-- element j of the row of C at c, with the row of A at a and the rows of B from b on
abbrev rule_row : Rule → List ℕ → (cw w pitch a b c j : ℕ) → ℕ
rule_row rule s cw w pitch a b c j = rule (get_le s (c + j * cw) cw) (λ l. get_le s (a + l * w) w) (λ l. get_le s (b + l * pitch + j * w) w)

-- a sum of products of signed numbers does
pub product-reads : (cw w k : ℕ) → Reads k (product cw w k)
product-reads cw w k old x y u v hx hy =
    ap (λ (z : ℤ). reduce (256 ^ cw) (signed (256 ^ cw) old +ℤ z))
    (sumℤ-cong k (λ l. signed (256 ^ w) (x l) *ℤ signed (256 ^ w) (y l)) (λ l. signed (256 ^ w) (u l) *ℤ signed (256 ^ w) (v l))
    (λ l ll. ap₂ (λ (p q : ℕ). signed (256 ^ w) p *ℤ signed (256 ^ w) q) (hx l ll) (hy l ll)))

-- the elements of A and B lie before those of C: A's last row ends before it
module _ (cw w pitch cpitch k n a b c m : ℕ) (s : List ℕ) (narrow : n * w ≤ pitch) (wide : n * cw ≤ cpitch)
    (apart-a : a + m * pitch + k * w ≤ c + pitch) (apart-b : b + k * pitch ≤ c) where
  abbrev at : ℕ → ℕ
  at i = c + i * cpitch

  module _ (value : ℕ → ℕ → ℕ) (i : ℕ) (r : List ℕ) (er : r ≡ put_tile at i n cw value s) where
    -- the elements of a row of A, of B, and of a row of C that is not yet written
    same-a : (h l : ℕ) → h < m → l < k → get_le r (a + h * pitch + l * w) w ≡ get_le s (a + h * pitch + l * w) w
    same-a h l lh ll =
        still at n cw value s r i er (a + h * pitch + l * w) w
        (λ g lg q hq x. omega (arith, hq, x, mul-le-mul_right w ll, mul-le-mul_right pitch lh))

    pub same-b : (l j : ℕ) → l < k → j < n → get_le r (b + l * pitch + j * w) w ≡ get_le s (b + l * pitch + j * w) w
    same-b l j ll lj =
        still at n cw value s r i er (b + l * pitch + j * w) w
        (λ h lh q hq x. omega (arith, hq, x, mul-le-mul_right w lj, mul-le-mul_right pitch ll))

    same-c : (h j : ℕ) → i ≤ h → j < n → get_le r (at h + j * cw) cw ≡ get_le s (at h + j * cw) cw
    same-c h j ih lj =
        still at n cw value s r i er (at h + j * cw) cw
        (λ g lg q hq x. pitched c cpitch (n * cw) wide g h (omega arith) q x (omega (arith, hq, mul-le-mul_right cw lj)))

  module _ (rule : Rule) (reads : Reads k rule) where
    abbrev ruled : ℕ → ℕ → ℕ
    ruled i = rule_row rule s cw w pitch (a + i * pitch) b (at i)

    -- row h, made from what the first i rows have left, is that of the entry
    same_row : (i : ℕ) (r : List ℕ) → r ≡ put_tile at i n cw ruled s → (h : ℕ) → i ≤ h → h < m → (j : ℕ) → j < n
        → rule_row rule r cw w pitch (a + h * pitch) b (at h) j ≡ ruled h j
    same_row i r er h ih lh j lj =
        ap (λ (o : ℕ). rule o (λ l. get_le r (a + h * pitch + l * w) w) (λ l. get_le r (b + l * pitch + j * w) w)) (same-c ruled i r er h j ih lj)
        ∙ reads (get_le s (at h + j * cw) cw) (λ l. get_le r (a + h * pitch + l * w) w) (λ l. get_le r (b + l * pitch + j * w) w)
        (λ l. get_le s (a + h * pitch + l * w) w) (λ l. get_le s (b + l * pitch + j * w) w)
        (λ l ll. same-a ruled i r er h l lh ll) (λ l ll. same-b ruled i r er l j ll lj)

    pub rule-turn : (i : ℕ) (r : List ℕ) → i < m → r ≡ put_tile at i n cw ruled s
        → (from to : ℕ) (out : List ℕ) → from ≡ a + i * pitch → to ≡ at i → out ≡ put_row to n cw (rule_row rule r cw w pitch from b to) r
        → out ≡ put_tile at (i + 1) n cw ruled s
    rule-turn i r li er from to out ef et eo =
        tile-turn at n cw ruled s r i er to (rule_row rule r cw w pitch from b to) out et eo
        (λ j lj. ap₂ (λ (p q : ℕ). rule_row rule r cw w pitch p b q j) ef et ∙ same_row i r er i (omega arith) li j lj)

    -- g rows at once
    pub rule-rows : (i g : ℕ) (r : List ℕ) → i + g ≤ m → r ≡ put_tile at i n cw ruled s → (from to : ℕ) (out : List ℕ) → from ≡ a + i * pitch → to ≡ at i
        → out ≡ put_tile (λ h. to + h * cpitch) g n cw (λ h. rule_row rule r cw w pitch (from + h * pitch) b (to + h * cpitch)) r
        → out ≡ put_tile at (i + g) n cw ruled s
    unfolding put_tile
    rule-rows i g r li er from to out ef et eo =
        eo
        ∙ upto-cong g (λ h ys. put_row (to + h * cpitch) n cw (rule_row rule r cw w pitch (from + h * pitch) b (to + h * cpitch)) ys) (λ h. next (i + h)) r
        (λ h lh ys. row h lh (omega (arith, et)) (omega (arith, ef)) ys)
        ∙ ap (upto g (λ h. next (i + h))) er
        ∙ sym (upto_add i g next s)
      where
        next : ℕ → List ℕ → List ℕ
        next h ys = put_row (at h) n cw (ruled h) ys

        row : (h : ℕ) → h < g → to + h * cpitch ≡ at (i + h) → from + h * pitch ≡ a + (i + h) * pitch → (ys : List ℕ)
            → put_row (to + h * cpitch) n cw (rule_row rule r cw w pitch (from + h * pitch) b (to + h * cpitch)) ys ≡ put_row (at (i + h)) n cw (ruled (i + h)) ys
        row h lh et ef ys =
            ap₂ (λ (p q : ℕ). put_row q n cw (rule_row rule r cw w pitch p b q) ys) ef et
            ∙ put_row-cong cw (at (i + h)) n (rule_row rule r cw w pitch (a + (i + h) * pitch) b (at (i + h))) (ruled (i + h)) ys
            (λ j lj. same_row i r er (i + h) (omega arith) (omega arith) j lj)

  -- by products of signed numbers
  pub product-turn : (i : ℕ) (r : List ℕ) → i < m → r ≡ put_tile at i n cw (λ i. product_row s cw w pitch k (a + i * pitch) b (at i)) s
      → (from to : ℕ) (out : List ℕ) → from ≡ a + i * pitch → to ≡ at i → out ≡ put_row to n cw (product_row r cw w pitch k from b to) r
      → out ≡ put_tile at (i + 1) n cw (λ i. product_row s cw w pitch k (a + i * pitch) b (at i)) s
  product-turn = rule-turn (product cw w k) (product-reads cw w k)

-- after i of m rows of p bytes, those that are left, and g of them
pub rows_left : (i m p : ℕ) → i ≤ m → i * p + (m - i) * p ≡ m * p
rows_left i m p h = let e : i + (m - i) ≡ m = omega arith in omega (arith, ap (λ (q : ℕ). q * p) e)

pub rows_taken : (i g m p : ℕ) → i ≤ m → g ≤ m - i → i * p + g * p ≤ m * p
rows_taken i g m p h l = omega (arith, rows_left i m p h, mul-le-mul_right p l)

-- one row, and two of which both read the values of the entry, as a tile
module _ (rule : Rule) (cw w pitch cpitch n a b c : ℕ) (s : List ℕ) where
  abbrev tiled : ℕ → List ℕ
  tiled m = put_tile (λ i. c + i * cpitch) m n cw (λ i. rule_row rule s cw w pitch (a + i * pitch) b (c + i * cpitch)) s

  pub rule-one : (out : List ℕ) → out ≡ put_row c n cw (rule_row rule s cw w pitch a b c) s → out ≡ tiled 1
  unfolding put_tile
  rule-one out e =
      tile-turn (λ i. c + i * cpitch) n cw (λ i. rule_row rule s cw w pitch (a + i * pitch) b (c + i * cpitch)) s s 0 refl
      c (rule_row rule s cw w pitch a b c) out (omega (arith, zero-mul cpitch)) e
      (λ j lj. ap₂ (λ (p q : ℕ). rule_row rule s cw w pitch p b q j) (omega (arith, zero-mul pitch)) (omega (arith, zero-mul cpitch)))

  pub rule-two : (mid out : List ℕ) → mid ≡ put_row c n cw (rule_row rule s cw w pitch a b c) s
      → out ≡ put_row (c + cpitch) n cw (rule_row rule s cw w pitch (a + pitch) b (c + cpitch)) mid → out ≡ tiled 2
  rule-two mid out em eo =
      tile-turn (λ i. c + i * cpitch) n cw (λ i. rule_row rule s cw w pitch (a + i * pitch) b (c + i * cpitch)) s mid 1 (rule-one mid em)
      (c + cpitch) (rule_row rule s cw w pitch (a + pitch) b (c + cpitch)) out (omega (arith, one-mul cpitch)) eo
      (λ j lj. ap₂ (λ (p q : ℕ). rule_row rule s cw w pitch p b q j) (omega (arith, one-mul pitch)) (omega (arith, one-mul cpitch)))
