-- Cells and the registers and marks that they stand for.
use Rattle.numbers.proofs.Kit.{◌≡◌, refl, ap, ap₂, subst, Bool, true, false, cond, List, [], ◌∷◌, none, some, ℕ, zero, suc, ◌<◌, arith, eqb, length, get_or}
use Rattle.numbers.proofs.Kit.{eqb-true}
use Rattle.numbers_format.specs.Numbers.{ByteString}
use Rattle.image.specs.Cells.{Cell, cell, cells_of, over, marks_of}
use Rattle.image.proofs.ImageLaws.{CellsOk}

-- ---- the cells of registers and marks

pub length-cells : (bs ms : List ℕ) → length bs ≡ length ms → length (cells_of bs ms) ≡ length bs
length-cells [] ms n = refl
length-cells (b ∷ bs) [] n = absurd (omega (arith, n))
length-cells (b ∷ bs) (m ∷ ms) n = ap suc (length-cells bs ms (omega (arith, n)))

pub cells-ok : (bs ms : List ℕ) → ByteString bs → CellsOk (cells_of bs ms)
cells-ok [] ms h = tt
cells-ok (b ∷ bs) [] h = tt
cells-ok (b ∷ bs) (m ∷ ms) h = one (eqb m 1) (cells_of bs ms) (cells-ok bs ms h.1)
  where
    one : (t : Bool) (cs : List Cell) → CellsOk cs → CellsOk (cond t (some b) none ∷ cs)
    one true cs k = (h.0, k)
    one false cs k = k

-- registers that agree where marked have the same cells
pub alike-cells : (bs cs ms : List ℕ) → length bs ≡ length cs → ((q : ℕ) → get_or ms q 0 ≡ 1 → get_or bs q 0 ≡ get_or cs q 0) → cells_of bs ms ≡ cells_of cs ms
alike-cells [] [] ms n h = refl
alike-cells [] (c ∷ cs) ms n h = absurd (omega (arith, n))
alike-cells (b ∷ bs) [] ms n h = absurd (omega (arith, n))
alike-cells (b ∷ bs) (c ∷ cs) [] n h = refl
alike-cells (b ∷ bs) (c ∷ cs) (m ∷ ms) n h =
    ap₂ (λ (x : Cell) (l : List Cell). x ∷ l) (same (eqb m 1) refl) (alike-cells bs cs ms (omega (arith, n)) (λ q. h (suc q)))
  where
    same : (t : Bool) → eqb m 1 ≡ t → ◌≡◌ {A = Cell} (cond t (some b) none) (cond t (some c) none)
    same true e = ap some (h 0 (eqb-true m 1 e))
    same false e = refl

-- and back
tail : List Cell → List Cell
tail [] = []
tail (c ∷ cs) = cs

byte : List Cell → ℕ
byte [] = 0
byte (none ∷ cs) = 0
byte (some b ∷ cs) = b

pub cells-alike : (bs cs ms : List ℕ) → length bs ≡ length ms → length cs ≡ length ms → cells_of bs ms ≡ cells_of cs ms
    → (q : ℕ) → get_or ms q 0 ≡ 1 → get_or bs q 0 ≡ get_or cs q 0
unfolding tail byte
cells-alike [] [] ms n k e q h = refl
cells-alike [] (c ∷ cs) ms n k e q h = absurd (omega (arith, n, k))
cells-alike (b ∷ bs) [] ms n k e q h = absurd (omega (arith, n, k))
cells-alike (b ∷ bs) (c ∷ cs) [] n k e q h = absurd (omega (arith, n))
cells-alike (b ∷ bs) (c ∷ cs) (m ∷ ms) n k e zero h =
    subst (λ (z : ℕ). byte (cell b z ∷ cells_of bs ms) ≡ byte (cell c z ∷ cells_of cs ms)) h (ap byte e)
cells-alike (b ∷ bs) (c ∷ cs) (m ∷ ms) n k e (suc q) h = cells-alike bs cs ms (omega (arith, n)) (omega (arith, k)) (ap tail e) q h

-- the cells tell the marks
pub marks-cells : (bs ms : List ℕ) → length bs ≡ length ms → ((q : ℕ) → get_or ms q 0 < 2) → marks_of (cells_of bs ms) ≡ ms
marks-cells [] [] n k = refl
marks-cells [] (m ∷ ms) n k = absurd (omega (arith, n))
marks-cells (b ∷ bs) [] n k = absurd (omega (arith, n))
marks-cells (b ∷ bs) (m ∷ ms) n k = go m (k 0) (marks-cells bs ms (omega (arith, n)) (λ q. k (suc q)))
  where
    go : (m : ℕ) → m < 2 → marks_of (cells_of bs ms) ≡ ms → marks_of (cell b m ∷ cells_of bs ms) ≡ m ∷ ms
    go zero l ih = ap (λ (z : List ℕ). 0 ∷ z) ih
    go (suc zero) l ih = ap (λ (z : List ℕ). 1 ∷ z) ih
    go (suc (suc m)) l ih = absurd (omega arith)

-- ---- cells in lent registers

pub length_over : (cs : List Cell) (bs : List ℕ) → length bs ≡ length cs → length (over cs bs) ≡ length cs
length_over [] bs n = refl
length_over (c ∷ cs) [] n = absurd (omega (arith, n))
length_over (none ∷ cs) (b ∷ bs) n = ap suc (length_over cs bs (omega (arith, n)))
length_over (some x ∷ cs) (b ∷ bs) n = ap suc (length_over cs bs (omega (arith, n)))

pub length-marks : (cs : List Cell) → length (marks_of cs) ≡ length cs
length-marks [] = refl
length-marks (none ∷ cs) = ap suc (length-marks cs)
length-marks (some x ∷ cs) = ap suc (length-marks cs)

pub marks-of-two : (cs : List Cell) (q : ℕ) → get_or (marks_of cs) q 0 < 2
marks-of-two [] zero = omega arith
marks-of-two [] (suc q) = omega arith
marks-of-two (none ∷ cs) zero = omega arith
marks-of-two (none ∷ cs) (suc q) = marks-of-two cs q
marks-of-two (some x ∷ cs) zero = omega arith
marks-of-two (some x ∷ cs) (suc q) = marks-of-two cs q

-- the registers and marks that are left have these cells
pub cells_over : (cs : List Cell) (bs : List ℕ) → length bs ≡ length cs → cells_of (over cs bs) (marks_of cs) ≡ cs
cells_over [] bs n = refl
cells_over (c ∷ cs) [] n = absurd (omega (arith, n))
cells_over (none ∷ cs) (b ∷ bs) n = ap (λ (l : List Cell). none ∷ l) (cells_over cs bs (omega (arith, n)))
cells_over (some x ∷ cs) (b ∷ bs) n = ap (λ (l : List Cell). some x ∷ l) (cells_over cs bs (omega (arith, n)))

-- unmarked bytes stay as lent
pub over-lent : (cs : List Cell) (bs : List ℕ) → length bs ≡ length cs → (q : ℕ) → get_or (marks_of cs) q 0 ≡ 0 → get_or (over cs bs) q 0 ≡ get_or bs q 0
over-lent [] [] n q h = refl
over-lent [] (b ∷ bs) n q h = absurd (omega (arith, n))
over-lent (c ∷ cs) [] n q h = absurd (omega (arith, n))
over-lent (none ∷ cs) (b ∷ bs) n zero h = refl
over-lent (none ∷ cs) (b ∷ bs) n (suc q) h = over-lent cs bs (omega (arith, n)) q h
over-lent (some x ∷ cs) (b ∷ bs) n zero h = absurd (omega (arith, h))
over-lent (some x ∷ cs) (b ∷ bs) n (suc q) h = over-lent cs bs (omega (arith, n)) q h

pub over-bytes : (cs : List Cell) (bs : List ℕ) → CellsOk cs → ByteString bs → ByteString (over cs bs)
over-bytes [] bs k h = tt
over-bytes (c ∷ cs) [] k h = tt
over-bytes (none ∷ cs) (b ∷ bs) k h = (h.0, over-bytes cs bs k h.1)
over-bytes (some x ∷ cs) (b ∷ bs) k h = (k.0, over-bytes cs bs k.1 h.1)
