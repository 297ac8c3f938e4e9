-- Ranges written over a block: they are what is read there, and one more behind those that stand there needs its own slot and the number.
use Rattle.numbers.proofs.Kit.{◌≡◌, refl, sym, ap, ap₂, ◌∙◌, ◌⊎◌, inl, inr, Bool, true, false, cond, ◌&&◌, ◌||◌, List, [], ◌∷◌, ◌++◌, ℕ, zero, suc}
use Rattle.numbers.proofs.Kit.{◌+◌, ◌-◌, ◌*◌, ◌≤◌, ◌<◌, ◌^◌, eq-or-lt_of_le, le_of_suc-le-suc, not-suc-le-zero, mod-eq_of_lt, arith, leb, ltb, eqb, length}
use Rattle.numbers.proofs.Kit.{get_or, length-append, List·getD-append, List·getD-eq-default, get_or_at, leb-true, le-leb, lt-ltb, le-ltb, eqb-true, eq-eqb}
use Rattle.numbers.proofs.Kit.{ne_eqb}
use Rattle.numbers.specs.Upto.{upto}
use Rattle.numbers.specs.Tile.{get_le, put_le, In}
use Rattle.numbers.proofs.UptoLaws.{upto-keeps, upto-cong}
use Rattle.numbers.proofs.PutLaws.{upto_add}
use Rattle.numbers.proofs.TileLaws.{le-cong, le_bytes, length-put_le, put_le-out, put_le-at}
use Rattle.numbers.proofs.WordLaws.{put_le-same}
use Rattle.numbers.proofs.BlockLaws.{le-or-lt}
use Rattle.machine.specs.Tests.{all}
use Rattle.machine.specs.Geometry.{Range, range}
use Rattle.machine.specs.Starting.{seal_ends, seals_end, most_seals}
use Rattle.machine.specs.Faults.{seals_fit}
use Rattle.machine.proofs.TestLaws.{false-true, all-at, all_true, every-each, each-every}
use Rattle.unit_ranges.specs.Ranges.{block_bytes, slot_at, count_in, range_at, first_ranges, well_formed, seals_in, put_range, put_seals}
use Rattle.unit_ranges.proofs.RangeLaws.{shape-holds, held, length-first}

-- an empty slot
abbrev none : Range
none = range 0 0

-- ---- slots lie apart

slot-suc : (i : ℕ) → slot_at (suc i) ≡ 72 + 16 * suc i
slot-suc i = rw (ne_eqb (suc i) 0 (λ e. omega (arith, e)))

-- before the number of ranges or behind it
slot-place : (i : ℕ) → (48 ≤ slot_at i) × ((slot_at i + 16 ≤ 64) ⊎ (88 ≤ slot_at i))
slot-place zero = (omega arith, inl (omega arith))
slot-place (suc i) = (omega (arith, slot-suc i), inr (omega (arith, slot-suc i)))

pub slot-fits : (i : ℕ) → i < 8 → slot_at i + 16 ≤ block_bytes
slot-fits zero l = omega arith
slot-fits (suc i) l = omega (arith, slot-suc i)

apart : (i j : ℕ) → ¬ (i ≡ j) → (slot_at i + 16 ≤ slot_at j) ⊎ (slot_at j + 16 ≤ slot_at i)
apart zero zero n = absurd (n refl)
apart zero (suc j) n = inl (omega (arith, slot-suc j))
apart (suc i) zero n = inr (omega (arith, slot-suc i))
apart (suc i) (suc j) n = elim (le-or-lt i j) [
  | inl l ↦ inl (omega (arith, slot-suc i, slot-suc j, l, more i j l n))
  | inr l ↦ inr (omega (arith, slot-suc i, slot-suc j, l))
]
  where
    more : (i j : ℕ) → i ≤ j → ¬ (suc i ≡ suc j) → i < j
    more i j l n = elim (eq-or-lt_of_le l) [ inl e ↦ absurd (n (ap suc e)) | inr k ↦ k ]

slots_apart : (i j : ℕ) → ¬ (i ≡ j) → (q : ℕ) → In (slot_at i) 16 q → ¬ In (slot_at j) 16 q
slots_apart i j n q x y = elim (apart i j n) [ inl l ↦ omega (arith, l, x.1, y.0) | inr l ↦ omega (arith, l, x.0, y.1) ]

-- ---- a slot that is written, and the others

range-cong : (xs ys : List ℕ) (i : ℕ) → ((q : ℕ) → In (slot_at i) 16 q → get_or xs q 0 ≡ get_or ys q 0) → range_at xs i ≡ range_at ys i
range-cong xs ys i same =
    ap₂ range (le-cong xs ys (slot_at i) (slot_at i) 8 (λ b l. same (slot_at i + b) (omega arith, omega arith)))
    (le-cong xs ys (slot_at i + 8) (slot_at i + 8) 8 (λ b l. same (slot_at i + 8 + b) (omega arith, omega arith)))

pub length-put_range : (i : ℕ) (r : Range) (b : List ℕ) → length (put_range i r b) ≡ length b
unfolding put_range
length-put_range i r b = length-put_le (slot_at i + 8) 8 r.size (put_le (slot_at i) 8 r.start b) ∙ length-put_le (slot_at i) 8 r.start b

pub put_range-out : (i : ℕ) (r : Range) (b : List ℕ) (q : ℕ) → ¬ In (slot_at i) 16 q → get_or (put_range i r b) q 0 ≡ get_or b q 0
unfolding put_range
put_range-out i r b q n =
    put_le-out (slot_at i + 8) 8 r.size (put_le (slot_at i) 8 r.start b) q (λ x. n (omega (arith, x.0), omega (arith, x.1)))
    ∙ put_le-out (slot_at i) 8 r.start b q (λ x. n (x.0, omega (arith, x.1)))

-- numbers of 64 bits
abbrev Small : Range → Type 0
Small r = (r.start < 2 ^ 64) × (r.size < 2 ^ 64)

put_range-at : (i : ℕ) (r : Range) (b : List ℕ) → i < 8 → length b ≡ block_bytes → Small r → range_at (put_range i r b) i ≡ r
unfolding put_range
put_range-at i r b l h s =
    let c : List ℕ = put_le (slot_at i) 8 r.start b in
    let d : List ℕ = put_le (slot_at i + 8) 8 r.size c in
    ap₂ range
    (le-cong d c (slot_at i) (slot_at i) 8 (λ k m. put_le-out (slot_at i + 8) 8 r.size c (slot_at i + k) (λ x. omega (arith, x.0)))
    ∙ le_bytes c (slot_at i) 8 r.start (put_le-at (slot_at i) 8 r.start b (omega (arith, slot-fits i l, h))) ∙ mod-eq_of_lt s.0)
    (le_bytes d (slot_at i + 8) 8 r.size (put_le-at (slot_at i + 8) 8 r.size c (omega (arith, slot-fits i l, h, length-put_le (slot_at i) 8 r.start b))) ∙ mod-eq_of_lt s.1)

-- ---- several slots

module _ (g : ℕ → Range) (b : List ℕ) where
  abbrev puts : ℕ → List ℕ
  puts n = upto n (λ i. put_range i (g i)) b

  length-puts : (n : ℕ) → length (puts n) ≡ length b
  length-puts n = upto-keeps (λ ys. length ys ≡ length b) n (λ i. put_range i (g i)) b (λ i l ys e. length-put_range i (g i) ys ∙ e) refl

  puts-out : (n q : ℕ) → ((i : ℕ) → ¬ In (slot_at i) 16 q) → get_or (puts n) q 0 ≡ get_or b q 0
  puts-out n q k = upto-keeps (λ ys. get_or ys q 0 ≡ get_or b q 0) n (λ i. put_range i (g i)) b (λ i l ys e. put_range-out i (g i) ys q (k i) ∙ e) refl

  puts-at : (n : ℕ) → n ≤ 8 → length b ≡ block_bytes → ((i : ℕ) → Small (g i)) → (i : ℕ) → i < n → range_at (puts n) i ≡ g i
  puts-at zero m h s i l = absurd (not-suc-le-zero l)
  puts-at (suc n) m h s i l = elim (eq-or-lt_of_le (le_of_suc-le-suc l)) [
    | inl e ↦
        ap (range_at (put_range n (g n) (puts n))) e
        ∙ put_range-at n (g n) (puts n) (omega arith) (length-puts n ∙ h) (s n) ∙ ap g (sym e)
    | inr k ↦
        range-cong (put_range n (g n) (puts n)) (puts n) i
        (λ q x. put_range-out n (g n) (puts n) q (slots_apart i n (λ e. omega (arith, k, e)) q x))
        ∙ puts-at n (omega arith) h s i k
  ]

-- ---- what is read of ranges that were written

-- an element of each of the first places
abbrev firsts : (ℕ → Range) → ℕ → List Range
firsts f n = upto n (λ i rs. rs ++ (f i ∷ [])) []

firsts-front : (f : ℕ → Range) (n : ℕ) → firsts f (suc n) ≡ f 0 ∷ firsts (λ i. f (suc i)) n
firsts-front f zero = refl
firsts-front f (suc n) = ap (λ (rs : List Range). rs ++ (f (suc n) ∷ [])) (firsts-front f n)

firsts-all : (rs : List Range) → firsts (λ i. get_or rs i none) (length rs) ≡ rs
firsts-all [] = refl
firsts-all (r ∷ rs) = firsts-front (λ i. get_or (r ∷ rs) i none) (length rs) ∙ ap (λ (xs : List Range). r ∷ xs) (firsts-all rs)

length-firsts : (f : ℕ → Range) (n : ℕ) → length (firsts f n) ≡ n
length-firsts f zero = refl
length-firsts f (suc n) = length-append (firsts f n) (f n ∷ []) ∙ omega (arith, length-firsts f n)

firsts_at : (f : ℕ → Range) (n i : ℕ) → i < n → get_or (firsts f n) i none ≡ f i
firsts_at f zero i l = absurd (not-suc-le-zero l)
firsts_at f (suc n) i l = elim (eq-or-lt_of_le (le_of_suc-le-suc l)) [
  | inl e ↦ get_or_at (firsts f n) (f n) [] none i (length-firsts f n ∙ sym e) ∙ ap f (sym e)
  | inr k ↦ List·getD-append (firsts f n) (f n ∷ []) none i (rw (length-firsts f n) k) ∙ firsts_at f n i k
]

-- ranges that a machine can hold are of numbers of 64 bits
ends-small : (rs : List Range) → seals_end rs ≡ true → (i : ℕ) → Small (get_or rs i none)
ends-small [] h i = (omega arith, omega arith)
ends-small (r ∷ rs) h zero =
    let e = leb-true (r.start + r.size) (2 ^ 64 - 1) (both_first (seal_ends r.start r.size) (seals_end rs) h) in
    (omega (arith, e), omega (arith, e))
  where
    both_first : (s t : Bool) → s && t ≡ true → s ≡ true
    both_first true t e = refl
    both_first false t e = e
ends-small (r ∷ rs) h (suc i) = ends-small rs (both-last (seal_ends r.start r.size) (seals_end rs) h) i
  where
    both-last : (s t : Bool) → s && t ≡ true → t ≡ true
    both-last true t e = e
    both-last false t e = absurd (false-true e)

module _ (rs : List Range) (b : List ℕ) where
  abbrev at : ℕ → Range
  at i = get_or rs i none

  abbrev numbered : List ℕ
  numbered = put_le 80 8 (length rs) b

  pub length-put_seals : length (put_seals rs b) ≡ length b
  unfolding put_seals
  length-put_seals = length-puts at numbered 8 ∙ length-put_le 80 8 (length rs) b

  -- a byte of the machine's other numbers
  pub put_seals-out : (q : ℕ) → (q < 48) ⊎ ((64 ≤ q) × (q < 80)) → get_or (put_seals rs b) q 0 ≡ get_or b q 0
  unfolding put_seals
  put_seals-out q h = puts-out at numbered 8 q (λ i x. outside i x h) ∙ put_le-out 80 8 (length rs) b q (λ x. before x h)
    where
      outside : (i : ℕ) → In (slot_at i) 16 q → (q < 48) ⊎ ((64 ≤ q) × (q < 80)) → ⊥
      outside i x (inl l) = omega (arith, (slot-place i).0, x.0)
      outside i x (inr l) = elim (slot-place i).1 [ inl k ↦ omega (arith, k, x.1, l.0) | inr k ↦ omega (arith, k, x.0, l.1) ]

      before : In 80 8 q → (q < 48) ⊎ ((64 ≤ q) × (q < 80)) → ⊥
      before x (inl l) = omega (arith, x.0)
      before x (inr l) = omega (arith, x.0, l.1)

  module _ (h : length b ≡ block_bytes) (fit : seals_fit rs ≡ true) where
    few : length rs ≤ 8
    unfolding seals_fit
    few = leb-true (length rs) 8 (every-each (leb (length rs) most_seals ∷ seals_end rs ∷ []) fit).0

    small : (i : ℕ) → Small (at i)
    unfolding seals_fit
    small = ends-small rs (every-each (leb (length rs) most_seals ∷ seals_end rs ∷ []) fit).1.0

    pub put_seals-count : count_in (put_seals rs b) ≡ length rs
    unfolding put_seals
    put_seals-count =
        le-cong (puts at numbered 8) numbered 80 80 8 (λ k l. puts-out at numbered 8 (80 + k) (λ i x. outside i k l x))
        ∙ le_bytes numbered 80 8 (length rs) (put_le-at 80 8 (length rs) b (omega (arith, h))) ∙ mod-eq_of_lt (omega (arith, few))
      where
        outside : (i k : ℕ) → k < 8 → In (slot_at i) 16 (80 + k) → ⊥
        outside i k l x = elim (slot-place i).1 [ inl m ↦ omega (arith, m, x.1) | inr m ↦ omega (arith, m, x.0) ]

    put_seals-range : (i : ℕ) → i < 8 → range_at (put_seals rs b) i ≡ at i
    unfolding put_seals
    put_seals-range i l = puts-at at numbered 8 (omega arith) (length-put_le 80 8 (length rs) b ∙ h) small i l

    -- the ranges that were written are read
    pub put_seals-seals : seals_in (put_seals rs b) ≡ rs
    unfolding seals_in well_formed
    put_seals-seals =
        let P : List ℕ = put_seals rs b in
        let w : well_formed P ≡ true = each-every (eqb (length P) block_bytes ∷ leb (count_in P) most_seals ∷ all most_seals (slot P) ∷ [])
        (eq-eqb (length P) block_bytes (length-put_seals ∙ h), (le-leb (count_in P) most_seals (omega (arith, few, put_seals-count)), (all_true most_seals (slot P) (λ i l. held-slot i l (le-or-lt (length rs) i)), tt))) in
        ap (λ (t : Bool). cond t (first_ranges (count_in P) P) (range (2 ^ 64) 0 ∷ [])) w
        ∙ ap (λ (n : ℕ). first_ranges n P) put_seals-count
        ∙ upto-cong (length rs) (λ i xs. xs ++ (range_at P i ∷ [])) (λ i xs. xs ++ (at i ∷ [])) []
        (λ i l xs. ap (λ (r : Range). xs ++ (r ∷ [])) (put_seals-range i (omega (arith, few, l))))
        ∙ firsts-all rs
      where
        or-true : (t : Bool) → t || true ≡ true
        or-true true = refl
        or-true false = refl

        slot : List ℕ → ℕ → Bool
        slot P i = ltb i (count_in P) || (eqb (range_at P i).start 0 && eqb (range_at P i).size 0)

        held-slot : (i : ℕ) → i < 8 → (length rs ≤ i) ⊎ (i < length rs) → slot (put_seals rs b) i ≡ true
        held-slot i l (inl k) =
            ap (λ (r : Range). ltb i (count_in (put_seals rs b)) || (eqb r.start 0 && eqb r.size 0)) (put_seals-range i l ∙ List·getD-eq-default rs none k)
            ∙ or-true (ltb i (count_in (put_seals rs b)))
        held-slot i l (inr k) =
            ap (λ (t : Bool). t || (eqb (range_at (put_seals rs b) i).start 0 && eqb (range_at (put_seals rs b) i).size 0))
            (ap (ltb i) put_seals-count ∙ lt-ltb i (length rs) k)

-- ---- one more behind those that stand there

module _ (b : List ℕ) (fit : seals_fit (seals_in b) ≡ true) where
  abbrev n : ℕ
  n = count_in b

  pub count-is : length (seals_in b) ≡ n
  count-is = ap length (held b fit).are ∙ length-first b n

  -- the slots of a block whose ranges a machine can hold
  slot_is : (i : ℕ) → i < 8 → range_at b i ≡ get_or (seals_in b) i none
  unfolding well_formed
  slot_is i l = go (le-or-lt n i)
    where
      zeros : (r : Range) → eqb r.start 0 && eqb r.size 0 ≡ true → r ≡ none
      zeros r h = ap₂ range (eqb-true r.start 0 (both (eqb r.start 0) (eqb r.size 0) h).0) (eqb-true r.size 0 (both (eqb r.start 0) (eqb r.size 0) h).1)
        where
          both : (s t : Bool) → s && t ≡ true → (s ≡ true) × (t ≡ true)
          both true t e = (refl, e)
          both false t e = absurd (false-true e)

      shape : ltb i n || (eqb (range_at b i).start 0 && eqb (range_at b i).size 0) ≡ true
      shape =
          all-at most_seals (λ i. ltb i n || (eqb (range_at b i).start 0 && eqb (range_at b i).size 0))
          (every-each (eqb (length b) block_bytes ∷ leb n most_seals ∷ all most_seals (λ i. ltb i n || (eqb (range_at b i).start 0 && eqb (range_at b i).size 0)) ∷ []) (shape-holds b fit)).1.1.0 i l

      go : (n ≤ i) ⊎ (i < n) → range_at b i ≡ get_or (seals_in b) i none
      go (inl k) = zeros (range_at b i) (rw (le-ltb i n k) at shape) ∙ sym (List·getD-eq-default (seals_in b) none (omega (arith, count-is, k)))
      go (inr k) = sym (ap (λ (rs : List Range). get_or rs i none) (held b fit).are ∙ firsts_at (range_at b) n i k)

-- slots that are written as they stand
module _ (c : List ℕ) (small : (q : ℕ) → get_or c q 0 < 256) where
  put_range-same : (i : ℕ) (r : Range) → range_at c i ≡ r → put_range i r c ≡ c
  unfolding put_range
  put_range-same i r e =
      ap (λ (r : Range). put_le (slot_at i + 8) 8 r.size (put_le (slot_at i) 8 r.start c)) (sym e)
      ∙ ap (put_le (slot_at i + 8) 8 (get_le c (slot_at i + 8) 8)) (put_le-same c small (slot_at i) 8) ∙ put_le-same c small (slot_at i + 8) 8

  puts-same : (g : ℕ → Range) (j k : ℕ) → ((i : ℕ) → i < k → range_at c (j + i) ≡ g (j + i)) → upto k (λ i. put_range (j + i) (g (j + i))) c ≡ c
  puts-same g j k e =
      upto-keeps (λ ys. ys ≡ c) k (λ i. put_range (j + i) (g (j + i))) c (λ i l ys q. ap (put_range (j + i) (g (j + i))) q ∙ put_range-same (j + i) (g (j + i)) (e i l)) refl

-- the number of ranges, then the range in the next slot
module _ (b c d : List ℕ) (r : Range) (small : (q : ℕ) → get_or c q 0 < 256) (small' : (q : ℕ) → get_or d q 0 < 256) (fit : seals_fit (seals_in b) ≡ true) (room : length (seals_in b) < 8) where
  abbrev n' : ℕ
  n' = count_in b

  abbrev more : ℕ → Range
  more i = get_or (seals_in b ++ (r ∷ [])) i none

  pub added : c ≡ put_le 80 8 (n' + 1) b → d ≡ put_range n' r c → d ≡ put_seals (seals_in b ++ (r ∷ [])) b
  unfolding put_seals
  added ec ed =
      sym (ap (λ (k : ℕ). upto 8 (λ i. put_range i (more i)) (put_le 80 8 k b)) many
      ∙ ap (upto 8 (λ i. put_range i (more i))) (sym ec)
      ∙ ap (λ (k : ℕ). upto k (λ i. put_range i (more i)) c) {x = 8} {y = suc n' + (8 - suc n')} (omega (arith, count-is b fit))
      ∙ upto_add (suc n') (8 - suc n') (λ i. put_range i (more i)) c
      ∙ ap (upto (8 - suc n') (λ i. put_range (suc n' + i) (more (suc n' + i)))) front
      ∙ puts-same d small' more (suc n') (8 - suc n') behind)
    where
      many : length (seals_in b ++ (r ∷ [])) ≡ n' + 1
      many = length-append (seals_in b) (r ∷ []) ∙ omega (arith, count-is b fit)

      -- a slot that neither is the number nor the new one
      kept-c : (i : ℕ) → range_at c i ≡ range_at b i
      kept-c i = ap (λ (x : List ℕ). range_at x i) ec ∙ range-cong (put_le 80 8 (n' + 1) b) b i (λ q x. put_le-out 80 8 (n' + 1) b q (λ y. outside q x y))
        where
          outside : (q : ℕ) → In (slot_at i) 16 q → In 80 8 q → ⊥
          outside q x y = elim (slot-place i).1 [ inl m ↦ omega (arith, m, x.1, y.0) | inr m ↦ omega (arith, m, x.0, y.1) ]

      kept-d : (i : ℕ) → ¬ (i ≡ n') → range_at d i ≡ range_at b i
      kept-d i ne = ap (λ (x : List ℕ). range_at x i) ed ∙ range-cong (put_range n' r c) c i (λ q x. put_range-out n' r c q (slots_apart i n' ne q x)) ∙ kept-c i

      first : upto n' (λ i. put_range i (more i)) c ≡ c
      first =
          upto-cong n' (λ i. put_range i (more i)) (λ i. put_range (0 + i) (more (0 + i))) c (λ i l ys. ap (λ (k : ℕ). put_range k (more k) ys) (omega arith))
          ∙ puts-same c small more 0 n' (λ i l. before (0 + i) (omega (arith, l)))
        where
          before : (i : ℕ) → i < n' → range_at c i ≡ more i
          before i l =
              kept-c i ∙ slot_is b fit i (omega (arith, count-is b fit, l))
              ∙ sym (List·getD-append (seals_in b) (r ∷ []) none i (omega (arith, count-is b fit, l)))

      front : upto (suc n') (λ i. put_range i (more i)) c ≡ d
      front = ap (put_range n' (more n')) first ∙ ap (λ (r : Range). put_range n' r c) (get_or_at (seals_in b) r [] none n' (count-is b fit)) ∙ sym ed

      behind : (i : ℕ) → i < 8 - suc n' → range_at d (suc n' + i) ≡ more (suc n' + i)
      behind i l =
          kept-d (suc n' + i) (λ e. omega (arith, e)) ∙ slot_is b fit (suc n' + i) (omega (arith, l))
          ∙ List·getD-eq-default (seals_in b) none (omega (arith, count-is b fit))
          ∙ sym (List·getD-eq-default (seals_in b ++ (r ∷ [])) none (omega (arith, many)))
