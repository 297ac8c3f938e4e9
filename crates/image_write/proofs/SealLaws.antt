-- The ranges in a block as numbers, and the parts of a header.
use Rattle.numbers.proofs.Kit.{◌≡◌, refl, sym, ap, ap₂, ◌∙◌, Bool, true, false, cond, List, [], ◌∷◌, ◌++◌, append-nil, ℕ, zero, suc, ◌+◌, ◌*◌, ◌≤◌, ◌<◌}
use Rattle.numbers.proofs.Kit.{arith, eqb, length, take, set, length-append, length-set, eq-eqb, ne_eqb}
use Rattle.numbers.specs.Tile.{get_le}
use Rattle.numbers_format.specs.Numbers.{encode, encode_all}
use Rattle.machine.specs.declared.Machine.{Machine}
use Rattle.machine.specs.Geometry.{Range}
use Rattle.machine.specs.Faults.{seals_fit}
use Rattle.unit_ranges.specs.Ranges.{block_bytes, slot_at, count_in, range_at, first_ranges, seals_in}
use Rattle.unit_ranges.proofs.RangeLaws.{held, length-first}
use Rattle.image.specs.Images.{Seals, bounds, seal_fields, fields, header_of}
use Rattle.image_write.specs.Parts.{plain_fields, count_field}
use Rattle.image_write.proofs.PutLaws.{all_append}

-- ---- start and length of each range

pub bounds-behind : (rs : Seals) (r : Range) → bounds (rs ++ (r ∷ [])) ≡ bounds rs ++ (r.start ∷ r.size ∷ [])
bounds-behind [] r = refl
bounds-behind (q ∷ rs) r = ap (λ (l : List ℕ). q.start ∷ q.size ∷ l) (bounds-behind rs r)

take-set : (xs : List ℕ) (k v : ℕ) → k < length xs → take (suc k) (set xs k v) ≡ take k xs ++ (v ∷ [])
take-set [] k v l = absurd (omega arith)
take-set (x ∷ xs) zero v l = refl
take-set (x ∷ xs) (suc k) v l = ap (λ (t : List ℕ). x ∷ t) (take-set xs k v (omega arith))

append-two : (xs : List ℕ) (a b : ℕ) → (xs ++ (a ∷ [])) ++ (b ∷ []) ≡ xs ++ (a ∷ b ∷ [])
append-two [] a b = refl
append-two (x ∷ xs) a b = ap (λ (t : List ℕ). x ∷ t) (append-two xs a b)

pub take-two : (xs : List ℕ) (i a b : ℕ) → 2 * i + 2 ≤ length xs → take (2 * (i + 1)) (set (set xs (2 * i) a) (2 * i + 1) b) ≡ take (2 * i) xs ++ (a ∷ b ∷ [])
take-two xs i a b l =
    ap (λ (x : ℕ). take x (set (set xs (2 * i) a) (2 * i + 1) b)) {x = 2 * (i + 1)} {y = suc (suc (2 * i))} (omega arith)
    ∙ ap (λ (x : ℕ). take (suc (suc (2 * i))) (set (set xs (2 * i) a) x b)) {x = 2 * i + 1} {y = suc (2 * i)} (omega arith)
    ∙ take-set (set xs (2 * i) a) (suc (2 * i)) b (omega (arith, length-set xs (2 * i) a))
    ∙ ap (λ (t : List ℕ). t ++ (b ∷ [])) (take-set xs (2 * i) a (omega arith))
    ∙ append-two (take (2 * i) xs) a b

-- one more range
pub bounds-next : (block xs : List ℕ) (i at a b : ℕ) → at ≡ slot_at i → a ≡ get_le block at 8 → b ≡ get_le block (at + 8) 8 → xs ≡ bounds (first_ranges i block)
    → xs ++ (a ∷ b ∷ []) ≡ bounds (first_ranges (i + 1) block)
bounds-next block xs i at a b et ea eb ex =
    ap (λ (l : List ℕ). l ++ (a ∷ b ∷ [])) ex
    ∙ ap₂ (λ (x y : ℕ). bounds (first_ranges i block) ++ (x ∷ y ∷ [])) (ea ∙ ap (λ (x : ℕ). get_le block x 8) et) (eb ∙ ap (λ (x : ℕ). get_le block (x + 8) 8) et)
    ∙ sym (bounds-behind (first_ranges i block) (range_at block i))
    ∙ ap (λ (x : ℕ). bounds (first_ranges x block)) {x = suc i} {y = i + 1} (omega arith)

-- ---- the number of ranges

module _ (n : ℕ) where
  pub count_none : n ≡ 1 → [] ≡ encode_all (count_field n) []
  count_none e = rw (eq-eqb n 1 e)

  pub count-some : ¬ (n ≡ 1) → encode n ≡ encode_all (count_field n) []
  count-some d = rw (ne_eqb n 1 d) (sym (append-nil (encode n)))

  pub count-listed : ¬ (n ≡ 1) → encode_all (n ∷ []) [] ≡ encode_all (count_field n) []
  count-listed d = rw (ne_eqb n 1 d)

bounds-many : (rs : Seals) → length (bounds rs) ≡ 2 * length rs
bounds-many [] = refl
bounds-many (r ∷ rs) = omega (arith, bounds-many rs)

-- ---- of a block that a machine can hold

module _ (block : List ℕ) (h : seals_fit (seals_in block) ≡ true) where
  pub block-long : length block ≡ block_bytes
  block-long = (held block h).long

  pub seals-are : seals_in block ≡ first_ranges (count_in block) block
  seals-are = (held block h).are

  pub seals-many : length (seals_in block) ≡ count_in block
  seals-many = ap length seals-are ∙ length-first block (count_in block)

  -- the numbers of all ranges
  module _ (n : ℕ) (numbers : List ℕ) (c : n ≡ count_in block) (e : take (2 * count_in block) numbers ≡ bounds (seals_in block)) where
    pub all-taken : take (2 * n) numbers ≡ bounds (seals_in block)
    all-taken = ap (λ (x : ℕ). take (2 * x) numbers) c ∙ e

    pub taken-many : length (take (2 * n) numbers) ≡ 2 * n
    taken-many = ap length all-taken ∙ bounds-many (seals_in block) ∙ ap (λ (x : ℕ). 2 * x) (seals-many ∙ sym c)

-- the number of ranges, then the ranges
pub seal-parts : (rs : Seals) (n : ℕ) → length rs ≡ n → encode_all (seal_fields rs) [] ≡ encode_all (count_field n) [] ++ encode_all (bounds rs) []
seal-parts rs n e = ap (λ (x : ℕ). encode_all (cond (eqb x 1) (bounds rs) (x ∷ bounds rs)) []) e ∙ go (eqb n 1)
  where
    go : (t : Bool) → encode_all (cond t (bounds rs) (n ∷ bounds rs)) [] ≡ encode_all (cond t [] (n ∷ [])) [] ++ encode_all (bounds rs) []
    go true = refl
    go false = all_append (n ∷ []) (encode_all (bounds rs) [])

-- the fields: those before the ranges, the ranges, and the number of runs
pub header-parts : (m : Machine) (rs : Seals) (count : ℕ)
    → encode_all (fields (header_of m rs) ++ (count ∷ [])) [] ≡ encode_all (plain_fields (header_of m [])) [] ++ (encode_all (seal_fields rs) [] ++ (encode count ++ []))
header-parts m rs count =
    all_append (plain_fields (header_of m [])) (encode_all (seal_fields rs ++ (count ∷ [])) [])
    ∙ ap (λ (l : List ℕ). encode_all (plain_fields (header_of m [])) [] ++ l) (joined (seal_fields rs) ∙ all_append (seal_fields rs) (encode count ++ []))
  where
    joined : (ns : List ℕ) → encode_all (ns ++ (count ∷ [])) [] ≡ encode_all ns (encode count ++ [])
    joined [] = refl
    joined (k ∷ ns) = ap (λ (l : List ℕ). encode k ++ l) (joined ns)

pub header-long : (m : Machine) (rs : Seals) (count : ℕ)
    → length (encode_all (fields (header_of m rs) ++ (count ∷ [])) []) ≡ length (encode_all (plain_fields (header_of m [])) []) + (length (encode_all (seal_fields rs) []) + length (encode count ++ []))
header-long m rs count =
    ap length (header-parts m rs count)
    ∙ length-append (encode_all (plain_fields (header_of m [])) []) (encode_all (seal_fields rs) [] ++ (encode count ++ []))
    ∙ ap (λ (x : ℕ). length (encode_all (plain_fields (header_of m [])) []) + x) (length-append (encode_all (seal_fields rs) []) (encode count ++ []))

pub last-long : (count : ℕ) → length (encode count ++ []) ≡ length (encode count)
last-long count = ap length (append-nil (encode count))

pub seal-long : (rs : Seals) (n : ℕ) → length rs ≡ n → length (encode_all (seal_fields rs) []) ≡ length (encode_all (count_field n) []) + length (encode_all (bounds rs) [])
seal-long rs n e = ap length (seal-parts rs n e) ∙ length-append (encode_all (count_field n) []) (encode_all (bounds rs) [])
