-- Blocks that are written over again: the numbers and ranges of a machine, or the numbers of a run, fill their block, so what it held before
-- is gone.
use Rattle.numbers.proofs.Kit.{◌≡◌, refl, sym, ap, ◌∙◌, ◌⊎◌, inl, inr, List, [], ◌∷◌, ℕ, ◌+◌, ◌-◌, ◌*◌, ◌/◌, ◌%◌, ◌^◌, ◌≤◌, ◌<◌, arith, length, get_or}
use Rattle.numbers.proofs.Kit.{ext_get_or}
use Rattle.numbers.specs.Tile.{get_le, byte_of, put_row, In}
use Rattle.numbers.proofs.TileLaws.{le-cong, length-put_row, put_row-at, put_row-out}
use Rattle.numbers.proofs.WordLaws.{le-put_row}
use Rattle.numbers.proofs.BlockLaws.{le-or-lt}
use Rattle.machine.specs.declared.Machine.{Machine}
use Rattle.machine.specs.Geometry.{Range}
use Rattle.unit_ranges.specs.Ranges.{put_seals}
use Rattle.unit_ranges.proofs.PutLaws.{length-put_seals, put_seals-out}
use Rattle.theorem_calls.proofs.Slots.{put_seals-in}
use Rattle.run.specs.declared.Run.{Run}
use Rattle.c_blocks.specs.Blocks.{machine_bytes, machine_of, put_machine, put_numbers}
use Rattle.c_blocks.proofs.BlockLaws.{Words, length-put_machine, put_machine-out}
use Rattle.c_run_blocks.specs.RunBlocks.{run_bytes, put_run}
use Rattle.c_run_blocks.proofs.RunBlockLaws.{length-put_run, numbers_of_run}

-- n numbers of eight bytes
fills : (n : ℕ) (f : ℕ → ℕ) (xs ys : List ℕ) → length xs ≡ n * 8 → length ys ≡ n * 8 → put_row 0 n 8 f xs ≡ put_row 0 n 8 f ys
fills n f xs ys ex ey =
    ext_get_or 0 (put_row 0 n 8 f xs) (put_row 0 n 8 f ys) (lx ∙ ex ∙ sym (ly ∙ ey)) (λ q l. at xs ex q (omega (arith, lx)) ∙ sym (at ys ey q (omega (arith, lx))))
  where
    lx : length (put_row 0 n 8 f xs) ≡ length xs
    lx = length-put_row 0 n 8 f xs

    ly : length (put_row 0 n 8 f ys) ≡ length ys
    ly = length-put_row 0 n 8 f ys

    at : (zs : List ℕ) → length zs ≡ n * 8 → (q : ℕ) → q < n * 8 → get_or (put_row 0 n 8 f zs) q 0 ≡ byte_of (f (q / 8)) (q % 8)
    at zs e q l =
        let d : q ≡ 0 + q / 8 * 8 + q % 8 = omega arith in
        ap (λ (k : ℕ). get_or (put_row 0 n 8 f zs) k 0) d ∙ put_row-at 0 n 8 f zs (omega arith) (q / 8) (omega arith) (q % 8) (omega arith)

-- ---- the machine's block

-- the numbers before the first range, and those behind it
abbrev front_of : Machine → ℕ → ℕ
front_of m j = get_or (m.rlen ∷ m.mlen ∷ m.mtype ∷ m.tile_m ∷ m.tile_k ∷ m.tile_n ∷ []) j 0

abbrev back_of : Machine → ℕ → ℕ
back_of m j = get_or (m.rule ∷ m.elen ∷ []) j 0

put_machine-rows : (m : Machine) (xs : List ℕ) → put_machine m xs ≡ put_row 64 2 8 (back_of m) (put_row 0 6 8 (front_of m) xs)
unfolding put_machine put_row
put_machine-rows m xs = refl

-- where a byte of the block lies: in the machine's numbers, or in its ranges
abbrev Ours : ℕ → Type 0
Ours q = (q < 48) ⊎ ((64 ≤ q) × (q < 80))

ours-or : (q : ℕ) → Ours q ⊎ ((48 ≤ q) × ((q < 64) ⊎ (80 ≤ q)))
ours-or q = elim (le-or-lt 48 q) [
  | inr l ↦ inl (inl l)
  | inl l ↦ elim (le-or-lt 64 q) [
    | inr k ↦ inr (l, inl k)
    | inl k ↦ elim (le-or-lt 80 q) [ inr n ↦ inl (inr (k, n)) | inl n ↦ inr (l, inr n) ]
  ]
]

-- a byte of the machine's numbers is what is written, whatever was there
put_machine-at : (m : Machine) (xs ys : List ℕ) → length xs ≡ machine_bytes → length ys ≡ machine_bytes → (q : ℕ) → Ours q → get_or (put_machine m xs) q 0 ≡ get_or (put_machine m ys) q 0
put_machine-at m xs ys ex ey q h = at xs ex h ∙ sym (at ys ey h)
  where
    value : Ours q → ℕ
    value (inl l) = byte_of (front_of m (q / 8)) (q % 8)
    value (inr l) = byte_of (back_of m ((q - 64) / 8)) ((q - 64) % 8)

    at : (zs : List ℕ) → length zs ≡ machine_bytes → (h : Ours q) → get_or (put_machine m zs) q 0 ≡ value h
    at zs e (inl l) =
        let d : q ≡ 0 + q / 8 * 8 + q % 8 = omega arith in
        ap (λ (b : List ℕ). get_or b q 0) (put_machine-rows m zs)
        ∙ put_row-out 64 2 8 (back_of m) (put_row 0 6 8 (front_of m) zs) q (λ x. omega (arith, x.0))
        ∙ ap (λ (k : ℕ). get_or (put_row 0 6 8 (front_of m) zs) k 0) d ∙ put_row-at 0 6 8 (front_of m) zs (omega arith) (q / 8) (omega arith) (q % 8) (omega arith)
    at zs e (inr l) =
        let k = l.0 in
        let n = l.1 in
        let d : q ≡ 64 + (q - 64) / 8 * 8 + (q - 64) % 8 = omega arith in
        ap (λ (b : List ℕ). get_or b q 0) (put_machine-rows m zs)
        ∙ ap (λ (k : ℕ). get_or (put_row 64 2 8 (back_of m) (put_row 0 6 8 (front_of m) zs)) k 0) d
        ∙ put_row-at 64 2 8 (back_of m) (put_row 0 6 8 (front_of m) zs) (omega (arith, length-put_row 0 6 8 (front_of m) zs)) ((q - 64) / 8) (omega arith) ((q - 64) % 8) (omega arith)

-- any other stays
put_machine-else : (m : Machine) (xs : List ℕ) (q : ℕ) → (48 ≤ q) × ((q < 64) ⊎ (80 ≤ q)) → get_or (put_machine m xs) q 0 ≡ get_or xs q 0
put_machine-else m xs q h = put_machine-out m xs q (λ x. omega (arith, h.0, x.1)) (λ x. apart h.1 x)
  where
    apart : (q < 64) ⊎ (80 ≤ q) → In 64 16 q → ⊥
    apart (inl l) x = omega (arith, x.0)
    apart (inr l) x = omega (arith, x.1)

pub put_machine-over : (m m' : Machine) (xs : List ℕ) → length xs ≡ machine_bytes → put_machine m (put_machine m' xs) ≡ put_machine m xs
put_machine-over m m' xs e =
    let ys : List ℕ = put_machine m' xs in
    let long : length ys ≡ length xs = length-put_machine m' xs in
    ext_get_or 0 (put_machine m ys) (put_machine m xs) (length-put_machine m ys ∙ long ∙ sym (length-put_machine m xs)) (λ q l. at q (ours-or q))
  where
    at : (q : ℕ) → Ours q ⊎ ((48 ≤ q) × ((q < 64) ⊎ (80 ≤ q))) → get_or (put_machine m (put_machine m' xs)) q 0 ≡ get_or (put_machine m xs) q 0
    at q (inl h) = put_machine-at m (put_machine m' xs) xs (length-put_machine m' xs ∙ e) e q h
    at q (inr h) = put_machine-else m (put_machine m' xs) q h ∙ put_machine-else m' xs q h ∙ sym (put_machine-else m xs q h)

-- numbers and ranges fill a block
pub block-fills : (m : Machine) (rs : List Range) (xs ys : List ℕ) → length xs ≡ machine_bytes → length ys ≡ machine_bytes
    → put_seals rs (put_machine m xs) ≡ put_seals rs (put_machine m ys)
block-fills m rs xs ys ex ey =
    let lx : length (put_machine m xs) ≡ machine_bytes = length-put_machine m xs ∙ ex in
    let ly : length (put_machine m ys) ≡ machine_bytes = length-put_machine m ys ∙ ey in
    ext_get_or 0 (put_seals rs (put_machine m xs)) (put_seals rs (put_machine m ys))
    (length-put_seals rs (put_machine m xs) ∙ lx ∙ sym (length-put_seals rs (put_machine m ys) ∙ ly)) (λ q l. at lx ly q (omega (arith, length-put_seals rs (put_machine m xs), lx)) (ours-or q))
  where
    at : length (put_machine m xs) ≡ machine_bytes → length (put_machine m ys) ≡ machine_bytes → (q : ℕ) → q < machine_bytes → Ours q ⊎ ((48 ≤ q) × ((q < 64) ⊎ (80 ≤ q)))
        → get_or (put_seals rs (put_machine m xs)) q 0 ≡ get_or (put_seals rs (put_machine m ys)) q 0
    at lx ly q l (inl h) = put_seals-out rs (put_machine m xs) q h ∙ put_machine-at m xs ys ex ey q h ∙ sym (put_seals-out rs (put_machine m ys) q h)
    at lx ly q l (inr h) = put_seals-in rs (put_machine m xs) (put_machine m ys) lx ly q h.0 h.1 l

-- in either order
pub read-fills : (m : Machine) (rs : List Range) (xs ys : List ℕ) → length xs ≡ machine_bytes → length ys ≡ machine_bytes
    → put_machine m (put_seals rs xs) ≡ put_machine m (put_seals rs ys)
read-fills m rs xs ys ex ey =
    ext_get_or 0 (put_machine m (put_seals rs xs)) (put_machine m (put_seals rs ys))
    (length-put_machine m (put_seals rs xs) ∙ lx ∙ sym (length-put_machine m (put_seals rs ys) ∙ ly)) (λ q l. at q (omega (arith, length-put_machine m (put_seals rs xs), lx)) (ours-or q))
  where
    lx : length (put_seals rs xs) ≡ machine_bytes
    lx = length-put_seals rs xs ∙ ex

    ly : length (put_seals rs ys) ≡ machine_bytes
    ly = length-put_seals rs ys ∙ ey

    at : (q : ℕ) → q < machine_bytes → Ours q ⊎ ((48 ≤ q) × ((q < 64) ⊎ (80 ≤ q))) → get_or (put_machine m (put_seals rs xs)) q 0 ≡ get_or (put_machine m (put_seals rs ys)) q 0
    at q l (inl h) = put_machine-at m (put_seals rs xs) (put_seals rs ys) lx ly q h
    at q l (inr h) = put_machine-else m (put_seals rs xs) q h ∙ put_seals-in rs xs ys ex ey q h.0 h.1 l ∙ sym (put_machine-else m (put_seals rs ys) q h)

-- whatever is written, numbers of 64 bits are read back
pub put_machine-words : (m : Machine) (xs : List ℕ) → length xs ≡ machine_bytes → Words (machine_of (put_machine m xs))
unfolding machine_of
put_machine-words m xs e = record {
  rlen = first 0 (omega arith);
  mlen = first 1 (omega arith);
  mtype = first 2 (omega arith);
  tile-m = first 3 (omega arith);
  tile-k = first 4 (omega arith);
  tile-n = first 5 (omega arith);
  rule = second 0 (omega arith);
  elen = second 1 (omega arith);
}
  where
    front : List ℕ
    front = put_row 0 6 8 (front_of m) xs

    first : (j : ℕ) → j < 6 → get_le (put_machine m xs) (0 + j * 8) 8 < 2 ^ 64
    first j l =
        let v : get_le (put_machine m xs) (0 + j * 8) 8 ≡ front_of m j % 256 ^ 8 =
        ap (λ (ys : List ℕ). get_le ys (0 + j * 8) 8) (put_machine-rows m xs)
        ∙ le-cong (put_row 64 2 8 (back_of m) front) front (0 + j * 8) (0 + j * 8) 8 (λ i n. put_row-out 64 2 8 (back_of m) front (0 + j * 8 + i) (λ x. omega (arith, x.0)))
        ∙ le-put_row 0 6 8 (front_of m) xs (omega arith) j l in
        omega (arith, v)

    second : (j : ℕ) → j < 2 → get_le (put_machine m xs) (64 + j * 8) 8 < 2 ^ 64
    second j l =
        let v : get_le (put_machine m xs) (64 + j * 8) 8 ≡ back_of m j % 256 ^ 8 =
        ap (λ (ys : List ℕ). get_le ys (64 + j * 8) 8) (put_machine-rows m xs)
        ∙ le-put_row 64 2 8 (back_of m) front (omega (arith, length-put_row 0 6 8 (front_of m) xs)) j l in
        omega (arith, v)

-- ---- a run's block

pub put_run-over : (R R' : Run) (xs : List ℕ) → length xs ≡ run_bytes → put_run R (put_run R' xs) ≡ put_run R xs
unfolding put_run put_numbers
put_run-over R R' xs e = fills 20 (λ j. get_or (numbers_of_run R) j 0) (put_run R' xs) xs (length-put_run R' xs ∙ e) e
