-- The ranges of an image into a block: one at a time.
use Rattle.numbers.proofs.Kit.{◌≡◌, refl, sym, ap, ap₂, ◌∙◌, subst, List, [], ◌∷◌, ℕ, zero, suc, ◌+◌, ◌-◌, ◌≤◌, ◌<◌, arith, length, get_or}
use Rattle.numbers.proofs.Kit.{List·getD-eq-default}
use Rattle.numbers.specs.Upto.{upto}
use Rattle.numbers.proofs.UptoLaws.{upto-cong}
use Rattle.numbers.proofs.PutLaws.{upto_add}
use Rattle.numbers.specs.Tile.{put_le}
use Rattle.machine.specs.Geometry.{Range, range}
use Rattle.unit_ranges.specs.Ranges.{put_range, put_seals}
use Rattle.image.specs.Images.{Seals}
use Rattle.image_header.specs.Fields.Pair.{Both, PairBad}
use Rattle.image_header.specs.Fields.Place.{PlaceBad}
use Rattle.image_header.specs.Fields.{Pair, range_at, past, ranges_end, ranges_found}
use Rattle.image_header.proofs.HeadLaws.{ranges-bad, ranges-next, found-next}
use Rattle.image_read.specs.Parts.{Ends, put_ranges}

module _ (s : List ℕ) (count i at : ℕ) where
  -- ranges that stand there are not at fault
  pub stands-not : (p : ℕ) → i < count → range_at s at ≡ PairBad p → Ends (ranges_end s (count - i) at) → ⊥
  stands-not p l e k = subst Ends (sym (ranges-bad s (count - i) at p (omega arith) e)) k

  module _ (st ln a : ℕ) (l : i < count) (e : range_at s at ≡ Both st ln a) where
    less : count - i - 1 ≡ count - (i + 1)
    less = omega arith

    pub stands-next : Ends (ranges_end s (count - i) at) → Ends (ranges_end s (count - (i + 1)) a)
    stands-next k = subst (λ (x : ℕ). Ends (ranges_end s x a)) less (subst Ends (sym (ranges-next s (count - i) at st ln a (omega arith) e)) k)

    pub put_next : (block : List ℕ) → put_ranges (i + 1) (ranges_found s (count - (i + 1)) a) (put_range i (range st ln) block) ≡ put_ranges i (ranges_found s (count - i) at) block
    unfolding put_ranges
    put_next block =
        ap₂ (λ (x y : ℕ). put_ranges x (ranges_found s y a) (put_range i (range st ln) block)) {x = i + 1} {y = suc i} (omega arith) (sym less)
        ∙ ap (λ (rs : Seals). put_ranges i rs block) (sym (found-next s (count - i) at st ln a (omega arith) e))

  pub put-none : count ≤ i → (block : List ℕ) → block ≡ put_ranges i (ranges_found s (count - i) at) block
  unfolding put_ranges ranges_found
  put-none l block = ap (λ (x : ℕ). put_ranges i (ranges_found s x at) block) {x = 0} {y = count - i} (omega arith)

pub found-many : (s : List ℕ) (n at : ℕ) → Ends (ranges_end s n at) → length (ranges_found s n at) ≡ n
unfolding ranges_end ranges_found
found-many s zero at k = refl
found-many s (suc n) at k = go (range_at s at) k (found-many s n)
  where
    go : (x : Pair) → Ends (past x PlaceBad λ start size a. ranges_end s n a) → ((a : ℕ) → Ends (ranges_end s n a) → length (ranges_found s n a) ≡ n)
        → length (past x (λ p. []) λ start size a. range start size ∷ ranges_found s n a) ≡ suc n
    go (Both st ln a) k rest = ap suc (rest a k)
    go (PairBad p) k rest = absurd k

-- ---- all parts of the block

module _ where
  -- ranges one after another, each from its place in the list
  puts : (rs : Seals) (i : ℕ) (block : List ℕ) → put_ranges i rs block ≡ upto (length rs) (λ j. put_range (i + j) (get_or rs j (range 0 0))) block
  unfolding put_ranges
  puts [] i block = refl
  puts (r ∷ rs) i block =
      puts rs (suc i) (put_range i r block)
      ∙ upto-cong (length rs) (λ j. put_range (suc i + j) (get_or rs j (range 0 0))) (λ j. put_range (i + (1 + j)) (get_or (r ∷ rs) (1 + j) (range 0 0))) (put_range i r block)
      (λ j l ys. ap (λ (p : ℕ). put_range p (get_or rs j (range 0 0)) ys) {x = suc i + j} {y = i + (1 + j)} (omega arith)
      ∙ ap (λ (k : ℕ). put_range (i + (1 + j)) (get_or (r ∷ rs) k (range 0 0)) ys) {x = suc j} {y = 1 + j} (omega arith))
      ∙ ap (upto (length rs) (λ j. put_range (i + (1 + j)) (get_or (r ∷ rs) (1 + j) (range 0 0)))) (ap (λ (p : ℕ). put_range p r block) {x = i} {y = i + 0} (omega arith))
      ∙ sym (upto_add 1 (length rs) (λ j. put_range (i + j) (get_or (r ∷ rs) j (range 0 0))) block)
      ∙ ap (λ (n : ℕ). upto n (λ j. put_range (i + j) (get_or (r ∷ rs) j (range 0 0))) block) {x = 1 + length rs} {y = suc (length rs)} (omega arith)

  pub seals-put : (rs : Seals) (n : ℕ) → n ≤ 8 → length rs ≡ n → (block : List ℕ)
      → upto (8 - n) (λ i. put_range (n + i) (range 0 0)) (put_ranges 0 rs (put_le 80 8 n block)) ≡ put_seals rs block
  unfolding put_seals
  seals-put rs n l e block =
      ap (upto (8 - n) (λ i. put_range (n + i) (range 0 0)))
      (puts rs 0 (put_le 80 8 n block)
      ∙ ap (λ (k : ℕ). upto k (λ j. put_range (0 + j) (at j)) (put_le 80 8 n block)) e
      ∙ upto-cong n (λ j. put_range (0 + j) (at j)) (λ j. put_range j (at j)) (put_le 80 8 n block) (λ j m ys. ap (λ (p : ℕ). put_range p (at j) ys) (omega arith)))
      ∙ upto-cong (8 - n) (λ i. put_range (n + i) (range 0 0)) (λ i. put_range (n + i) (at (n + i))) (upto n (λ j. put_range j (at j)) (put_le 80 8 n block))
      (λ i m ys. ap (λ (r : Range). put_range (n + i) r ys) (sym (List·getD-eq-default rs (range 0 0) (omega (arith, e)))))
      ∙ sym (upto_add n (8 - n) (λ j. put_range j (at j)) (put_le 80 8 n block))
      ∙ ap (λ (k : ℕ). upto k (λ j. put_range j (at j)) (put_le 80 8 n block)) {x = n + (8 - n)} {y = 8} (omega (arith, l))
      ∙ ap (λ (k : ℕ). upto 8 (λ j. put_range j (at j)) (put_le 80 8 k block)) (sym e)
    where
      at : ℕ → Range
      at j = get_or rs j (range 0 0)
