-- Ranges that are written over a block: what stood in its slots before is gone.
use Rattle.numbers.proofs.Kit.{◌≡◌, refl, sym, ap, ◌∙◌, ◌⊎◌, inl, inr, List, ℕ, zero, suc, ◌+◌, ◌-◌, ◌*◌, ◌/◌, ◌≤◌, ◌<◌, eq-or-lt_of_le, le_of_suc-le-suc}
use Rattle.numbers.proofs.Kit.{not-suc-le-zero, arith, length, get_or, ne_eqb}
use Rattle.numbers.specs.Upto.{upto}
use Rattle.numbers.specs.Tile.{byte_of, put_le, In}
use Rattle.numbers.proofs.UptoLaws.{upto-keeps}
use Rattle.numbers.proofs.TileLaws.{length-put_le, put_le-out, put_le-at}
use Rattle.numbers.proofs.BlockLaws.{le-or-lt}
use Rattle.machine.specs.Geometry.{Range, range}
use Rattle.unit_ranges.specs.Ranges.{block_bytes, slot_at, put_range, put_seals}
use Rattle.unit_ranges.proofs.PutLaws.{slot-fits, length-put_range, put_range-out}

-- a number that is written
number-fills : (p v : ℕ) (x y : List ℕ) → p + 8 ≤ length x → p + 8 ≤ length y → (q : ℕ) → In p 8 q → get_or (put_le p 8 v x) q 0 ≡ get_or (put_le p 8 v y) q 0
number-fills p v x y hx hy q h = at x hx ∙ sym (at y hy)
  where
    at : (z : List ℕ) → p + 8 ≤ length z → get_or (put_le p 8 v z) q 0 ≡ byte_of v (q - p)
    at z hz =
        let d : q ≡ p + (q - p) = omega (arith, h.0) in
        ap (λ (k : ℕ). get_or (put_le p 8 v z) k 0) d ∙ put_le-at p 8 v z hz (q - p) (omega (arith, h.0, h.1))

range-fills : (i : ℕ) (r : Range) (x y : List ℕ) → i < 8 → length x ≡ block_bytes → length y ≡ block_bytes → (q : ℕ) → In (slot_at i) 16 q
    → get_or (put_range i r x) q 0 ≡ get_or (put_range i r y) q 0
unfolding put_range
range-fills i r x y l hx hy q h = elim (le-or-lt (slot_at i + 8) q) [
  | inl k ↦
      number-fills (slot_at i + 8) r.size (first x) (first y)
      (omega (arith, slot-fits i l, length-put_le (slot_at i) 8 r.start x, hx)) (omega (arith, slot-fits i l, length-put_le (slot_at i) 8 r.start y, hy)) q (k, omega (arith, h.1))
  | inr k ↦
      put_le-out (slot_at i + 8) 8 r.size (first x) q (λ w. omega (arith, w.0, k))
      ∙ number-fills (slot_at i) r.start x y (omega (arith, slot-fits i l, hx)) (omega (arith, slot-fits i l, hy)) q (h.0, k)
      ∙ sym (put_le-out (slot_at i + 8) 8 r.size (first y) q (λ w. omega (arith, w.0, k)))
]
  where
    first : List ℕ → List ℕ
    first z = put_le (slot_at i) 8 r.start z

module _ (g : ℕ → Range) where
  abbrev puts : ℕ → List ℕ → List ℕ
  puts n z = upto n (λ i. put_range i (g i)) z

  length-puts : (n : ℕ) (z : List ℕ) → length (puts n z) ≡ length z
  length-puts n z = upto-keeps (λ ys. length ys ≡ length z) n (λ i. put_range i (g i)) z (λ i l ys e. length-put_range i (g i) ys ∙ e) refl

  -- a byte of one of the first slots, or one that was the same before
  abbrev Told : ℕ → (x y : List ℕ) → ℕ → Type 0
  Told n x y q = ((i : ℕ) × (i < n) × In (slot_at i) 16 q) ⊎ (get_or x q 0 ≡ get_or y q 0)

  fills : (n : ℕ) → n ≤ 8 → (x y : List ℕ) → length x ≡ block_bytes → length y ≡ block_bytes → (q : ℕ) → Told n x y q → get_or (puts n x) q 0 ≡ get_or (puts n y) q 0
  fills zero m x y hx hy q (inl h) = absurd (not-suc-le-zero h.1)
  fills zero m x y hx hy q (inr e) = e
  fills (suc n) m x y hx hy q t = go (inside n) (fills n (omega arith) x y hx hy q)
    where
      inside : (i : ℕ) → In (slot_at i) 16 q ⊎ (¬ In (slot_at i) 16 q)
      inside i = elim (le-or-lt (slot_at i) q) [
        | inl a ↦ elim (le-or-lt (slot_at i + 16) q) [ inl b ↦ inr (λ x. omega (arith, x.1, b)) | inr b ↦ inl (a, b) ]
        | inr a ↦ inr (λ x. omega (arith, x.0, a))
      ]

      less : ¬ In (slot_at n) 16 q → Told (suc n) x y q → Told n x y q
      less out (inl h) = elim (eq-or-lt_of_le (le_of_suc-le-suc h.1)) [
        | inl e ↦ absurd (out (rw (sym e) h.2))
        | inr k ↦ inl (h.0, k, h.2)
      ]
      less out (inr e) = inr e

      go : In (slot_at n) 16 q ⊎ (¬ In (slot_at n) 16 q) → (Told n x y q → get_or (puts n x) q 0 ≡ get_or (puts n y) q 0) → get_or (put_range n (g n) (puts n x)) q 0 ≡ get_or (put_range n (g n) (puts n y)) q 0
      go (inl w) ih = range-fills n (g n) (puts n x) (puts n y) (omega arith) (length-puts n x ∙ hx) (length-puts n y ∙ hy) q w
      go (inr w) ih = put_range-out n (g n) (puts n x) q w ∙ ih (less w t) ∙ sym (put_range-out n (g n) (puts n y) q w)

-- a byte of the ranges or of their number
pub put_seals-in : (rs : List Range) (x y : List ℕ) → length x ≡ block_bytes → length y ≡ block_bytes → (q : ℕ) → 48 ≤ q → (q < 64) ⊎ (80 ≤ q) → q < block_bytes
    → get_or (put_seals rs x) q 0 ≡ get_or (put_seals rs y) q 0
unfolding put_seals
put_seals-in rs x y hx hy q a h b =
    fills (λ i. get_or rs i (range 0 0)) 8 (omega arith) (numbered x) (numbered y)
    (length-put_le 80 8 (length rs) x ∙ hx) (length-put_le 80 8 (length rs) y ∙ hy) q (where-it-is h)
  where
    numbered : List ℕ → List ℕ
    numbered z = put_le 80 8 (length rs) z

    slot : (i : ℕ) → 72 + 16 * i ≤ q → q < 72 + 16 * i + 16 → 0 < i → In (slot_at i) 16 q
    slot i l k n = let e : slot_at i ≡ 72 + 16 * i = rw (ne_eqb i 0 (λ e. omega (arith, e, n))) in (omega (arith, e), omega (arith, e))

    where-it-is : (q < 64) ⊎ (80 ≤ q) → Told (λ i. get_or rs i (range 0 0)) 8 (numbered x) (numbered y) q
    where-it-is (inl l) = inl (0, omega arith, (a, l))
    where-it-is (inr l) = elim (le-or-lt 88 q) [
      | inl k ↦ inl ((q - 72) / 16, omega (arith, b), slot ((q - 72) / 16) (omega (arith, k)) (omega (arith, k)) (omega (arith, k)))
      | inr k ↦ inr (number-fills 80 (length rs) x y (omega (arith, hx)) (omega (arith, hy)) q (l, k))
    ]
