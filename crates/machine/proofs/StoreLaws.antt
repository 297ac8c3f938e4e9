-- Rows that share no byte, and what a store of such rows leaves.
use Rattle.numbers.proofs.Kit.{◌≡◌, refl, sym, ap, ◌∙◌, subst, inl, inr, Bool, true, false, not, cond, List, [], ◌∷◌, ℕ, zero, suc, ◌+◌, ◌*◌, ◌-◌, ◌/◌, ◌%◌}
use Rattle.numbers.proofs.Kit.{◌≤◌, ◌<◌, not-suc-le-zero, le_of_suc-le-suc, mod-lt, div-add-mod', div-lt_iff_lt-mul, eq-zero-or-pos, mul-zero, mul-pos}
use Rattle.numbers.proofs.Kit.{mul-le-mul_right, arith, ltb, length, get_or, List·getD-eq-default, ext_get_or, pos, le-ltb, ltb-true, ltb-false}
use Rattle.numbers.specs.Tile.{byte_of, put_tile, In}
use Rattle.numbers.proofs.TileLaws.{put_tile-at, put_tile-out, length-put_tile}
use Rattle.numbers.proofs.BlockLaws.{le-or-lt}
use Rattle.machine.specs.Tests.{all, within}
use Rattle.machine.specs.declared.Form.{Form}
use Rattle.machine.specs.declared.Matrix.{Matrix}
use Rattle.machine.specs.Geometry.{Parameters, State, register_at}
use Rattle.machine.specs.Operation.{Operation, element, placed, tile_rows, tile_cols, memory_rows, memory_cols}
use Rattle.machine.specs.Meanings.{memory_after, checks}
use Rattle.machine.proofs.CheckLaws.{Passed}
use Rattle.machine.proofs.MemoryLaws.{inside-at}
use Rattle.machine.specs.Memory.{row_z, row_at, misses, distinct, row_with, stored_byte, anew, stored}
use Rattle.machine.proofs.TestLaws.{all_true, all-at, not_within, within-not, within_in, in_within, first-none, first_passes, none_passes, false-true}

without : (p n q : ℕ) → ¬ In p n q → within p n q ≡ false
without p n q h = go (within p n q) refl
  where
    go : (t : Bool) → within p n q ≡ t → t ≡ false
    go true e = absurd (h (within_in p n q e))
    go false e = refl

-- ---- rows that share no byte

module _ (at : ℕ → ℕ) (rows n : ℕ) where
  pub distinct-at : distinct at rows n ≡ true → (i k q : ℕ) → i < k → k < rows → In (at i) n q → ¬ In (at k) n q
  unfolding distinct misses
  distinct-at h i k q l l' x =
      let e : at i + (q - at i) ≡ q = omega arith in
      subst (λ (z : ℕ). ¬ In (at k) n z) e (within-not (at k) n (at i + (q - at i))
      (all-at n (λ b. not (within (at k) n (at i + b)))
      (all-at k (λ i. misses (within (at k) n) (at i) n)
      (all-at rows (λ k. all k (λ i. misses (within (at k) n) (at i) n)) h k l') i l) (q - at i) (omega arith)))

  pub at-distinct : ((i k q : ℕ) → i < k → k < rows → In (at i) n q → ¬ In (at k) n q) → distinct at rows n ≡ true
  unfolding distinct misses
  at-distinct h =
      all_true rows (λ k. all k (λ i. misses (within (at k) n) (at i) n)) (λ k l.
      all_true k (λ i. misses (within (at k) n) (at i) n) (λ i l'.
      all_true n (λ b. not (within (at k) n (at i + b))) (λ b l''. not_within (at k) n (at i + b) (h i k (at i + b) l' l (omega arith)))))

-- ---- each byte anew

length-anew : (f : ℕ → ℕ → ℕ) (p : ℕ) (xs : List ℕ) → length (anew f p xs) ≡ length xs
length-anew f p [] = refl
length-anew f p (x ∷ xs) = ap suc (length-anew f (suc p) xs)

get_d-anew : (f : ℕ → ℕ → ℕ) (p : ℕ) (xs : List ℕ) (q : ℕ) → q < length xs → get_or (anew f p xs) q 0 ≡ f (p + q) (get_or xs q 0)
get_d-anew f p [] q l = absurd (not-suc-le-zero l)
get_d-anew f p (x ∷ xs) zero l = ap (λ (r : ℕ). f r x) (omega arith)
get_d-anew f p (x ∷ xs) (suc q) l = get_d-anew f (suc p) xs q (le_of_suc-le-suc l) ∙ ap (λ (r : ℕ). f r (get_or xs q 0)) (omega arith)

-- ---- rows stored

module _ (at : ℕ → ℕ) (rows cols w : ℕ) (value : ℕ → ℕ → ℕ) (mem : List ℕ) where
  pub length-stored : length (stored at rows cols w value mem) ≡ length mem
  unfolding stored
  length-stored = length-anew (stored_byte at rows cols w value) 0 mem

  byte-stored : (q : ℕ) → q < length mem → get_or (stored at rows cols w value mem) q 0 ≡ stored_byte at rows cols w value q (get_or mem q 0)
  unfolding stored
  byte-stored q l = get_d-anew (stored_byte at rows cols w value) 0 mem q l ∙ ap (λ (r : ℕ). stored_byte at rows cols w value r (get_or mem q 0)) (omega arith)

  -- a byte that is in no row stays
  pub stored-out : (q : ℕ) → ((i : ℕ) → i < rows → ¬ In (at i) (cols * w) q) → get_or (stored at rows cols w value mem) q 0 ≡ get_or mem q 0
  stored-out q h = elim (le-or-lt (length mem) q) [
    | inl g ↦ List·getD-eq-default (stored at rows cols w value mem) 0 (omega (arith, length-stored)) ∙ sym (List·getD-eq-default mem 0 g)
    | inr g ↦ byte-stored q g ∙ kept
  ]
    where
      kept : stored_byte at rows cols w value q (get_or mem q 0) ≡ get_or mem q 0
      kept = rw (first-none rows (λ i. within (at i) (cols * w) q) (λ i l. without (at i) (cols * w) q (h i l)), le-ltb rows rows (omega arith))

  -- a byte of row i, where no later row has it, after a loop over the rows
  put_byte : (q i : ℕ) → i < rows → at i + cols * w ≤ length mem → In (at i) (cols * w) q → ((k : ℕ) → k < rows → i < k → ¬ In (at k) (cols * w) q)
      → get_or (put_tile at rows cols w value mem) q 0 ≡ byte_of (value i ((q - at i) / w)) ((q - at i) % w)
  put_byte q i l ends x later =
      let b : ℕ = q - at i in
      let some : zero < w = elim (eq-zero-or-pos w) [ inl z ↦ absurd (omega (arith, ap (λ (v : ℕ). cols * v) z, mul-zero cols)) | inr g ↦ g ] in
      let d : b / w * w + b % w ≡ b = div-add-mod' b w in
      let e : at i + b / w * w + b % w ≡ q = omega arith in
      subst (λ (r : ℕ). get_or (put_tile at rows cols w value mem) r 0 ≡ byte_of (value i (b / w)) (b % w)) e
      (put_tile-at at rows cols w value mem i l ends (b / w) ((div-lt_iff_lt-mul {k = w} {x = b} {y = cols} some).1 (omega arith)) (b % w) (mod-lt b some)
      (λ k l' g. subst (λ (r : ℕ). ¬ In (at k) (cols * w) r) (sym e) (later k l' g)))

  -- it is what a loop over the rows leaves, upward as code does it, where no two share a byte and they lie in memory
  pub stored-puts : distinct at rows (cols * w) ≡ true → ((i : ℕ) → i < rows → zero < cols * w → at i + cols * w ≤ length mem)
      → stored at rows cols w value mem ≡ put_tile at rows cols w value mem
  stored-puts d ends =
      ext_get_or 0 (stored at rows cols w value mem) (put_tile at rows cols w value mem) (length-stored ∙ sym (length-put_tile at rows cols w value mem))
      (λ q l. let g : q < length mem = omega (arith, length-stored) in byte-stored q g ∙ same q (ltb (row_with at rows (cols * w) q) rows) refl)
    where
      same : (q : ℕ) (t : Bool) → ltb (row_with at rows (cols * w) q) rows ≡ t
          → cond t (byte_of (value (row_with at rows (cols * w) q) ((q - at (row_with at rows (cols * w) q)) / w)) ((q - at (row_with at rows (cols * w) q)) % w)) (get_or mem q 0)
          ≡ get_or (put_tile at rows cols w value mem) q 0
      same q true e =
          let i : ℕ = row_with at rows (cols * w) q in
          let l : i < rows = ltb-true i rows e in
          let x : In (at i) (cols * w) q = within_in (at i) (cols * w) q (first_passes rows (λ i. within (at i) (cols * w) q) l) in
          sym (put_byte q i l (ends i l (omega arith)) x (λ k l' g. distinct-at at rows (cols * w) d i k q g l' x))
      same q false e =
          sym (put_tile-out at rows cols w value mem q (λ i l x. false-true
          (sym (none_passes rows (λ i. within (at i) (cols * w) q) (ltb-false (row_with at rows (cols * w) q) rows e) i l) ∙ in_within (at i) (cols * w) q x)))

-- ---- a store that is accepted

module _ (M : Parameters) (isSealed : ℕ → Bool) (st : State) (mem : List ℕ) (f : Form) (k : Matrix) (r w base stride : ℕ) where
  abbrev rows : ℕ
  rows = memory_rows f (tile_rows st k) (tile_cols st k)

  abbrev cols : ℕ
  cols = memory_cols f (tile_rows st k) (tile_cols st k)

  abbrev at : ℕ → ℕ
  at = row_at base stride

  abbrev value : ℕ → ℕ → ℕ
  value = placed f (element st.regs (register_at M k r) w)

  abbrev after : List ℕ
  after = memory_after M (Operation.store f k r w base stride) st mem

  module _ (p : Passed (checks M isSealed (Operation.store f k r w base stride) st mem)) where
    pub store-lies : (i : ℕ) → i < rows → zero < cols * w → (row_z base stride i ≡ pos (at i)) × (at i + cols * w ≤ length mem)
    store-lies i l some = inside-at (length mem) base stride rows (cols * w) p.1.1.1.1.1.0 some i l

    pub store-ends : (i : ℕ) → i < rows → zero < cols * w → at i + cols * w ≤ length mem
    store-ends i l some = (store-lies i l some).1

    pub store_apart : (i j q : ℕ) → i < j → j < rows → In (at i) (cols * w) q → ¬ In (at j) (cols * w) q
    store_apart = distinct-at at rows (cols * w) p.1.1.1.1.1.1.0

    pub store-puts : after ≡ put_tile at rows cols w value mem
    store-puts = stored-puts at rows cols w value mem p.1.1.1.1.1.1.0 store-ends

    pub store_byte : (i j b : ℕ) → i < rows → j < cols → b < w → get_or after (at i + j * w + b) 0 ≡ byte_of (value i j) b
    store_byte i j b l m n =
        let some : zero < cols * w = mul-pos (omega arith) (omega arith) in
        ap (λ (xs : List ℕ). get_or xs (at i + j * w + b) 0) store-puts
        ∙ put_tile-at at rows cols w value mem i l (store-ends i l some) j m b n
        (λ j' l' g. store_apart i j' (at i + j * w + b) g l' (omega (arith, mul-le-mul_right w m)))
