-- For code on elements: only the low bytes of a value are stored, and sign extension.
use Rattle.numbers.proofs.Kit.{◌≡◌, refl, sym, ap, ◌∙◌, subst, subst⁻¹, Bool, true, false, cond, List, ℕ, zero, suc, ◌+◌, ◌*◌, ◌-◌, ◌%◌, ◌^◌, ◌≤◌}
use Rattle.numbers.proofs.Kit.{◌<◌, mod-eq_of_lt, one-le-pow, mul-add-mod_self_left, lt_of_le_of_lt, mul-le-mul_left, mul-lt-mul_of_pos_right}
use Rattle.numbers.proofs.Kit.{le_of_lt, arith, add-one, ltb, ℤ, pos, negsuc, pow_pos, pow-add, ltb-true, ltb-false, lt-ltb, le-ltb}
use Rattle.numbers.specs.Tile.{get_le, put_le, put_row, put_tile, In}
use Rattle.numbers.proofs.TileLaws.{put_tile-keeps}
use Rattle.numbers.specs.Reduce.{signed, reduce}
use Rattle.numbers.proofs.ReduceLaws.{widened, narrowed}
use Rattle.numbers.proofs.PutLaws.{put_row-low}

pub pow-256 : (w : ℕ) → zero < 256 ^ w
pow-256 w = one-le-pow w 256 (omega arith)

-- the product of two numbers of k bits has at most 2k bits
pub mul-below : (k : ℕ) {a b : ℕ} → a < 2 ^ k → b < 2 ^ k → a * b < 2 ^ (k + k)
mul-below k {a} {b} ha hb =
    subst⁻¹ (λ (n : ℕ). a * b < n) (pow-add 2 k k)
    (lt_of_le_of_lt (mul-le-mul_left a (le_of_lt hb)) (mul-lt-mul_of_pos_right ha (pow_pos k)))

-- ---- only the low w bytes of a value are stored

module _ (w : ℕ) where
  -- equal values, equal rows
  pub put_row-cong : (p cols : ℕ) (f g : ℕ → ℕ) (xs : List ℕ) → ((j : ℕ) → j < cols → f j ≡ g j) → put_row p cols w f xs ≡ put_row p cols w g xs
  put_row-cong p cols f g xs e = put_row-low w p cols f g xs (λ j l. ap (λ (v : ℕ). v % 256 ^ w) (e j l))

  -- a turn of the loop that writes a row
  pub put_row-next : (d xs out : List ℕ) (f : ℕ → ℕ) (p j at v : ℕ) → xs ≡ put_row p j w f d → at ≡ p + j * w → v ≡ f j → out ≡ put_le at w v xs
      → out ≡ put_row p (j + 1) w f d
  unfolding put_row
  put_row-next d xs out f p j at v e ea ev eo = eo ∙ rw (e, ea, ev, add-one)

-- ---- a tile written row by row, each row from what the rows before have left

module _ (at : ℕ → ℕ) (cols w : ℕ) (value : ℕ → ℕ → ℕ) (s r : List ℕ) (i : ℕ) (er : r ≡ put_tile at i cols w value s) where
  -- a number that shares no byte with an earlier row is still that of the entry
  pub still : (p v : ℕ) → ((h : ℕ) → h < i → (q : ℕ) → In p v q → In (at h) (cols * w) q → ⊥) → get_le r p v ≡ get_le s p v
  still p v apart = ap (λ (l : List ℕ). get_le l p v) er ∙ put_tile-keeps at i cols w value s p v apart

  -- a row of the values of the entry is the tile's next row
  pub tile-turn : (p : ℕ) (g : ℕ → ℕ) (out : List ℕ) → p ≡ at i → out ≡ put_row p cols w g r → ((j : ℕ) → j < cols → g j ≡ value i j)
      → out ≡ put_tile at (i + 1) cols w value s
  unfolding put_tile
  tile-turn p g out ep eo e = eo ∙ put_row-cong w p cols g (value i) r e ∙ rw (er, ep, add-one)

-- ---- wider and narrower residues

-- sign extension as the code has it: a wrapping add at the modulus M of the residue moved up by half of the modulus h + h
pub extended : (h M x : ℕ) → x < h + h → h + h ≤ M → ((x + h) % (h + h) + (M - h)) % M ≡ reduce M (signed (h + h) x)
extended h M x l k = go (ltb (x + x) (h + h)) refl ∙ sym (widened (h + h) M x l k)
  where
    go : (t : Bool) → ltb (x + x) (h + h) ≡ t → ((x + h) % (h + h) + (M - h)) % M ≡ cond (ltb (x + x) (h + h)) x (M - (h + h - x))
    go true e =
        let b = ltb-true (x + x) (h + h) e in
        let f : x + h + (M - h) ≡ M * 1 + x = omega arith in
        rw (e, mod-eq_of_lt {n = x + h} {m = h + h} (omega arith), f) (mul-add-mod_self_left M 1 x ∙ mod-eq_of_lt {n = x} {m = M} (omega arith))
    go false e =
        let b = ltb-false (x + x) (h + h) e in
        let f : x + h ≡ (h + h) * 1 + (x - h) = omega arith in
        let g : (x + h) % (h + h) ≡ x - h = ap (λ (n : ℕ). n % (h + h)) f ∙ mul-add-mod_self_left (h + h) 1 (x - h) ∙ mod-eq_of_lt {n = x - h} {m = h + h} (omega arith) in
        rw (e, g) (mod-eq_of_lt {n = x - h + (M - h)} {m = M} (omega arith) ∙ omega arith)

-- a wider residue stands for the same signed number
pub signed-widened : (n m x : ℕ) → x < n → n ≤ m → signed m (reduce m (signed n x)) ≡ signed n x
signed-widened n m x h l = ap (signed m) (widened n m x h l) ∙ go (ltb (x + x) n) refl
  where
    go : (t : Bool) → ltb (x + x) n ≡ t → signed m (cond t x (m - (n - x))) ≡ cond t (pos x) (negsuc (n - suc x))
    go true e =
        let b = ltb-true (x + x) n e in
        rw (lt-ltb (x + x) m (omega arith))
    go false e =
        let b = ltb-false (x + x) n e in
        rw (le-ltb (m - (n - x) + (m - (n - x))) m (omega arith)) (ap negsuc (omega arith))

-- a residue at v bytes, cut to w bytes
pub cut : (w v : ℕ) → w ≤ v → (z : ℤ) → reduce (256 ^ v) z % 256 ^ w ≡ reduce (256 ^ w) z
cut w v h z =
    let e : w + (v - w) ≡ v = omega arith in
    subst (λ (m : ℕ). reduce m z % 256 ^ w ≡ reduce (256 ^ w) z) (sym (pow-add 256 w (v - w)) ∙ ap (λ (n : ℕ). 256 ^ n) e)
    (narrowed (256 ^ w) (256 ^ (v - w)) (pow-256 w) (pow-256 (v - w)) z)
