-- Laws of bytes and tiles.
use Rattle.numbers.proofs.Kit.{◌≡◌, refl, sym, ap, ◌∙◌, subst, List, ℕ, zero, suc, ◌+◌, ◌*◌, ◌/◌, ◌%◌, ◌^◌, ◌≤◌, ◌<◌, div-div-eq-div-mul, pow-suc}
use Rattle.numbers.proofs.Kit.{pow-succ', pow-zero, mod-one, mul-le-mul_right, one-le-pow, arith, ℕ_discrete, dec_lt, length, get_or, set, length-set}
use Rattle.numbers.proofs.Kit.{List·getD-eq-default, get_or-set_same, get_or-set_other, mod-mul}
use Rattle.numbers.proofs.UptoLaws.{upto-keeps, upto-makes, upto-cong}
use Rattle.numbers.specs.Tile.{get_le, byte_of, put_le, put_row, put_tile, In, mark_row, mark_tile}

-- ---- get_le

pub le-cong : (xs ys : List ℕ) (p q w : ℕ) → ((b : ℕ) → b < w → get_or xs (p + b) 0 ≡ get_or ys (q + b) 0) → get_le xs p w ≡ get_le ys q w
le-cong xs ys p q zero h = refl
le-cong xs ys p q (suc w) h = rw (le-cong xs ys p q w (λ b l. h b (omega arith)), h w (omega arith))

pub le_bytes : (xs : List ℕ) (p w v : ℕ) → ((b : ℕ) → b < w → get_or xs (p + b) 0 ≡ byte_of v b) → get_le xs p w ≡ v % 256 ^ w
le_bytes xs p zero v h = rw pow-zero (sym (mod-one v))
le_bytes xs p (suc w) v h =
    rw (le_bytes xs p w v (λ b l. h b (omega arith)), h w (omega arith), pow-succ' 256 w, mod-mul v {m = 256} {c = 256 ^ w} (omega arith) (one-le-pow w 256 (omega arith))) (omega arith)

-- ---- one number

pub length-put_le : (p w v : ℕ) (xs : List ℕ) → length (put_le p w v xs) ≡ length xs
unfolding put_le
length-put_le p w v xs = upto-keeps (λ ys. length ys ≡ length xs) w (λ b ys. set ys (p + b) (byte_of v b)) xs (λ i l ys e. length-set ys (p + i) (byte_of v i) ∙ e) refl

pub put_le-out : (p w v : ℕ) (xs : List ℕ) (q : ℕ) → ¬ In p w q → get_or (put_le p w v xs) q 0 ≡ get_or xs q 0
unfolding put_le
put_le-out p w v xs q h =
    upto-keeps (λ ys. get_or ys q 0 ≡ get_or xs q 0) w (λ b ys. set ys (p + b) (byte_of v b)) xs
    (λ i l ys e. get_or-set_other ys (p + i) q (byte_of v i) 0 (λ e'. h (omega arith)) ∙ e) refl

pub put_le-at : (p w v : ℕ) (xs : List ℕ) → p + w ≤ length xs → (b : ℕ) → b < w → get_or (put_le p w v xs) (p + b) 0 ≡ byte_of v b
unfolding put_le
put_le-at p w v xs f b l =
    upto-makes (λ ys. length ys ≡ length xs) (λ ys. get_or ys (p + b) 0 ≡ byte_of v b) w b (λ c ys. set ys (p + c) (byte_of v c)) xs l
    (λ i l' ys e. length-set ys (p + i) (byte_of v i) ∙ e)
    (λ ys e. get_or-set_same ys (p + b) (byte_of v b) 0 (omega arith))
    (λ i l' g ys e r. get_or-set_other ys (p + i) (p + b) (byte_of v i) 0 (omega arith) ∙ r)
    refl

-- ---- one row

module _ (p cols w : ℕ) (value : ℕ → ℕ) (xs : List ℕ) where
  pub length-put_row : length (put_row p cols w value xs) ≡ length xs
  unfolding put_row
  length-put_row = upto-keeps (λ ys. length ys ≡ length xs) cols (λ j ys. put_le (p + j * w) w (value j) ys) xs (λ j l ys e. length-put_le (p + j * w) w (value j) ys ∙ e) refl

  pub put_row-out : (q : ℕ) → ¬ In p (cols * w) q → get_or (put_row p cols w value xs) q 0 ≡ get_or xs q 0
  unfolding put_row
  put_row-out q h =
      upto-keeps (λ ys. get_or ys q 0 ≡ get_or xs q 0) cols (λ j ys. put_le (p + j * w) w (value j) ys) xs
      (λ j l ys e. put_le-out (p + j * w) w (value j) ys q (λ e'. h (omega (arith, mul-le-mul_right w l))) ∙ e) refl

  pub put_row-at : p + cols * w ≤ length xs → (j : ℕ) → j < cols → (b : ℕ) → b < w → get_or (put_row p cols w value xs) (p + j * w + b) 0 ≡ byte_of (value j) b
  unfolding put_row
  put_row-at f j l b m =
      upto-makes (λ ys. length ys ≡ length xs) (λ ys. get_or ys (p + j * w + b) 0 ≡ byte_of (value j) b) cols j (λ j ys. put_le (p + j * w) w (value j) ys) xs l
      (λ i l' ys e. length-put_le (p + i * w) w (value i) ys ∙ e)
      (λ ys e. put_le-at (p + j * w) w (value j) ys (omega (arith, mul-le-mul_right w l)) b m)
      (λ i l' g ys e r. put_le-out (p + i * w) w (value i) ys (p + j * w + b) (λ n. absurd (omega (arith, mul-le-mul_right w g))) ∙ r)
      refl

-- ---- a tile

module _ (at : ℕ → ℕ) (rows cols w : ℕ) (value : ℕ → ℕ → ℕ) (xs : List ℕ) where
  pub length-put_tile : length (put_tile at rows cols w value xs) ≡ length xs
  unfolding put_tile
  length-put_tile = upto-keeps (λ ys. length ys ≡ length xs) rows (λ i ys. put_row (at i) cols w (value i) ys) xs (λ i l ys e. length-put_row (at i) cols w (value i) ys ∙ e) refl

  -- a byte that is in no row stays
  pub put_tile-out : (q : ℕ) → ((i : ℕ) → i < rows → ¬ In (at i) (cols * w) q) → get_or (put_tile at rows cols w value xs) q 0 ≡ get_or xs q 0
  unfolding put_tile
  put_tile-out q h =
      upto-keeps (λ ys. get_or ys q 0 ≡ get_or xs q 0) rows (λ i ys. put_row (at i) cols w (value i) ys) xs
      (λ i l ys e. put_row-out (at i) cols w (value i) ys q (h i l) ∙ e) refl

  -- a byte of element (i, j) that is in no later row is that of the value
  pub put_tile-at : (i : ℕ) → i < rows → at i + cols * w ≤ length xs → (j : ℕ) → j < cols → (b : ℕ) → b < w
      → ((k : ℕ) → k < rows → i < k → ¬ In (at k) (cols * w) (at i + j * w + b))
      → get_or (put_tile at rows cols w value xs) (at i + j * w + b) 0 ≡ byte_of (value i j) b
  unfolding put_tile
  put_tile-at i l f j m b n later =
      upto-makes (λ ys. length ys ≡ length xs) (λ ys. get_or ys (at i + j * w + b) 0 ≡ byte_of (value i j) b) rows i (λ k ys. put_row (at k) cols w (value k) ys) xs l
      (λ k l' ys e. length-put_row (at k) cols w (value k) ys ∙ e)
      (λ ys e. put_row-at (at i) cols w (value i) ys (omega arith) j m b n)
      (λ k l' g ys e r. put_row-out (at k) cols w (value k) ys (at i + j * w + b) (later k l' g) ∙ r)
      refl

  -- where no later row shares a byte with it, element (i, j) is the value, cut to w bytes
  pub put_tile-le : (i : ℕ) → i < rows → at i + cols * w ≤ length xs → (j : ℕ) → j < cols
      → ((k : ℕ) → k < rows → i < k → (q : ℕ) → In (at i) (cols * w) q → ¬ In (at k) (cols * w) q)
      → get_le (put_tile at rows cols w value xs) (at i + j * w) w ≡ value i j % 256 ^ w
  put_tile-le i l f j m apart =
      le_bytes (put_tile at rows cols w value xs) (at i + j * w) w (value i j)
      (λ b n. put_tile-at i l f j m b n (λ k l' g. apart k l' g (at i + j * w + b) (omega (arith, mul-le-mul_right w m))))

  -- a number that shares no byte with any row stays
  pub put_tile-keeps : (p v : ℕ) → ((i : ℕ) → i < rows → (q : ℕ) → In p v q → ¬ In (at i) (cols * w) q) → get_le (put_tile at rows cols w value xs) p v ≡ get_le xs p v
  put_tile-keeps p v apart = le-cong (put_tile at rows cols w value xs) xs p p v (λ b l. put_tile-out (p + b) (λ i l'. apart i l' (p + b) (omega arith)))

-- only where the rows start counts
pub put_tile-rows : (at at' : ℕ → ℕ) (rows cols w : ℕ) (value : ℕ → ℕ → ℕ) (xs : List ℕ) → ((i : ℕ) → i < rows → at i ≡ at' i)
    → put_tile at rows cols w value xs ≡ put_tile at' rows cols w value xs
unfolding put_tile
put_tile-rows at at' rows cols w value xs h =
    upto-cong rows (λ i ys. put_row (at i) cols w (value i) ys) (λ i ys. put_row (at' i) cols w (value i) ys) xs
    (λ i l ys. ap (λ (p : ℕ). put_row p cols w (value i) ys) (h i l))

-- rows at equal distances, none longer than the distance, share no byte
pub pitched : (base pitch n : ℕ) → n ≤ pitch → (i k : ℕ) → i < k → (q : ℕ) → In (base + i * pitch) n q → ¬ In (base + k * pitch) n q
pitched base pitch n h i k l q a b = omega (arith, mul-le-mul_right pitch l)

-- ---- marks

pub length-mark_row : (p n : ℕ) (ms : List ℕ) → length (mark_row p n ms) ≡ length ms
unfolding mark_row
length-mark_row p n ms = upto-keeps (λ ys. length ys ≡ length ms) n (λ b ys. set ys (p + b) 1) ms (λ i l ys e. length-set ys (p + i) 1 ∙ e) refl

-- a mark stays
pub mark_row-keeps : (p n : ℕ) (ms : List ℕ) (q : ℕ) → get_or ms q 0 ≡ 1 → get_or (mark_row p n ms) q 0 ≡ 1
unfolding mark_row
mark_row-keeps p n ms q h = upto-keeps (λ ys. get_or ys q 0 ≡ 1) n (λ b ys. set ys (p + b) 1) ms (λ i l ys e. set-one ys (p + i) e) h
  where
    set-one : (ys : List ℕ) (r : ℕ) → get_or ys q 0 ≡ 1 → get_or (set ys r 1) q 0 ≡ 1
    set-one ys r e = elim (ℕ_discrete q r) [ yes e' ↦ at-r e' | no d ↦ get_or-set_other ys r q 1 0 d ∙ e ]
      where
        in-range : q < length ys
        in-range = elim (dec_lt q (length ys)) [ yes l ↦ l | no d ↦ out d ]
          where
            out : ¬ (q < length ys) → q < length ys
            out d = let z : ◌≡◌ {A = ℕ} 0 1 = sym (List·getD-eq-default ys 0 {n = q} (omega arith)) ∙ e in absurd (omega arith)

        at-r : q ≡ r → get_or (set ys r 1) q 0 ≡ 1
        at-r e' = subst (λ (i : ℕ). get_or (set ys i 1) q 0 ≡ 1) e' (get_or-set_same ys q 1 0 in-range)

pub mark_row-at : (p n : ℕ) (ms : List ℕ) → p + n ≤ length ms → (b : ℕ) → b < n → get_or (mark_row p n ms) (p + b) 0 ≡ 1
unfolding mark_row
mark_row-at p n ms f b l =
    upto-makes (λ ys. length ys ≡ length ms) (λ ys. get_or ys (p + b) 0 ≡ 1) n b (λ c ys. set ys (p + c) 1) ms l
    (λ i l' ys e. length-set ys (p + i) 1 ∙ e)
    (λ ys e. get_or-set_same ys (p + b) 1 0 (omega arith))
    (λ i l' g ys e r. get_or-set_other ys (p + i) (p + b) 1 0 (omega arith) ∙ r)
    refl

module _ (at : ℕ → ℕ) (rows n : ℕ) (ms : List ℕ) where
  pub length-mark_tile : length (mark_tile at rows n ms) ≡ length ms
  unfolding mark_tile
  length-mark_tile = upto-keeps (λ ys. length ys ≡ length ms) rows (λ i ys. mark_row (at i) n ys) ms (λ i l ys e. length-mark_row (at i) n ys ∙ e) refl

  pub mark_tile-keeps : (q : ℕ) → get_or ms q 0 ≡ 1 → get_or (mark_tile at rows n ms) q 0 ≡ 1
  unfolding mark_tile
  mark_tile-keeps q h = upto-keeps (λ ys. get_or ys q 0 ≡ 1) rows (λ i ys. mark_row (at i) n ys) ms (λ i l ys e. mark_row-keeps (at i) n ys q e) h

  pub mark_tile-at : (i : ℕ) → i < rows → at i + n ≤ length ms → (b : ℕ) → b < n → get_or (mark_tile at rows n ms) (at i + b) 0 ≡ 1
  unfolding mark_tile
  mark_tile-at i l f b m =
      upto-makes (λ ys. length ys ≡ length ms) (λ ys. get_or ys (at i + b) 0 ≡ 1) rows i (λ k ys. mark_row (at k) n ys) ms l
      (λ k l' ys e. length-mark_row (at k) n ys ∙ e)
      (λ ys e. mark_row-at (at i) n ys (omega arith) b m)
      (λ k l' g ys e r. mark_row-keeps (at k) n ys (at i + b) r)
      refl

-- ---- bounds

pub le-lt : (xs : List ℕ) → ((q : ℕ) → get_or xs q 0 < 256) → (p w : ℕ) → get_le xs p w < 256 ^ w
le-lt xs h p zero = rw pow-zero (omega arith)
le-lt xs h p (suc w) = rw (pow-succ' 256 w) (omega (arith, le-lt xs h p w, mul-le-mul_right (256 ^ w) (h (p + w))))

-- the rest of a number, byte after byte
pub rest-next : (v b : ℕ) → v / 256 ^ b / 256 ≡ v / 256 ^ suc b
rest-next v b = div-div-eq-div-mul v (256 ^ b) 256 ∙ ap (λ (x : ℕ). v / x) (sym (pow-suc 256 b))
