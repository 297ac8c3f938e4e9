-- For code that writes bytes: loops over bytes as loops over elements, the bytes of a value that count, a row writer that is lent a
-- part, and one row more of a tile.
use Rattle.numbers.proofs.Kit.{◌≡◌, refl, sym, ap, ◌∙◌, subst, ⊎_elim, List, [], ◌++◌, append-nil, ℕ, zero, suc, ◌+◌, ◌*◌, ◌-◌, ◌/◌, ◌%◌, ◌^◌, ◌≤◌}
use Rattle.numbers.proofs.Kit.{◌<◌, zero-mul, suc-mul, mul-le-mul_right, mod-lt, mod-eq_of_lt, mod-mod_of_dvd, dvd-mul_right, add-mul-div_right}
use Rattle.numbers.proofs.Kit.{add-mul-mod_self_right, div-eq_of_lt, div-eq_of_lt-le, one-le-pow, pow-suc, pow-succ', add-zero, zero-add, add-suc}
use Rattle.numbers.proofs.Kit.{add_assoc, eq-or-lt_of_le, le_of_suc-le-suc, arith, add-one, length, get_or, set, take, drop, length-take, length-drop}
use Rattle.numbers.proofs.Kit.{drop_of_length-le, take-append-drop, get_or-take, get_or-drop, take_all, length-take-le, mod-mul, pow-add}
use Rattle.numbers.specs.Upto.{upto}
use Rattle.numbers.specs.Tile.{get_le, byte_of, put_le, put_row, put_tile, mark_row, mark_tile}
use Rattle.numbers.proofs.UptoLaws.{upto-cong, upto-keeps}
use Rattle.numbers.proofs.TileLaws.{le-lt}
use Rattle.numbers.proofs.PartLaws.{put_row-part, mark_row-past}

-- ---- loops

pub upto_add {ℓ} : {X : Type ℓ} (a b : ℕ) (f : ℕ → X → X) (x : X) → upto (a + b) f x ≡ upto b (λ i. f (a + i)) (upto a f x)
upto_add a zero f x = ap (λ (n : ℕ). upto n f x) (add-zero a)
upto_add a (suc b) f x = ap (λ (n : ℕ). upto n f x) (add-suc a b) ∙ ap (f (a + b)) (upto_add a b f x)

-- a loop in two parts, of which the first is k turns
pub upto_rest {ℓ} : {X : Type ℓ} (n k : ℕ) (f : ℕ → X → X) (x y z : X) → k ≤ n → y ≡ upto k f x → z ≡ upto (n - k) (λ i. f (k + i)) y → z ≡ upto n f x
upto_rest n k f x y z h e g =
    let whole : k + (n - k) ≡ n = omega arith in
    g ∙ ap (upto (n - k) (λ i. f (k + i))) e ∙ sym (upto_add k (n - k) f x) ∙ ap (λ (m : ℕ). upto m f x) whole

-- one loop over all bytes of a row is a loop over its elements
pub upto-elements {ℓ} : {X : Type ℓ} (cols w : ℕ) (f : ℕ → X → X) (g : ℕ → ℕ → X → X) (x : X)
    → ((j b : ℕ) → j < cols → b < w → (y : X) → f (j * w + b) y ≡ g j b y) → upto (cols * w) f x ≡ upto cols (λ j. upto w (g j)) x
upto-elements zero w f g x h = ap (λ (n : ℕ). upto n f x) (zero-mul w)
upto-elements (suc cols) w f g x h =
    ap (λ (n : ℕ). upto n f x) (suc-mul cols w) ∙ upto_add (cols * w) w f x
    ∙ upto-cong w (λ b. f (cols * w + b)) (g cols) (upto (cols * w) f x) (λ b l y. h cols b (omega arith) l y)
    ∙ ap (upto w (g cols)) (upto-elements cols w f g x (λ j b l l' y. h j b (omega arith) l' y))

-- ---- rows at equal distances

-- row i of n rows of p bytes ends by the rows' end
pub row_fits : (i n p : ℕ) → i < n → i * p + p ≤ n * p
row_fits i n p h = omega (arith, mul-le-mul_right p h, suc-mul i p)

pub next_row : (i p : ℕ) → (i + 1) * p ≡ i * p + p
next_row i p = rw add-one (suc-mul i p)

-- ---- the bytes of a value

-- a byte of a number that was read is the byte
pub le-byte : (xs : List ℕ) → ((q : ℕ) → get_or xs q 0 < 256) → (p w b : ℕ) → b < w → byte_of (get_le xs p w) b ≡ get_or xs (p + b) 0
le-byte xs h p zero b l = absurd (omega arith)
le-byte xs h p (suc w) b l = ⊎_elim top (λ g. lower g (le-byte xs h p w b g)) (eq-or-lt_of_le (le_of_suc-le-suc l))
  where
    top : b ≡ w → byte_of (get_le xs p (suc w)) b ≡ get_or xs (p + b) 0
    top e =
        rw (e, add-mul-div_right (get_le xs p w) (get_or xs (p + w) 0) {z = 256 ^ w} (one-le-pow w 256 (omega arith)), div-eq_of_lt (le-lt xs h p w))
        (ap (λ (x : ℕ). x % 256) (zero-add (get_or xs (p + w) 0)) ∙ mod-eq_of_lt (h (p + w)))

    lower : b < w → byte_of (get_le xs p w) b ≡ get_or xs (p + b) 0 → byte_of (get_le xs p (suc w)) b ≡ get_or xs (p + b) 0
    lower g ih =
        let d : ℕ = w - suc b in
        let v : ℕ = get_or xs (p + w) 0 in
        let e : 256 ^ w ≡ 256 ^ d * 256 * 256 ^ b =
        ap (λ (n : ℕ). 256 ^ n) (let q : w ≡ suc d + b = omega arith in q) ∙ pow-add 256 (suc d) b ∙ ap (λ (n : ℕ). n * 256 ^ b) (pow-suc 256 d) in
        let f : v * 256 ^ w ≡ v * 256 ^ d * 256 * 256 ^ b = ap (λ (n : ℕ). v * n) e ∙ omega arith in
        ap (λ (n : ℕ). (get_le xs p w + n) / 256 ^ b % 256) f
        ∙ ap (λ (n : ℕ). n % 256) (add-mul-div_right (get_le xs p w) (v * 256 ^ d * 256) {z = 256 ^ b} (one-le-pow b 256 (omega arith)))
        ∙ add-mul-mod_self_right (get_le xs p w / 256 ^ b) (v * 256 ^ d) 256 ∙ ih

byte-of-low : (v b : ℕ) → v % 256 ^ suc b / 256 ^ b ≡ byte_of v b
byte-of-low v b =
    let p : 1 ≤ 256 ^ b = one-le-pow b 256 (omega arith) in
    let r : v % 256 ^ b < 256 ^ b = mod-lt v p in
    let e : v % 256 ^ suc b ≡ v / 256 ^ b % 256 * 256 ^ b + v % 256 ^ b =
    rw (pow-succ' 256 b) (mod-mul v {m = 256} {c = 256 ^ b} (omega arith) p) in
    div-eq_of_lt-le (256 ^ b) (omega arith) (omega arith)

pub low-low : (v a b : ℕ) → a ≤ b → v % 256 ^ b % 256 ^ a ≡ v % 256 ^ a
low-low v a b h =
    let e : a + (b - a) ≡ b = omega arith in
    subst (λ (n : ℕ). v % n % 256 ^ a ≡ v % 256 ^ a) (sym (pow-add 256 a (b - a)) ∙ ap (λ (n : ℕ). 256 ^ n) e)
    (mod-mod_of_dvd (256 ^ a) v (dvd-mul_right (256 ^ a) (256 ^ (b - a))))

pub byte_low : (w v v' : ℕ) → v % 256 ^ w ≡ v' % 256 ^ w → (b : ℕ) → b < w → byte_of v b ≡ byte_of v' b
byte_low w v v' e b l =
    sym (byte-of-low v b)
    ∙ ap (λ (x : ℕ). x / 256 ^ b) (sym (low-low v (suc b) w l) ∙ ap (λ (x : ℕ). x % 256 ^ suc b) e ∙ low-low v' (suc b) w l)
    ∙ byte-of-low v' b

-- only the low w bytes of a value count
module _ (w : ℕ) where
  pub put_le-low : (p v v' : ℕ) (xs : List ℕ) → v % 256 ^ w ≡ v' % 256 ^ w → put_le p w v xs ≡ put_le p w v' xs
  unfolding put_le
  put_le-low p v v' xs e =
      upto-cong w (λ b ys. set ys (p + b) (byte_of v b)) (λ b ys. set ys (p + b) (byte_of v' b)) xs
      (λ b l ys. ap (set ys (p + b)) (byte_low w v v' e b l))

  pub put_row-low : (p cols : ℕ) (f g : ℕ → ℕ) (xs : List ℕ) → ((j : ℕ) → j < cols → f j % 256 ^ w ≡ g j % 256 ^ w) → put_row p cols w f xs ≡ put_row p cols w g xs
  unfolding put_row
  put_row-low p cols f g xs e =
      upto-cong cols (λ j ys. put_le (p + j * w) w (f j) ys) (λ j ys. put_le (p + j * w) w (g j) ys) xs
      (λ j l ys. put_le-low (p + j * w) (f j) (g j) ys (e j l))

  pub put_tile-low : (at : ℕ → ℕ) (rows cols : ℕ) (f g : ℕ → ℕ → ℕ) (xs : List ℕ) → ((i j : ℕ) → i < rows → j < cols → f i j % 256 ^ w ≡ g i j % 256 ^ w)
      → put_tile at rows cols w f xs ≡ put_tile at rows cols w g xs
  unfolding put_tile
  put_tile-low at rows cols f g xs e =
      upto-cong rows (λ i ys. put_row (at i) cols w (f i) ys) (λ i ys. put_row (at i) cols w (g i) ys) xs
      (λ i l ys. put_row-low (at i) cols (f i) (g i) ys (λ j k. e i j l k))

-- ---- a row writer that is lent the part from p on

-- the bytes of s, which are those of xs from p on, copied to the front are a row of numbers
row_copied : (xs s ys : List ℕ) (p cols w : ℕ) → ((q : ℕ) → get_or xs q 0 < 256) → length s ≡ cols * w
    → ((b : ℕ) → b < cols * w → get_or s b 0 ≡ get_or xs (p + b) 0)
    → upto (length s) (λ b ys. set ys b (get_or s b 0)) ys ≡ put_row 0 cols w (λ j. get_le xs (p + j * w) w) ys
unfolding put_row put_le
row_copied xs s ys p cols w small e h =
    ap (λ (n : ℕ). upto n (λ b ys. set ys b (get_or s b 0)) ys) e
    ∙ upto-elements cols w (λ b ys. set ys b (get_or s b 0)) (λ j b ys. set ys (0 + j * w + b) (byte_of (get_le xs (p + j * w) w) b)) ys
    (λ j b l l' y. turn j b y (h (j * w + b) (omega (arith, mul-le-mul_right w l))) (le-byte xs small (p + j * w) w b l'))
  where
    turn : (j b : ℕ) (y : List ℕ) → get_or s (j * w + b) 0 ≡ get_or xs (p + (j * w + b)) 0 → byte_of (get_le xs (p + j * w) w) b ≡ get_or xs (p + j * w + b) 0
        → set y (j * w + b) (get_or s (j * w + b) 0) ≡ set y (0 + j * w + b) (byte_of (get_le xs (p + j * w) w) b)
    turn j b y e f = rw (e, f, zero-add, add_assoc)

lent : (xs : List ℕ) (p k : ℕ) (f : List ℕ → List ℕ) → k ≡ length xs - p → take p xs ++ (f (take k (drop p xs)) ++ drop k (drop p xs)) ≡ take p xs ++ f (drop p xs)
lent xs p k f e =
    let whole : take k (drop p xs) ≡ drop p xs = take_all k (drop p xs) (simp length-drop (omega arith)) in
    let none : drop k (drop p xs) ≡ [] = drop_of_length-le (drop p xs) {i = k} (simp length-drop (omega arith)) in
    ap (λ (x : List ℕ). take p xs ++ (f x ++ drop k (drop p xs))) whole ∙ ap (λ (x : List ℕ). take p xs ++ (f (drop p xs) ++ x)) none
    ∙ ap (λ (x : List ℕ). take p xs ++ x) (append-nil (f (drop p xs)))

-- the part came back as s, with a row of numbers at its front
pub put_back : (xs s : List ℕ) (p k cols w : ℕ) (value : ℕ → ℕ) → p ≤ length xs → k ≡ length xs - p → s ≡ put_row 0 cols w value (take k (drop p xs))
    → take p xs ++ (s ++ drop k (drop p xs)) ≡ put_row p cols w value xs
put_back xs s p k cols w value h e es = rw es (lent xs p k (put_row 0 cols w value) e ∙ sym (put_row-part xs p cols w value h))

-- .. with bytes of ys copied to its front
pub copied-back : (xs ys s : List ℕ) (p from q k n cols w : ℕ) → ((q : ℕ) → get_or ys q 0 < 256) → n ≡ cols * w → from ≡ q → from + cols * w ≤ length ys → p ≤ length xs
    → k ≡ length xs - p
    → s ≡ upto (length (take n (drop from ys))) (λ b zs. set zs b (get_or (take n (drop from ys)) b 0)) (take k (drop p xs))
    → take p xs ++ (s ++ drop k (drop p xs)) ≡ put_row p cols w (λ j. get_le ys (q + j * w) w) xs
copied-back xs ys s p from q k n cols w small en eq h hp ek es =
    put_back xs s p k cols w (λ j. get_le ys (q + j * w) w) hp ek
    (es ∙ row_copied ys (take n (drop from ys)) (take k (drop p xs)) q cols w small (simp (length-take, length-drop) (omega arith))
    (λ b l. get_or-take n (drop from ys) b 0 (omega arith) ∙ get_or-drop from ys b 0 ∙ ap (λ (x : ℕ). get_or ys (x + b) 0) eq))

mark_row-part : (xs : List ℕ) (p n : ℕ) → p ≤ length xs → mark_row p n xs ≡ take p xs ++ mark_row 0 n (drop p xs)
mark_row-part xs p n h =
    let e : length (take p xs) + 0 ≡ p = omega (arith, length-take-le p xs h) in
    subst (λ (q : ℕ). mark_row q n xs ≡ take p xs ++ mark_row 0 n (drop p xs)) e
    (subst (λ (l : List ℕ). mark_row (length (take p xs) + 0) n l ≡ take p xs ++ mark_row 0 n (drop p xs)) (take-append-drop p xs)
    (mark_row-past (take p xs) (drop p xs) 0 n))

-- .. with its first n marks set
pub mark-back : (xs s : List ℕ) (p k n : ℕ) → p ≤ length xs → k ≡ length xs - p → s ≡ mark_row 0 n (take k (drop p xs))
    → take p xs ++ (s ++ drop k (drop p xs)) ≡ mark_row p n xs
mark-back xs s p k n h e es = rw es (lent xs p k (mark_row 0 n) e ∙ sym (mark_row-part xs p n h))

-- ---- one turn more

pub mark_row-next : (i : ℕ) (xs ys : List ℕ) → ys ≡ mark_row 0 i xs → set ys i 1 ≡ mark_row 0 (i + 1) xs
unfolding mark_row
mark_row-next i xs ys e = rw (e, add-one, zero-add)

pub put_tile-next : (at : ℕ → ℕ) (i cols w : ℕ) (value : ℕ → ℕ → ℕ) (xs ys : List ℕ) (p : ℕ) → ys ≡ put_tile at i cols w value xs → p ≡ at i
    → put_row p cols w (value i) ys ≡ put_tile at (i + 1) cols w value xs
unfolding put_tile
put_tile-next at i cols w value xs ys p e q = rw (e, q, add-one)

pub mark_tile-next : (at : ℕ → ℕ) (i n : ℕ) (xs ys : List ℕ) (p : ℕ) → ys ≡ mark_tile at i n xs → p ≡ at i → mark_row p n ys ≡ mark_tile at (i + 1) n xs
unfolding mark_tile
mark_tile-next at i n xs ys p e q = rw (e, q, add-one)

-- rows of no bytes write nothing
pub put_tile-none : (at : ℕ → ℕ) (rows cols w : ℕ) (value : ℕ → ℕ → ℕ) (xs : List ℕ) → cols * w ≡ 0 → xs ≡ put_tile at rows cols w value xs
unfolding put_tile put_row put_le
put_tile-none at rows cols w value xs e =
    upto-keeps (λ ys. xs ≡ ys) rows (λ i ys. put_row (at i) cols w (value i) ys) xs (λ i l ys q.
    upto-keeps (λ zs. xs ≡ zs) cols (λ j zs. put_le (at i + j * w) w (value i j) zs) ys (λ j l' zs q'.
    upto-keeps (λ us. xs ≡ us) w (λ b us. set us (at i + j * w + b) (byte_of (value i j) b)) zs (λ b l'' us q''.
    absurd (omega (arith, e, mul-le-mul_right w l'))) q') q) refl
