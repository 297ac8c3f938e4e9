-- Laws of two's complement, at any modulus.
use Rattle.numbers.proofs.Kit.{◌≡◌, refl, sym, ap, ◌∙◌, subst, ap₂, Bool, true, false, cond, ℕ, zero, suc, pred, ◌+◌, ◌*◌, ◌-◌, ◌/◌, ◌%◌, ◌≤◌, ◌<◌}
use Rattle.numbers.proofs.Kit.{add-mod, mod-lt, mod-eq_of_lt, div-add-mod', add-mul-mod_self_right, add-zero, add-suc, suc-pred-eq_of_pos}
use Rattle.numbers.proofs.Kit.{mod-mod_of_dvd, dvd-mul_right, mul-pos, div-lt_iff_lt-mul, arith, ltb, ℤ, pos, negsuc, neg_ℤ, sub_ℕ, ◌+ℤ◌, ◌*ℤ◌, +ℤ_idr}
use Rattle.numbers.proofs.Kit.{+ℤ_assoc, ltb-true, ltb-false}
use Rattle.numbers.specs.Reduce.{signed, reduce, sumℤ}

-- ---- residues of ℕ

pub mul-mod : (a b m : ℕ) → (a * b) % m ≡ (a % m * (b % m)) % m
mul-mod a b m =
    let ea : (a / m * m + a % m) * b ≡ a * b = ap (λ (x : ℕ). x * b) (div-add-mod' a m) in
    let eb : a % m * (b / m * m + b % m) ≡ a % m * b = ap (λ (x : ℕ). a % m * x) (div-add-mod' b m) in
    let e : a * b ≡ a % m * (b % m) + (a / m * b + a % m * (b / m)) * m = omega arith in
    rw e (add-mul-mod_self_right (a % m * (b % m)) (a / m * b + a % m * (b / m)) m)

-- equal up to multiples of m
pub shift : (m q r a b : ℕ) → a + q * m ≡ b + r * m → a % m ≡ b % m
shift m q r a b e = sym (add-mul-mod_self_right a q m) ∙ ap (λ (x : ℕ). x % m) e ∙ add-mul-mod_self_right b r m

-- ---- a residue as a natural number: at the modulus P + 1, minus one is P
abbrev lift : ℕ → ℤ → ℕ
lift P (pos n) = n
lift P (negsuc n) = P * suc n

-- (the laws at P + 1)
module _ (P : ℕ) where
  reduce-lift : (z : ℤ) → reduce (suc P) z ≡ lift P z % suc P
  unfolding reduce
  reduce-lift (pos n) = refl
  reduce-lift (negsuc n) =
      let M = suc P in
      let r : ℕ = n % M in
      let q : ℕ = n / M in
      let h : r < M = mod-lt n (omega arith) in
      let e : q * M + r ≡ n = div-add-mod' n M in
      let f : P * (q * M + r) ≡ P * n = ap (λ (x : ℕ). P * x) e in
      let g : (M - suc r) + (P * q + r) * M ≡ P * suc n + zero * M = omega arith in
      sym (mod-eq_of_lt {n = M - suc r} (omega arith)) ∙ shift M (P * q + r) zero (M - suc r) (P * suc n) g

  lift-sub : (a b : ℕ) → lift P (sub_ℕ a b) % suc P ≡ (a + P * b) % suc P
  lift-sub a b = go (ltb a b) refl
    where
      go : (t : Bool) → ltb a b ≡ t → lift P (cond t (negsuc (b - suc a)) (pos (a - b))) % suc P ≡ (a + P * b) % suc P
      go true e =
          let h : a < b = ltb-true a b e in
          let d : ℕ = b - suc a in
          let f : P * b ≡ P * (suc a + d) = ap (λ (x : ℕ). P * x) (omega arith) in
          shift (suc P) a zero (P * suc d) (a + P * b) (omega arith)
      go false e =
          let h : b ≤ a = ltb-false a b e in
          shift (suc P) b zero (a - b) (a + P * b) (omega arith)

  lift-add : (x y : ℤ) → lift P (x +ℤ y) % suc P ≡ (lift P x + lift P y) % suc P
  lift-add (pos a) (pos b) = refl
  lift-add (pos a) (negsuc b) = lift-sub a (suc b)
  lift-add (negsuc a) (pos b) = lift-sub b (suc a) ∙ ap (λ (n : ℕ). n % suc P) (omega arith)
  lift-add (negsuc a) (negsuc b) = ap (λ (n : ℕ). n % suc P) (omega arith)

  lift-neg : (n : ℕ) → lift P (neg_ℤ (pos n)) % suc P ≡ (P * n) % suc P
  lift-neg zero = ap (λ (n : ℕ). n % suc P) (omega arith)
  lift-neg (suc n) = refl

  lift-mul : (x y : ℤ) → lift P (x *ℤ y) % suc P ≡ (lift P x * lift P y) % suc P
  lift-mul (pos a) (pos b) = refl
  lift-mul (pos a) (negsuc b) = lift-neg (a * suc b) ∙ ap (λ (n : ℕ). n % suc P) (omega arith)
  lift-mul (negsuc a) (pos b) = lift-neg (suc a * b) ∙ ap (λ (n : ℕ). n % suc P) (omega arith)
  lift-mul (negsuc a) (negsuc b) =
      let x : ℕ = suc a * suc b in
      shift (suc P) (P * x) x x (P * suc a * (P * suc b)) (omega arith)

  reduce-add' : (x y : ℤ) → reduce (suc P) (x +ℤ y) ≡ (reduce (suc P) x + reduce (suc P) y) % suc P
  reduce-add' x y = rw (reduce-lift x, reduce-lift y) (reduce-lift (x +ℤ y) ∙ lift-add x y ∙ add-mod (lift P x) (lift P y) (suc P))

  reduce-mul' : (x y : ℤ) → reduce (suc P) (x *ℤ y) ≡ (reduce (suc P) x * reduce (suc P) y) % suc P
  reduce-mul' x y = rw (reduce-lift x, reduce-lift y) (reduce-lift (x *ℤ y) ∙ lift-mul x y ∙ mul-mod (lift P x) (lift P y) (suc P))

-- ---- the laws, at any modulus

module _ (m : ℕ) (0<m : zero < m) where
  is-suc : suc (pred m) ≡ m
  is-suc = suc-pred-eq_of_pos 0<m

  pub reduce-add : (x y : ℤ) → reduce m (x +ℤ y) ≡ (reduce m x + reduce m y) % m
  reduce-add x y = subst (λ (m : ℕ). reduce m (x +ℤ y) ≡ (reduce m x + reduce m y) % m) is-suc (reduce-add' (pred m) x y)

  pub reduce-mul : (x y : ℤ) → reduce m (x *ℤ y) ≡ (reduce m x * reduce m y) % m
  reduce-mul x y = subst (λ (m : ℕ). reduce m (x *ℤ y) ≡ (reduce m x * reduce m y) % m) is-suc (reduce-mul' (pred m) x y)

  pub reduce-lt : (z : ℤ) → reduce m z < m
  unfolding reduce
  reduce-lt (pos n) = mod-lt n 0<m
  reduce-lt (negsuc n) = omega arith

  pub reduce-signed : (x : ℕ) → x < m → reduce m (signed m x) ≡ x
  unfolding reduce
  reduce-signed x h = go (ltb (x + x) m)
    where
      go : (t : Bool) → reduce m (cond t (pos x) (negsuc (m - suc x))) ≡ x
      go true = mod-eq_of_lt h
      go false = rw (mod-eq_of_lt {n = m - suc x} {m = m} (omega arith)) (omega arith)

  -- a sum goes on from its reduced value
  pub accumulate : (x y : ℤ) → reduce m (signed m (reduce m x) +ℤ y) ≡ reduce m (x +ℤ y)
  accumulate x y = reduce-add (signed m (reduce m x)) y ∙ ap (λ (r : ℕ). (r + reduce m y) % m) (reduce-signed (reduce m x) (reduce-lt x)) ∙ sym (reduce-add x y)

  -- the wrapping product of the residues is the residue of the signed product
  pub wrapping-mul : (a b : ℕ) → a < m → b < m → (a * b) % m ≡ reduce m (signed m a *ℤ signed m b)
  wrapping-mul a b ha hb = sym (reduce-mul (signed m a) (signed m b) ∙ ap₂ (λ (r s : ℕ). (r * s) % m) (reduce-signed a ha) (reduce-signed b hb))

-- ---- sums

pub sumℤ-add : (a b : ℕ) (f : ℕ → ℤ) → sumℤ (a + b) f ≡ sumℤ a f +ℤ sumℤ b (λ l. f (a + l))
sumℤ-add a zero f = rw add-zero (sym (+ℤ_idr (sumℤ a f)))
sumℤ-add a (suc b) f = rw add-suc (ap (λ (z : ℤ). z +ℤ f (a + b)) (sumℤ-add a b f) ∙ +ℤ_assoc (sumℤ a f) (sumℤ b (λ l. f (a + l))) (f (a + b)))

pub sumℤ-cong : (n : ℕ) (f g : ℕ → ℤ) → ((l : ℕ) → l < n → f l ≡ g l) → sumℤ n f ≡ sumℤ n g
sumℤ-cong zero f g h = refl
sumℤ-cong (suc n) f g h = ap₂ ◌+ℤ◌ (sumℤ-cong n f g (λ l k. h l (omega arith))) (h n (omega arith))

-- ---- for code: wider and narrower residues

-- sign extension: the residue at m of what x stands for at n
pub widened : (n m x : ℕ) → x < n → n ≤ m → reduce m (signed n x) ≡ cond (ltb (x + x) n) x (m - (n - x))
unfolding reduce
widened n m x h l = go (ltb (x + x) n)
  where
    go : (t : Bool) → reduce m (cond t (pos x) (negsuc (n - suc x))) ≡ cond t x (m - (n - x))
    go true = mod-eq_of_lt {n = x} {m = m} (omega arith)
    go false = rw (mod-eq_of_lt {n = n - suc x} {m = m} (omega arith)) (omega arith)

-- a wider residue, cut
pub narrowed : (n c : ℕ) → zero < n → zero < c → (z : ℤ) → reduce (n * c) z % n ≡ reduce n z
unfolding reduce
narrowed n c 0<n 0<c (pos a) = mod-mod_of_dvd n a (dvd-mul_right n c)
narrowed n c 0<n 0<c (negsuc a) =
    let r : ℕ = a % (n * c) in
    let q : ℕ = r / n in
    let d : q * n + r % n ≡ r = div-add-mod' r n in
    let i : r % n ≡ a % n = mod-mod_of_dvd n a (dvd-mul_right n c) in
    let lt : r < n * c = mod-lt a (mul-pos 0<n 0<c) in
    let small : a % n < n = mod-lt a 0<n in
    let qc : q < c = (div-lt_iff_lt-mul {k = n} {x = r} {y = c} 0<n).1 (omega arith) in
    let p : ℕ = c - suc q in
    let f : n * c ≡ n * (suc q + p) = ap (λ (x : ℕ). n * x) (omega arith) in
    let e : n * c - suc r ≡ (n - suc (a % n)) + p * n = omega arith in
    ap (λ (x : ℕ). x % n) e ∙ add-mul-mod_self_right (n - suc (a % n)) p n ∙ mod-eq_of_lt {n = n - suc (a % n)} {m = n} (omega arith)
