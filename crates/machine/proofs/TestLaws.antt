-- Laws of the tests over ranges and lists: when one passes, and what it then says.
use Rattle.numbers.proofs.Kit.{◌≡◌, refl, sym, ap, ◌∙◌, subst, ◌⊎◌, inl, inr, Bool, true, false, not, cond, ◌&&◌, ◌||◌, List, [], ◌∷◌, ◌++◌, ℕ, zero, suc}
use Rattle.numbers.proofs.Kit.{◌+◌, ◌*◌, ◌/◌, ◌%◌, ◌≤◌, ◌<◌, not-suc-le-zero, eq-or-lt_of_le, le_of_suc-le-suc, mul-le-mul_right, mod-lt, div-add-mod'}
use Rattle.numbers.proofs.Kit.{div-lt_iff_lt-mul, eq-zero-or-pos, mul-zero, arith, T, leb, ltb, eqb, length, get_or, lt-ltb, le-ltb, ltb-true, ltb-false}
use Rattle.numbers.proofs.Kit.{eqb-true, leb-true, le-leb}
use Rattle.numbers.specs.Tile.{In}
use Rattle.machine.specs.Tests.{all, first, every, all_of, is_in, within}

pub and-true : (a b : Bool) → a ≡ true → b ≡ true → a && b ≡ true
and-true a b p q = rw (p, q)

pub and_left : (a b : Bool) → a && b ≡ true → a ≡ true
and_left true b h = refl
and_left false b h = h

pub and_right : (a b : Bool) → a && b ≡ true → b ≡ true
and_right true b h = h
and_right false true h = refl
and_right false false h = h

pub or_right : (a b : Bool) → b ≡ true → a || b ≡ true
or_right true b h = refl
or_right false b h = h

pub or-not : (a b : Bool) → a || b ≡ true → a ≡ false → b ≡ true
or-not true b h e = absurd (subst T e tt)
or-not false b h e = h

pub false-true : false ≡ true → ⊥
false-true h = subst T (sym h) tt

-- two tests that pass together are equal
pub same_test : (a b : Bool) → (a ≡ true → b ≡ true) → (b ≡ true → a ≡ true) → a ≡ b
same_test true b f g = sym (f refl)
same_test false true f g = g refl
same_test false false f g = refl

-- ---- over a range

pub all_true : (n : ℕ) (p : ℕ → Bool) → ((i : ℕ) → i < n → p i ≡ true) → all n p ≡ true
all_true zero p h = refl
all_true (suc n) p h = and-true (all n p) (p n) (all_true n p (λ i l. h i (omega arith))) (h n (omega arith))

pub all-at : (n : ℕ) (p : ℕ → Bool) → all n p ≡ true → (i : ℕ) → i < n → p i ≡ true
all-at zero p h i l = absurd (not-suc-le-zero l)
all-at (suc n) p h i l = go (eq-or-lt_of_le (le_of_suc-le-suc l)) (all-at n p (and_left (all n p) (p n) h) i)
  where
    go : (i ≡ n) ⊎ (i < n) → (i < n → p i ≡ true) → p i ≡ true
    go (inl e) ih = subst (λ (j : ℕ). p j ≡ true) (sym e) (and_right (all n p) (p n) h)
    go (inr k) ih = ih k

pub all-false : (n : ℕ) (p : ℕ → Bool) (i : ℕ) → i < n → p i ≡ false → all n p ≡ false
all-false n p i l h = go (all n p) refl
  where
    go : (t : Bool) → all n p ≡ t → t ≡ false
    go true e = sym (all-at n p e i l) ∙ h
    go false e = refl

-- for code: a test over the bytes of a row, element by element
pub all-elements : (cols w : ℕ) (p : ℕ → Bool) → all (cols * w) p ≡ all cols (λ j. all w (λ b. p (j * w + b)))
all-elements cols w p = same_test (all (cols * w) p) (all cols (λ j. all w (λ b. p (j * w + b))))
    (λ h. all_true cols (λ j. all w (λ b. p (j * w + b))) (λ j l. all_true w (λ b. p (j * w + b)) (λ b l'. all-at (cols * w) p h (j * w + b) (omega (arith, mul-le-mul_right w l)))))
    (λ h. all_true (cols * w) p (λ q l.
    let 0<w : zero < w = elim (eq-zero-or-pos w) [ inl z ↦ absurd (omega (arith, ap (λ (v : ℕ). cols * v) z, mul-zero cols)) | inr g ↦ g ] in
    let e : q / w * w + q % w ≡ q = div-add-mod' q w in
    let j<cols : q / w < cols = (div-lt_iff_lt-mul {k = w} {x = q} {y = cols} 0<w).1 l in
    subst (λ (x : ℕ). p x ≡ true) e (all-at w (λ b. p (q / w * w + b)) (all-at cols (λ j. all w (λ b. p (j * w + b))) h (q / w) j<cols) (q % w) (mod-lt q 0<w))))

-- ---- over a list

-- each of them is true
abbrev pub Each : List Bool → Type 0
Each [] = Unit {0}
Each (b ∷ bs) = (b ≡ true) × Each bs

pub every-each : (bs : List Bool) → every bs ≡ true → Each bs
every-each [] h = tt
every-each (b ∷ bs) h = (and_left b (every bs) h, every-each bs (and_right b (every bs) h))

pub each-every : (bs : List Bool) → Each bs → every bs ≡ true
each-every [] h = refl
each-every (b ∷ bs) h = and-true b (every bs) h.0 (each-every bs h.1)

abbrev pub each : List ℕ → (ℕ → Bool) → Bool
each [] p = true
each (y ∷ ys) p = p y && each ys p

-- what holds of each entry holds of a number that is in the list
pub each_in : (x : ℕ) (ys : List ℕ) (p : ℕ → Bool) → each ys p ≡ true → is_in x ys ≡ true → p x ≡ true
each_in x [] p h i = absurd (subst T (sym i) tt)
each_in x (y ∷ ys) p h i = go (eqb x y) refl (each_in x ys p (and_right (p y) (each ys p) h))
  where
    go : (t : Bool) → eqb x y ≡ t → (is_in x ys ≡ true → p x ≡ true) → p x ≡ true
    go true e ih = subst (λ (z : ℕ). p z ≡ true) (sym (eqb-true x y e)) (and_left (p y) (each ys p) h)
    go false e ih = ih (or-not (eqb x y) (is_in x ys) i e)

pub all_of-at : (p : ℕ → Bool) (xs : List ℕ) → all_of p xs ≡ true → (i : ℕ) → i < length xs → p (get_or xs i 0) ≡ true
all_of-at p [] h i l = absurd (not-suc-le-zero l)
all_of-at p (x ∷ xs) h zero l = and_left (p x) (all_of p xs) h
all_of-at p (x ∷ xs) h (suc i) l = all_of-at p xs (and_right (p x) (all_of p xs) h) i (le_of_suc-le-suc l)

pub all_of-true : (p : ℕ → Bool) (xs : List ℕ) → ((i : ℕ) → i < length xs → p (get_or xs i 0) ≡ true) → all_of p xs ≡ true
all_of-true p [] h = refl
all_of-true p (x ∷ xs) h = and-true (p x) (all_of p xs) (h 0 (omega arith)) (all_of-true p xs (λ i l. h (suc i) (omega arith)))

-- for code: the test by index
pub all_of-all : (p : ℕ → Bool) (xs : List ℕ) → all_of p xs ≡ all (length xs) (λ i. p (get_or xs i 0))
all_of-all p xs = same_test (all_of p xs) (all (length xs) (λ i. p (get_or xs i 0)))
    (λ h. all_true (length xs) (λ i. p (get_or xs i 0)) (all_of-at p xs h))
    (λ h. all_of-true p xs (all-at (length xs) (λ i. p (get_or xs i 0)) h))

-- ---- a byte in a range

pub within_in : (p n q : ℕ) → within p n q ≡ true → In p n q
within_in p n q h = (leb-true p q (and_left (leb p q) (ltb q (p + n)) h), ltb-true q (p + n) (and_right (leb p q) (ltb q (p + n)) h))

pub in_within : (p n q : ℕ) → In p n q → within p n q ≡ true
in_within p n q h = and-true (leb p q) (ltb q (p + n)) (le-leb p q h.0) (lt-ltb q (p + n) h.1)

-- what is not so is false
pub fails-not : (b : Bool) → ¬ (b ≡ true) → not b ≡ true
fails-not true h = absurd (h refl)
fails-not false h = refl

pub not-fails : (b : Bool) → not b ≡ true → ¬ (b ≡ true)
not-fails true h e = false-true h
not-fails false h e = false-true e

pub not_within : (p n q : ℕ) → ¬ In p n q → not (within p n q) ≡ true
not_within p n q h = go (within p n q) refl
  where
    go : (t : Bool) → within p n q ≡ t → not t ≡ true
    go true e = absurd (h (within_in p n q e))
    go false e = refl

pub within-not : (p n q : ℕ) → not (within p n q) ≡ true → ¬ In p n q
within-not p n q h x = false-true (rw (in_within p n q x) at h)

-- ---- the first number below n that passes, and n if none does

pub first-le : (n : ℕ) (p : ℕ → Bool) → first n p ≤ n
first-le zero p = omega arith
first-le (suc n) p = go (ltb (first n p) n) (p n) (first-le n p)
  where
    go : (s t : Bool) → first n p ≤ n → cond s (first n p) (cond t n (suc n)) ≤ suc n
    go true t h = omega arith
    go false true h = omega arith
    go false false h = omega arith

pub first-none : (n : ℕ) (p : ℕ → Bool) → ((i : ℕ) → i < n → p i ≡ false) → first n p ≡ n
first-none zero p h = refl
first-none (suc n) p h = rw (first-none n p (λ i l. h i (omega arith)), le-ltb n n (omega arith), h n (omega arith))

-- i passes and none before it does
pub first-is : (n : ℕ) (p : ℕ → Bool) (i : ℕ) → i < n → p i ≡ true → ((k : ℕ) → k < i → p k ≡ false) → first n p ≡ i
first-is zero p i l h before = absurd (not-suc-le-zero l)
first-is (suc n) p i l h before = go (ltb i n) refl (first-is n p i)
  where
    go : (t : Bool) → ltb i n ≡ t → (i < n → p i ≡ true → ((k : ℕ) → k < i → p k ≡ false) → first n p ≡ i) → first (suc n) p ≡ i
    go true e ih = rw (ih (ltb-true i n e) h before, e)
    go false e ih =
        let d : i ≡ n = omega (arith, ltb-false i n e) in
        let f : first n p ≡ n = first-none n p (λ k g. before k (omega arith)) in
        rw (f, le-ltb n n (omega arith), subst (λ (j : ℕ). p j ≡ true) d h) (sym d)

-- where one passes, the first is below n
first_found : (n : ℕ) (p : ℕ → Bool) (i : ℕ) → i < n → p i ≡ true → first n p < n
first_found zero p i l h = absurd (not-suc-le-zero l)
first_found (suc n) p i l h = go (ltb (first n p) n) refl (p n) refl (first_found n p i) (eq-or-lt_of_le (le_of_suc-le-suc l))
  where
    go : (s : Bool) → ltb (first n p) n ≡ s → (t : Bool) → p n ≡ t → (i < n → p i ≡ true → first n p < n) → (i ≡ n) ⊎ (i < n)
        → cond s (first n p) (cond t n (suc n)) < suc n
    go true e t f ih d = omega (arith, ltb-true (first n p) n e)
    go false e true f ih d = omega arith
    go false e false f ih (inl d) = absurd (false-true (sym f ∙ subst (λ (j : ℕ). p j ≡ true) d h))
    go false e false f ih (inr d) = absurd (omega (arith, ltb-false (first n p) n e, ih d h))

-- it passes if there is one
pub first_passes : (n : ℕ) (p : ℕ → Bool) → first n p < n → p (first n p) ≡ true
first_passes zero p l = absurd (not-suc-le-zero l)
first_passes (suc n) p l = go (ltb (first n p) n) refl (p n) refl (first_passes n p) l
  where
    go : (s : Bool) → ltb (first n p) n ≡ s → (t : Bool) → p n ≡ t → (first n p < n → p (first n p) ≡ true) → cond s (first n p) (cond t n (suc n)) < suc n
        → p (cond s (first n p) (cond t n (suc n))) ≡ true
    go true e t f ih l = ih (ltb-true (first n p) n e)
    go false e true f ih l = f
    go false e false f ih l = absurd (omega arith)

-- and there is none if it is n
pub none_passes : (n : ℕ) (p : ℕ → Bool) → n ≤ first n p → (i : ℕ) → i < n → p i ≡ false
none_passes n p h i l = go (p i) refl
  where
    go : (t : Bool) → p i ≡ t → t ≡ false
    go true e = absurd (omega (arith, first_found n p i l e))
    go false e = refl

-- ---- tests one after another

-- those before have passed, and this one fails
pub fails : (xs : List Bool) → Each xs → (b : Bool) → b ≡ false → (bs : List Bool) → false ≡ every (xs ++ (b ∷ bs))
fails [] h b e bs = rw e
fails (a ∷ xs) h b e bs = rw h.0 (fails xs h.1 b e bs)

-- those before have passed, and this one is the last
pub last : (xs : List Bool) → Each xs → (b : Bool) → b ≡ every (xs ++ (b ∷ []))
last [] h true = refl
last [] h false = refl
last (a ∷ xs) h b = rw h.0 (last xs h.1 b)
