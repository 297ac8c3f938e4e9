-- Laws of the problem that numbers pose: its tests, of the numbers as the code holds them.
use Rattle.numbers.proofs.Kit.{◌≡◌, refl, sym, ap, ap₂, ◌∙◌, subst, ◌⊎◌, inl, inr, Bool, true, false, not, ◌||◌, ◌&&◌, cond, List, [], ◌∷◌, ◌++◌, map, Option}
use Rattle.numbers.proofs.Kit.{none, some, Option·map, ℕ, zero, suc, ◌+◌, ◌*◌, ◌-◌, ◌^◌, ◌≤◌, ◌<◌, min, mul-le-mul, arith, leb, ltb, eqb, length}
use Rattle.numbers.proofs.Kit.{take, drop, get_or, length-take, length-drop, length-map, take-append-drop, length-take-le, ℤ}
use Rattle.numbers.proofs.Kit.{pos, negsuc, nat_abs, leb-true, eqb-true, le-leb, lt-leb, lt-ltb, le-ltb}
use Rattle.numbers.proofs.BlockLaws.{le-or-lt}
use Rattle.machine.specs.Tests.{all, every, all_of, is_in}
use Rattle.machine.proofs.TestLaws.{Each, every-each, each-every, each, each_in, or-not, all-at, false-true}
use Rattle.run.specs.Start.{format}
use Rattle.run_plan.proofs.PlanLaws.{sews, factors}
use Rattle.std.specs.List.{list_all}
use Rattle.std.specs.Prelude as code
use Rattle.std.specs.Prelude.{None, Some}
use Rattle.product_text.specs.Text.{numbers}
use Rattle.product_text.specs.Problem.{Problem, problem, nth, tests, posed, posed_by, from_zero, holds}
use Rattle.product_text.specs.Parts.{held, held_in, front, put_front, size_held, inside, returned, sizes_of, read_into, ElementsIn}
use Rattle.text_lines.proofs.ListLaws.{drop-map}
use Rattle.product_text.proofs.ListLaws.{drop-take}

never : {A : Type 0} → ◌≡◌ {A = ℕ} 0 1 → A
never e = absurd (omega arith)

-- SEW, f, m, k and n of a problem, as the code returns them
abbrev pub asked : Option Problem → code.Option (List ℕ)
asked o = returned (Option·map sizes_of o)

-- ---- numbers as the code holds them

size-pos : (x : ℕ) → size_held (held (pos x)) ≡ min x 0x1_0000_0000
size-pos x = rw (le-leb 0x1_0000_0000 (0x1_0000_0000 + min x 0x1_0000_0000) (omega arith)) (omega arith)

size-neg : (x : ℕ) → size_held (held (negsuc x)) ≡ 0x2_0000_0000
size-neg x = rw (lt-leb 0x1_0000_0000 (0x1_0000_0000 - min (suc x) 0x1_0000_0000) (omega arith))

-- a small number from 0 up is held as it is, and no other is held as a small one
small_size : (z : ℤ) (s : ℕ) → s ≡ size_held (held z) → from_zero z ≡ true → nat_abs z ≤ 32 → nat_abs z ≡ s
small_size (pos x) s e t h = omega (arith, e ∙ size-pos x)
small_size (negsuc x) s e t h = absurd (false-true t)

size_small : (z : ℤ) (s : ℕ) → s ≡ size_held (held z) → s ≤ 32 → (from_zero z ≡ true) × (nat_abs z ≡ s)
size_small (pos x) s e h = (refl, omega (arith, e ∙ size-pos x))
size_small (negsuc x) s e h = absurd (omega (arith, e ∙ size-neg x))

inside-held : (h : ℕ) (z : ℤ) → h ≤ 0x8000_0000 → inside h (held z) ≡ holds h z
inside-held h (pos x) l = go (le-or-lt h x)
  where
    go : (h ≤ x) ⊎ (x < h) → inside h (held (pos x)) ≡ ltb x h
    go (inl k) = rw (le-leb (0x1_0000_0000 - h) (0x1_0000_0000 + min x 0x1_0000_0000) (omega arith), le-ltb (0x1_0000_0000 + min x 0x1_0000_0000) (0x1_0000_0000 + h) (omega arith), le-ltb x h k)
    go (inr k) = rw (le-leb (0x1_0000_0000 - h) (0x1_0000_0000 + min x 0x1_0000_0000) (omega arith), lt-ltb (0x1_0000_0000 + min x 0x1_0000_0000) (0x1_0000_0000 + h) (omega arith), lt-ltb x h k)
inside-held h (negsuc x) l = go (le-or-lt h x)
  where
    go : (h ≤ x) ⊎ (x < h) → inside h (held (negsuc x)) ≡ ltb x h
    go (inl k) = rw (lt-leb (0x1_0000_0000 - h) (0x1_0000_0000 - min (suc x) 0x1_0000_0000) (omega arith), le-ltb x h k)
    go (inr k) = rw (le-leb (0x1_0000_0000 - h) (0x1_0000_0000 - min (suc x) 0x1_0000_0000) (omega arith), lt-ltb (0x1_0000_0000 - min (suc x) 0x1_0000_0000) (0x1_0000_0000 + h) (omega arith), lt-ltb x h k)

each-held : (h : ℕ) (zs : List ℤ) → h ≤ 0x8000_0000 → all_of (inside h) (map held zs) ≡ every (map (holds h) zs)
each-held h [] l = refl
each-held h (z ∷ zs) l = rw (inside-held h z l, each-held h zs l)

pub held_at : (i : ℕ) (zs : List ℤ) → i < length zs → get_or (map held zs) i 0 ≡ held (nth zs i)
held_at i [] h = absurd (omega arith)
held_at zero (z ∷ zs) h = refl
held_at (suc i) (z ∷ zs) h = held_at i zs (omega arith)

pub all-of : (f : ℕ → Bool) (xs : List ℕ) → list_all f xs ≡ all_of f xs
all-of f [] = refl
all-of f (x ∷ xs) = ap (λ (b : Bool). f x && b) (all-of f xs)

-- ---- formats

-- the SEW of `product`, whose machine has ELEN 32
abbrev shorts : List ℕ
shorts = 8 ∷ 16 ∷ 32 ∷ []

shortly : each sews (λ s. each factors (λ f. not (leb (f * s) 32) || is_in s shorts)) ≡ true
shortly = refl

module _ (s f : ℕ) (ok : format 32 s f ≡ true) where
  parts : Each (is_in s sews ∷ is_in f factors ∷ leb (f * s) 32 ∷ [])
  unfolding format
  parts = every-each (is_in s sews ∷ is_in f factors ∷ leb (f * s) 32 ∷ []) ok

  pub format-sew : is_in s (8 ∷ 16 ∷ 32 ∷ []) ≡ true
  format-sew =
      or-not (not (leb (f * s) 32)) (is_in s shorts)
      (each_in f factors (λ f. not (leb (f * s) 32) || is_in s shorts) (each_in s sews (λ s. each factors (λ f. not (leb (f * s) 32) || is_in s shorts)) shortly parts.0) parts.1.0)
      (ap not parts.1.1.0)

  pub format-bounds : (s ≤ 32) × (f ≤ 4)
  format-bounds = (leb-true s 32 (each_in s shorts (λ y. leb y 32) refl format-sew), leb-true f 4 (each_in f factors (λ y. leb y 4) refl parts.1.0))

  pub format-half : 2 ^ (s - 1) ≤ 0x8000_0000
  format-half = leb-true (2 ^ (s - 1)) 0x8000_0000 (each_in s shorts (λ y. leb (2 ^ (y - 1)) 0x8000_0000) refl format-sew)

-- ---- the tests, of the numbers as the code holds them

-- SEW, f, m, k and n, read from the front of xs
pub record Five (xs : List ℕ) (s f m k n : ℕ) : Type 0 where
  pub long : 5 ≤ length xs
  pub at0 : s ≡ size_held (get_or xs 0 0)
  pub at1 : f ≡ size_held (get_or xs 1 0)
  pub at2 : m ≡ size_held (get_or xs 2 0)
  pub at3 : k ≡ size_held (get_or xs 3 0)
  pub at4 : n ≡ size_held (get_or xs 4 0)

abbrev pub held_tests : List ℕ → (s f m k n : ℕ) → List Bool
held_tests xs s f m k n =
    format 32 s f
    ∷ leb m 16
    ∷ leb k 16
    ∷ leb n 16
    ∷ eqb (length xs) (5 + m * k + k * n)
    ∷ all_of (inside (2 ^ (s - 1))) (drop 5 xs) ∷ []

-- the problem's numbers are those
abbrev Same : List ℤ → (s f m k n : ℕ) → Type 0
Same zs s f m k n = (nat_abs (nth zs 0) ≡ s) × (nat_abs (nth zs 1) ≡ f) × (nat_abs (nth zs 2) ≡ m) × (nat_abs (nth zs 3) ≡ k) × (nat_abs (nth zs 4) ≡ n)

small : {a b : ℕ} → a ≡ b → leb a 16 ≡ leb b 16
small e = ap (λ (y : ℕ). leb y 16) e

one-fails : (ts : List Bool) (i : ℕ) → get_or ts i true ≡ false → every ts ≡ false
one-fails [] i e = e
one-fails (t ∷ ts) zero e = rw e
one-fails (true ∷ ts) (suc i) e = one-fails ts i e
one-fails (false ∷ ts) (suc i) e = refl

module _ (zs : List ℤ) (xs : List ℕ) (e : map held zs ≡ xs) where
  same_length : length xs ≡ length zs
  same_length = ap length (sym e) ∙ length-map zs held

  module _ (s f m k n : ℕ) (F : Five xs s f m k n) where
    at : (i x : ℕ) → i < 5 → x ≡ size_held (get_or xs i 0) → x ≡ size_held (held (nth zs i))
    at i x h g = g ∙ ap size_held (ap (λ (ys : List ℕ). get_or ys i 0) (sym e) ∙ held_at i zs (omega (arith, F.long, same_length)))

    -- both lists of tests, where the numbers are the same
    module _ (q : Same zs s f m k n) where
      formats : format 32 (posed_by zs).sew (posed_by zs).factor ≡ format 32 s f
      formats = ap₂ (format 32) q.0 q.1

      counts : eqb (length zs) (5 + (posed_by zs).m * (posed_by zs).k + (posed_by zs).k * (posed_by zs).n) ≡ eqb (length xs) (5 + m * k + k * n)
      counts = rw (q.2, q.3, q.4, same_length)

      elements : format 32 s f ≡ true → every (map (holds (2 ^ ((posed_by zs).sew - 1))) (drop 5 zs)) ≡ all_of (inside (2 ^ (s - 1))) (drop 5 xs)
      elements ok =
          ap (λ (y : ℕ). every (map (holds (2 ^ (y - 1))) (drop 5 zs))) q.0
          ∙ sym (each-held (2 ^ (s - 1)) (drop 5 zs) (format-half s f ok)) ∙ ap (all_of (inside (2 ^ (s - 1)))) (sym (drop-map held 5 zs) ∙ ap (drop 5) e)

      to_held : Each (tests zs (posed_by zs)) → Each (held_tests xs s f m k n)
      to_held (count, (signs, (ok, (tm, (tk, (tn, (es, _))))))) =
          let ok' = sym formats ∙ ok in
          (ok', (small (sym q.2) ∙ tm, (small (sym q.3) ∙ tk, (small (sym q.4) ∙ tn, (sym counts ∙ count, (sym (elements ok') ∙ es, tt))))))

      from-held : all 5 (λ i. from_zero (nth zs i)) ≡ true → Each (held_tests xs s f m k n) → Each (tests zs (posed_by zs))
      from-held signs (ok, (tm, (tk, (tn, (count, (es, _)))))) =
          (counts ∙ count, (signs, (formats ∙ ok, (small q.2 ∙ tm, (small q.3 ∙ tk, (small q.4 ∙ tn, (elements ok ∙ es, tt)))))))

    passed : every (tests zs (posed_by zs)) ≡ true → every (held_tests xs s f m k n) ≡ true
    passed t =
        let a = every-each (tests zs (posed_by zs)) t in
        let b = format-bounds (posed_by zs).sew (posed_by zs).factor a.1.1.0 in
        let is : (i x : ℕ) → i < 5 → x ≡ size_held (get_or xs i 0) → nat_abs (nth zs i) ≤ 32 → nat_abs (nth zs i) ≡ x =
        λ i x l g h. small_size (nth zs i) x (at i x l g) (all-at 5 (λ i. from_zero (nth zs i)) a.1.0 i l) h in
        let q : Same zs s f m k n = (
          is 0 s (omega arith) F.at0 b.0,
          is 1 f (omega arith) F.at1 (omega arith),
          is 2 m (omega arith) F.at2 (omega (arith, leb-true (posed_by zs).m 16 a.1.1.1.0)),
          is 3 k (omega arith) F.at3 (omega (arith, leb-true (posed_by zs).k 16 a.1.1.1.1.0)),
          is 4 n (omega arith) F.at4 (omega (arith, leb-true (posed_by zs).n 16 a.1.1.1.1.1.0)),
        ) in
        each-every (held_tests xs s f m k n) (to_held q a)

    check-is : (b : Bool) → every (held_tests xs s f m k n) ≡ b → cond b (Some (s ∷ f ∷ m ∷ k ∷ n ∷ [])) None ≡ asked (posed (some zs))
    check-is true t =
        let a = every-each (held_tests xs s f m k n) t in
        let b = format-bounds s f a.0 in
        let is : (i x : ℕ) → i < 5 → x ≡ size_held (get_or xs i 0) → x ≤ 32 → (from_zero (nth zs i) ≡ true) × (nat_abs (nth zs i) ≡ x) =
        λ i x l g h. size_small (nth zs i) x (at i x l g) h in
        let d0 = is 0 s (omega arith) F.at0 b.0 in
        let d1 = is 1 f (omega arith) F.at1 (omega arith) in
        let d2 = is 2 m (omega arith) F.at2 (omega (arith, leb-true m 16 a.1.0)) in
        let d3 = is 3 k (omega arith) F.at3 (omega (arith, leb-true k 16 a.1.1.0)) in
        let d4 = is 4 n (omega arith) F.at4 (omega (arith, leb-true n 16 a.1.1.1.0)) in
        let signs : all 5 (λ i. from_zero (nth zs i)) ≡ true = rw (d0.0, d1.0, d2.0, d3.0, d4.0) in
        let q : Same zs s f m k n = (d0.1, d1.1, d2.1, d3.1, d4.1) in
        sym (rw (each-every (tests zs (posed_by zs)) (from-held q signs a)) (rw (d0.1, d1.1, d2.1, d3.1, d4.1)))
    check-is false t = go (every (tests zs (posed_by zs))) refl
      where
        go : (b : Bool) → every (tests zs (posed_by zs)) ≡ b → None ≡ asked (cond b (some (posed_by zs)) none)
        go true r = absurd (false-true (sym t ∙ passed r))
        go false r = refl

    pub refuses : (i : ℕ) → get_or (held_tests xs s f m k n) i true ≡ false → None ≡ asked (posed (some zs))
    refuses i t = check-is false (one-fails (held_tests xs s f m k n) i t)

    pub accepts : Each (held_tests xs s f m k n) → Some (s ∷ f ∷ m ∷ k ∷ n ∷ []) ≡ asked (posed (some zs))
    accepts t = check-is true (each-every (held_tests xs s f m k n) t)

-- ---- the problem of a text

count-is : (zs : List ℤ) → Each (tests zs (posed_by zs)) → length zs ≡ 5 + ((posed_by zs).m * (posed_by zs).k + (posed_by zs).k * (posed_by zs).n)
count-is zs t = omega (arith, eqb-true (length zs) (5 + (posed_by zs).m * (posed_by zs).k + (posed_by zs).k * (posed_by zs).n) t.0)

fits : (zs : List ℤ) → Each (tests zs (posed_by zs)) → length zs ≤ 517
fits zs t =
    let m = leb-true (posed_by zs).m 16 t.1.1.1.0 in
    let k = leb-true (posed_by zs).k 16 t.1.1.1.1.0 in
    let n = leb-true (posed_by zs).n 16 t.1.1.1.1.1.0 in
    omega (arith, count-is zs t, mul-le-mul m k, mul-le-mul k n)

too_many : (zs : List ℤ) → 517 < length zs → posed (some zs) ≡ none
too_many zs h = go (every (tests zs (posed_by zs))) refl
  where
    go : (b : Bool) → every (tests zs (posed_by zs)) ≡ b → cond b (some (posed_by zs)) none ≡ none
    go true e = absurd (omega (arith, fits zs (every-each (tests zs (posed_by zs)) e)))
    go false e = refl

problem-is : (t : List ℕ) (o : Option (List ℤ)) → length t ≤ 8192 → numbers t ≡ o → problem t ≡ posed o
unfolding problem
problem-is t o h e = rw (le-leb (length t) 8192 h) (ap posed e)

-- what `parse` returns and leaves
abbrev pub Gives : List ℕ → code.Option (List ℕ) → List ℕ → Type 0
Gives t r out = (r ≡ asked (problem t)) × ElementsIn (problem t) out

-- what was read stands in the buffer, and nothing of a text that is too long
pub read_none : (t out : List ℕ) → 8192 < length t → out ≡ read_into t out
read_none t out h = sym (rw (lt-leb (length t) 8192 h))

pub read_some : (t out : List ℕ) → length t ≤ 8192 → put_front (front t) out ≡ read_into t out
read_some t out h = sym (rw (le-leb (length t) 8192 h))

pub parse-long : (t out : List ℕ) → 8192 < length t → Gives t None out
unfolding problem
parse-long t out h = rw (lt-leb (length t) 8192 h) (refl, tt)

pub parse-many : (t out : List ℕ) → length t ≤ 8192 → length out ≡ 517 → ((l : List ℕ) → held_in t ≡ some l → length out < length l) → Gives t None out
unfolding held_in
parse-many t out h k f = go (numbers t) refl f
  where
    go : (o : Option (List ℤ)) → numbers t ≡ o → ((l : List ℕ) → Option·map (map held) o ≡ some l → length out < length l) → Gives t None out
    go none e f = rw (problem-is t none h e) (refl, tt)
    go (some zs) e f = rw (problem-is t (some zs) h e ∙ too_many zs (omega (arith, f (map held zs) refl, length-map zs held))) (refl, tt)

elements-in : (zs : List ℤ) (out : List ℕ) (n : ℕ) → n ≤ length out → map held zs ≡ take n out → ElementsIn (posed (some zs)) out
elements-in zs out n h e = go (every (tests zs (posed_by zs))) refl
  where
    p : Problem
    p = posed_by zs

    go : (b : Bool) → every (tests zs p) ≡ b → ElementsIn (cond b (some p) none) out
    go false f = tt
    go true f =
        let c : 5 + (p.m * p.k + p.k * p.n) ≡ n = omega (arith, count-is zs (every-each (tests zs p) f), length-map zs held, ap length e, length-take-le n out h) in
        ap (map held) (take-append-drop (p.m * p.k) (drop 5 zs)) ∙ sym (drop-map held 5 zs) ∙ ap (drop 5) e
        ∙ ap (λ (x : ℕ). drop 5 (take x out)) (sym c) ∙ drop-take 5 (p.m * p.k + p.k * p.n) out

pub parse-all : (t out : List ℕ) (n : ℕ) (r : code.Option (List ℕ)) → length t ≤ 8192 → n ≤ length out → held_in t ≡ some (take n out)
    → ((zs : List ℤ) → map held zs ≡ take n out → r ≡ asked (posed (some zs))) → Gives t r out
unfolding held_in
parse-all t out n r h k e f = go (numbers t) refl e
  where
    go : (o : Option (List ℤ)) → numbers t ≡ o → Option·map (map held) o ≡ some (take n out) → Gives t r out
    go none g i = never (cc)
    go (some zs) g i = let l : map held zs ≡ take n out = cc in rw (problem-is t (some zs) h g) (f zs l, elements-in zs out n k l)

-- ---- what is known of a problem that a text poses

pub record Known (p : Problem) : Type 0 where
  pub formatted : format 32 p.sew p.factor ≡ true
  pub small-m : p.m ≤ 16
  pub small-k : p.k ≤ 16
  pub small_n : p.n ≤ 16
  pub length-a : length p.a ≡ p.m * p.k
  pub length-b : length p.b ≡ p.k * p.n
  pub elements : every (map (holds (2 ^ (p.sew - 1))) (p.a ++ p.b)) ≡ true

posed-known : (zs : List ℤ) → Each (tests zs (posed_by zs)) → Known (posed_by zs)
posed-known zs t =
    let p = posed_by zs in
    let c = count-is zs t in
    let d = length-drop 5 zs in
    record {
      formatted = t.1.1.0;
      small-m = leb-true p.m 16 t.1.1.1.0;
      small-k = leb-true p.k 16 t.1.1.1.1.0;
      small_n = leb-true p.n 16 t.1.1.1.1.1.0;
      length-a = omega (arith, length-take (p.m * p.k) (drop 5 zs));
      length-b = omega (arith, length-drop (p.m * p.k) (drop 5 zs));
      elements = ap (λ (l : List ℤ). every (map (holds (2 ^ (p.sew - 1))) l)) (take-append-drop (p.m * p.k) (drop 5 zs)) ∙ t.1.1.1.1.1.1.0;
    }

pub problem-known : (t : List ℕ) (p : Problem) → problem t ≡ some p → Known p
unfolding problem
problem-known t p e = text (leb (length t) 8192) e
  where
    passed : (zs : List ℤ) (b : Bool) → every (tests zs (posed_by zs)) ≡ b → cond b (some (posed_by zs)) none ≡ some p → Known p
    passed zs false g f = never (cc)
    passed zs true g f = let h : posed_by zs ≡ p = cc in subst Known h (posed-known zs (every-each (tests zs (posed_by zs)) g))

    read : (o : Option (List ℤ)) → posed o ≡ some p → Known p
    read none f = never (cc)
    read (some zs) f = passed zs (every (tests zs (posed_by zs))) refl f

    text : (b : Bool) → cond b (posed (numbers t)) none ≡ some p → Known p
    text false f = never (cc)
    text true f = read (numbers t) f
