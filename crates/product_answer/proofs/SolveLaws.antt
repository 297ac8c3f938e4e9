-- The numbers as they are held stand for the problem's elements, so C has the sums that the answer writes.
use Rattle.numbers.proofs.Kit.{◌≡◌, refl, sym, ap, ap₂, ◌∙◌, true, List, [], ◌∷◌, ◌++◌, map, Option, none, some, ℕ, zero, suc, ◌+◌, ◌*◌, ◌-◌, ◌/◌, ◌%◌, ◌^◌}
use Rattle.numbers.proofs.Kit.{◌<◌, min, mul-le-mul, arith, length, drop, get_or, length-append, List·getD-append, get_or-take}
use Rattle.numbers.proofs.Kit.{get_or-drop, get_or-append-add, ℤ, pos, negsuc, ltb-true}
use Rattle.numbers.specs.Reduce.{signed, reduce}
use Rattle.machine.specs.Tests.{every}
use Rattle.machine.proofs.TestLaws.{and_left, and_right}
use Rattle.run.specs.Words.{steps}
use Rattle.run.specs.Plan.{shape, product_of}
use Rattle.run.specs.Start.{format}
use Rattle.product_memory.specs.Memory.{product_machine, job_for, filled}
use Rattle.product_memory.proofs.MemoryLaws.{level-signed, sum-here}
use Rattle.std.specs.Prelude.{Some, None}
use Rattle.product_text.specs.Problem.{Problem, problem, nth, holds}
use Rattle.text_lines.specs.Lines.{accepted, refused}
use Rattle.product_text.specs.Output.{steps_of, modulus, sum_at, product_rows, answer_text, output_for}
use Rattle.text_lines.specs.Parts.{signed_all, rows_of}
use Rattle.product_text.specs.Parts.{held, ElementsIn}
use Rattle.product_text.proofs.ProblemLaws.{Known, asked, problem-known, held_at, format-sew, format-half}
use Rattle.product_text.proofs.OutputLaws.{rows_are}

-- ---- a number as it is held

-- a number that SEW holds, cut to SEW bits, stands for itself
module _ (sew f : ℕ) (formatted : format 32 sew f ≡ true) where
  held-signed : (z : ℤ) → holds (2 ^ (sew - 1)) z ≡ true → signed (256 ^ (sew / 8)) (held z % 256 ^ (sew / 8)) ≡ z
  held-signed (pos v) h =
      let l = ltb-true v (2 ^ (sew - 1)) h in
      let e : 0x1_0000_0000 + min v 0x1_0000_0000 ≡ 0x1_0000_0000 + v = omega (arith, format-half sew f formatted) in
      ap (λ (x : ℕ). signed (256 ^ (sew / 8)) (x % 256 ^ (sew / 8))) e ∙ (level-signed sew (format-sew sew f formatted) v l).0
  held-signed (negsuc v) h =
      let l = ltb-true v (2 ^ (sew - 1)) h in
      let e : 0x1_0000_0000 - min (suc v) 0x1_0000_0000 ≡ 0x1_0000_0000 - suc v = omega (arith, format-half sew f formatted) in
      ap (λ (x : ℕ). signed (256 ^ (sew / 8)) (x % 256 ^ (sew / 8))) e ∙ (level-signed sew (format-sew sew f formatted) v l).1

each_holds : (h : ℕ) (zs : List ℤ) → every (map (holds h) zs) ≡ true → (i : ℕ) → i < length zs → holds h (nth zs i) ≡ true
each_holds h [] t i l = absurd (omega arith)
each_holds h (z ∷ zs) t zero l = and_left (holds h z) (every (map (holds h) zs)) t
each_holds h (z ∷ zs) t (suc i) l = each_holds h zs (and_right (holds h z) (every (map (holds h) zs)) t) i (omega arith)

-- ---- the answer to a problem

-- the memory with the numbers' elements laid in it
abbrev laid : (numbers : List ℕ) (sew m k n : ℕ) → List ℕ → List ℕ
laid numbers sew m k n mem = filled (sew / 8) m k n (λ q. get_or numbers (5 + q) 0) (λ q. get_or numbers (5 + m * k + q) 0) mem

-- what the calls of `solve` leave, written, is the answer: full is the memory with the elements, c what was read of C, q the modulus
abbrev pub Solved : (numbers answer : List ℕ) (sew f m k n : ℕ) → Type 0
Solved numbers answer sew f m k n =
    (mem full c : List ℕ) (count q : ℕ) → length mem ≡ 3072 → full ≡ laid numbers sew m k n mem → length c ≡ 256
    → count ≡ steps (shape (job_for sew f m k n full)) → ((i j : ℕ) → i < m → j < n → get_or c (i * n + j) 0 ≡ product_of (job_for sew f m k n full) i j)
    → q ≡ 256 ^ (f * (sew / 8)) → accepted count (rows_of m n (signed_all q c)) ≡ answer

module _ (p : Problem) (K : Known p) (numbers : List ℕ) (held_in : ElementsIn (some p) numbers) where
  abbrev sew_modulus : ℕ
  sew_modulus = 256 ^ (p.sew / 8)

  -- the elements of A and then of B, as they are held, cut to SEW bits
  element-is : (q : ℕ) → q < p.m * p.k + p.k * p.n → signed sew_modulus (get_or numbers (5 + q) 0 % sew_modulus) ≡ nth (p.a ++ p.b) q
  element-is q l =
      let l' : q < length (p.a ++ p.b) = omega (arith, length-append p.a p.b, K.length-a, K.length-b) in
      let e : get_or numbers (5 + q) 0 ≡ held (nth (p.a ++ p.b) q) =
      sym (get_or-drop 5 numbers q 0) ∙ sym (get_or-take (p.m * p.k + p.k * p.n) (drop 5 numbers) q 0 l)
      ∙ ap (λ (xs : List ℕ). get_or xs q 0) (sym held_in) ∙ held_at q (p.a ++ p.b) l' in
      ap (λ (x : ℕ). signed sew_modulus (x % sew_modulus)) e
      ∙ held-signed p.sew p.factor K.formatted (nth (p.a ++ p.b) q) (each_holds (2 ^ (p.sew - 1)) (p.a ++ p.b) K.elements q l')

  a-is : (q : ℕ) → q < p.m * p.k → signed sew_modulus (get_or numbers (5 + q) 0 % sew_modulus) ≡ nth p.a q
  a-is q l = element-is q (omega arith) ∙ List·getD-append p.a p.b (pos 0) q (omega (arith, K.length-a))

  b-is : (q : ℕ) → q < p.k * p.n → signed sew_modulus (get_or numbers (5 + p.m * p.k + q) 0 % sew_modulus) ≡ nth p.b q
  b-is q l =
      let e : 5 + p.m * p.k + q ≡ 5 + (length p.a + q) = omega (arith, K.length-a) in
      ap (λ (x : ℕ). signed sew_modulus (get_or numbers x 0 % sew_modulus)) e
      ∙ element-is (length p.a + q) (omega (arith, K.length-a)) ∙ get_or-append-add p.a p.b q (pos 0)

  solved-by : Solved numbers (accepted (steps_of p) (product_rows p)) p.sew p.factor p.m p.k p.n
  unfolding steps_of
  solved-by mem full c count q len is-laid size counted product is-q =
      let sums : (i j : ℕ) → i < p.m → j < p.n → get_or c (i * p.n + j) 0 ≡ reduce (modulus p) (sum_at p i j) = λ i j hi hj.
      product i j hi hj ∙ ap (λ (l : List ℕ). product_of (job_for p.sew p.factor p.m p.k p.n l) i j) is-laid
      ∙ sum-here p.sew p.factor p.m p.k p.n K.formatted K.small-m K.small-k K.small_n (λ q. get_or numbers (5 + q) 0)
      (λ q. get_or numbers (5 + p.m * p.k + q) 0) mem len product_machine (nth p.a) (nth p.b) a-is b-is i j hi hj in
      ap₂ accepted counted
      (ap (λ (q : ℕ). rows_of p.m p.n (signed_all q c)) is-q ∙ rows_are p c (omega (arith, mul-le-mul K.small-m K.small_n)) sums)

-- ---- the answer to a text

pub solved : (t numbers : List ℕ) (sew f m k n : ℕ) → Some (sew ∷ f ∷ m ∷ k ∷ n ∷ []) ≡ asked (problem t) → ElementsIn (problem t) numbers
    → Solved numbers (answer_text t) sew f m k n
unfolding answer_text
solved t numbers sew f m k n = go (problem t) refl
  where
    go : (o : Option Problem) → problem t ≡ o → Some (sew ∷ f ∷ m ∷ k ∷ n ∷ []) ≡ asked o → ElementsIn o numbers → Solved numbers (output_for o) sew f m k n
    go none e s h = let z : ◌≡◌ {A = ℕ} 0 1 = cc in absurd (omega arith)
    go (some p) e s h =
        let sew-is : sew ≡ p.sew = cc in
        let f-is : f ≡ p.factor = cc in
        let m-is : m ≡ p.m = cc in
        let k-is : k ≡ p.k = cc in
        let n-is : n ≡ p.n = cc in
        rw (sew-is, f-is, m-is, k-is, n-is) (solved-by p (problem-known t p e) numbers h)

pub refused-is : (t : List ℕ) → None ≡ asked (problem t) → refused ≡ answer_text t
unfolding answer_text
refused-is t h = go (problem t) h
  where
    go : (o : Option Problem) → None ≡ asked o → refused ≡ output_for o
    go none e = refl
    go (some p) e = let z : ◌≡◌ {A = ℕ} 0 1 = cc in absurd (omega arith)
