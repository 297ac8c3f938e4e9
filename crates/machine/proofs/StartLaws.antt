-- For code: permitted lengths by their parts, and what a return of `start` has to show.
use Rattle.numbers.proofs.Kit.{◌≡◌, refl, sym, ap, ap₂, ◌∙◌, Bool, true, false, cond, ◌&&◌, List, [], ◌∷◌, ℕ, suc, ◌+◌, ◌*◌, ◌-◌, ◌/◌, ◌%◌, ◌^◌, ◌≤◌, ◌<◌}
use Rattle.numbers.proofs.Kit.{div-add-mod', add-div_right, arith, leb, ltb, eqb, length, replicate, get_or, drop, length-drop, drop-cons, le-leb, lt-leb}
use Rattle.numbers.proofs.Kit.{leb-true, eqb-true, Err}
use Rattle.machine.proofs.TestLaws.{same_test, false-true, every-each}
use Rattle.machine.specs.declared.Refusal.TheVariants.{BadArguments, TooManySeals}
use Rattle.machine.specs.Answers.{is_done, Done, Answer}
use Rattle.machine.specs.Tests.{is_in, every}
use Rattle.machine.specs.Geometry.{range, permitted, rlens, mlens, elens}
use Rattle.machine.specs.Starting.{is_rule, seal_ends, seals_end, most_seals, ranges, paired, startable, start_machine, started_as, StartOutcome, fresh_machine, no_machine}

pub and-truth : (t : Bool) → t ≡ t && true
and-truth true = refl
and-truth false = refl

pub permitted-by : (r m e : ℕ) (a b c d : Bool) → is_in r rlens ≡ a → is_in m mlens ≡ b → ltb r m ≡ c → is_in e elens ≡ d
    → a && (b && (c && (d && ltb e r))) ≡ permitted r m e
unfolding permitted
permitted-by r m e a b c d p q s t = rw (p, q, s, t) (ap (λ (x : Bool). a && (b && (c && (d && x)))) (and-truth (ltb e r)))

-- the seal's end, without a sum that could wrap
pub seal-fits : (start size : ℕ) → start ≤ 2 ^ 64 - 1 → leb size (2 ^ 64 - 1 - start) ≡ seal_ends start size
seal-fits start size h = same_test (leb size (2 ^ 64 - 1 - start)) (seal_ends start size)
    (λ t. le-leb (start + size) (2 ^ 64 - 1) (omega (arith, leb-true size (2 ^ 64 - 1 - start) t)))
    (λ t. le-leb size (2 ^ 64 - 1 - start) (omega (arith, leb-true (start + size) (2 ^ 64 - 1) t)))

-- by its tests
pub startable-by : (rlen mlen elen rule : ℕ) (seals registers marks : List ℕ) (p q r s t u : Bool)
    → permitted rlen mlen elen ≡ p → eqb (length registers) (2 * mlen) ≡ q → eqb (length marks) (2 * mlen) ≡ r → is_rule rule ≡ s → paired seals ≡ t → seals_end (ranges seals) ≡ u
    → every (p ∷ q ∷ r ∷ s ∷ t ∷ u ∷ []) ≡ startable rlen mlen elen rule seals registers marks
unfolding startable
startable-by rlen mlen elen rule seals registers marks p q r s t u hp hq hr hs ht hu = rw (hp, hq, hr, hs, ht, hu)

pub startable-paired : (rlen mlen elen rule : ℕ) (seals registers marks : List ℕ) → startable rlen mlen elen rule seals registers marks ≡ true → paired seals ≡ true
unfolding startable
startable-paired rlen mlen elen rule seals registers marks h =
    (every-each (permitted rlen mlen elen ∷ eqb (length registers) (2 * mlen) ∷ eqb (length marks) (2 * mlen) ∷ is_rule rule ∷ paired seals ∷ seals_end (ranges seals) ∷ []) h).1.1.1.1.0

-- ---- ranges in numbers

pub ranges-count : (numbers : List ℕ) → length (ranges numbers) ≡ length numbers / 2
ranges-count [] = refl
ranges-count (start ∷ []) = refl
ranges-count (start ∷ size ∷ rest) = ap suc (ranges-count rest) ∙ omega (arith, add-div_right (length rest) {k = 2} (omega arith))

pub few-ranges : (numbers : List ℕ) → length numbers ≤ 16 → leb (length (ranges numbers)) most_seals ≡ true
few-ranges numbers h = le-leb (length (ranges numbers)) 8 (omega (arith, ranges-count numbers, div-add-mod' (length numbers) 2))

pub many-ranges : (numbers : List ℕ) → paired numbers ≡ true → 16 < length numbers → leb (length (ranges numbers)) most_seals ≡ false
many-ranges numbers e h =
    lt-leb (length (ranges numbers)) 8 (omega (arith, ranges-count numbers, div-add-mod' (length numbers) 2, eqb-true (length numbers % 2) 0 e))

-- the ranges of the numbers from one on
pub ranges-from : (numbers : List ℕ) (i : ℕ) → i + 2 ≤ length numbers
    → ranges (drop i numbers) ≡ range (get_or numbers i 0) (get_or numbers (i + 1) 0) ∷ ranges (drop (i + 2) numbers)
ranges-from numbers i l =
    let e : i + 1 ≡ suc i = omega arith in
    let f : i + 2 ≡ suc (suc i) = omega arith in
    rw (e, f) (ap ranges (drop-cons numbers i 0 (omega arith) ∙ ap (λ (z : List ℕ). get_or numbers i 0 ∷ z) (drop-cons numbers (suc i) 0 (omega arith))))

pub ranges-end : (numbers : List ℕ) (i : ℕ) → length numbers < i + 2 → ranges (drop i numbers) ≡ []
ranges-end numbers i l = short (drop i numbers) (omega (arith, length-drop i numbers))
  where
    short : (xs : List ℕ) → length xs ≤ 1 → ranges xs ≡ []
    short [] h = refl
    short (x ∷ []) h = refl
    short (x ∷ y ∷ xs) h = absurd (omega arith)

-- ---- what a start leaves, by its two tests

module _ (rlen mlen elen rule : ℕ) (seals registers marks : List ℕ) where
  abbrev answered : Bool → Bool → Answer
  answered t u = cond t (cond u Done (Err TooManySeals)) (Err BadArguments)

  abbrev out : Bool → Bool → StartOutcome
  out t u =
      cond (is_done (answered t u)) (started_as (record { answer = answered t u; machine = fresh_machine rlen mlen elen rule }) seals registers (replicate (length marks) 0))
      (started_as (record { answer = answered t u; machine = no_machine }) seals registers marks)

  abbrev whole : StartOutcome
  whole = start_machine rlen mlen elen rule seals registers marks

  pub started-as : (t u : Bool) → startable rlen mlen elen rule seals registers marks ≡ t → leb (length (ranges seals)) most_seals ≡ u → out t u ≡ whole
  unfolding start_machine
  started-as t u e f = ap₂ out (sym e) (sym f)

  -- refused for its arguments, whatever the number of ranges
  pub started-bad : startable rlen mlen elen rule seals registers marks ≡ false
      → started_as (record { answer = (Err BadArguments); machine = no_machine }) seals registers marks ≡ whole
  started-bad e = started-as false (leb (length (ranges seals)) most_seals) e refl

  -- an accepted start
  pub record Accepted : Type 0 where
    pub fits : startable rlen mlen elen rule seals registers marks ≡ true
    pub few : leb (length (ranges seals)) most_seals ≡ true
    pub leaves : whole ≡ started_as (record { answer = Done; machine = fresh_machine rlen mlen elen rule }) seals registers (replicate (length marks) 0)

  pub accepted : whole.answer.number ≡ 0 → Accepted
  accepted h = go (startable rlen mlen elen rule seals registers marks) (leb (length (ranges seals)) most_seals) refl refl
    where
      go : (t u : Bool) → startable rlen mlen elen rule seals registers marks ≡ t → leb (length (ranges seals)) most_seals ≡ u → Accepted
      go true true e f = record { fits = e; few = f; leaves = sym (started-as true true e f) }
      go true false e f = absurd (false-true (ap (λ (n : ℕ). eqb n 0) (ap (λ (o : StartOutcome). o.answer.number) (started-as true false e f) ∙ h)))
      go false u e f = absurd (false-true (ap (λ (n : ℕ). eqb n 0) (ap (λ (o : StartOutcome). o.answer.number) (started-as false u e f) ∙ h)))
