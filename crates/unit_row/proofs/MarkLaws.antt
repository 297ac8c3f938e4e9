-- The marks of a row, whether each mark is 0 or 1, and a row that is copied.
use Rattle.numbers.proofs.Kit.{◌++◌, max, drop, take, set, append_assoc, drop-cons, length, length-take-le, take-suc, take_all}
use Rattle.std.proofs.lemmas.List.{set_at}
use Rattle.std.proofs.lemmas.Bool.Decides.{nat_tests}
use Rattle.numbers.specs.Upto.{upto}
use Rattle.numbers.proofs.Kit.{◌≡◌, refl, sym, ap, ap₂, ◌∙◌, subst, Bool, true, false, ◌&&◌, List, [], ◌∷◌, ℕ, zero, suc, ◌+◌, ◌*◌, ◌-◌, ◌^◌, ◌≤◌, ◌<◌}
use Rattle.numbers.proofs.Kit.{arith, add-one, eqb, ltb, get_or, eq-eqb, eqb-true, ltb-true, ltb-false}
use Rattle.numbers.specs.Tile.{get_le, byte_of}
use Rattle.numbers.proofs.PutLaws.{le-byte}
use Rattle.machine.specs.Tests.{all, every}
use Rattle.machine.proofs.TestLaws.{all-at, all_true, same_test, Each, every-each, each-every}

-- ---- the marks of a row

-- the number of w bytes that are all 1
abbrev ones : ℕ → ℕ
ones zero = 0
ones (suc w) = ones w + 1 * 256 ^ w

le_ones : (ms : List ℕ) (p w : ℕ) → ((b : ℕ) → b < w → get_or ms (p + b) 0 ≡ 1) → get_le ms p w ≡ ones w
le_ones ms p zero h = refl
le_ones ms p (suc w) h = ap₂ (λ (x y : ℕ). x + y * 256 ^ w) (le_ones ms p w (λ b l. h b (omega arith))) (h w (omega arith))

-- eight marks as one number
pub eight-marked : (ms : List ℕ) (p : ℕ) → ((q : ℕ) → get_or ms q 0 < 256) → eqb (get_le ms p 8) 0x0101_0101_0101_0101 ≡ all 8 (λ b. eqb (get_or ms (p + b) 0) 1)
eight-marked ms p small = same_test (eqb (get_le ms p 8) 0x0101_0101_0101_0101) (all 8 (λ b. eqb (get_or ms (p + b) 0) 1))
    (λ h. all_true 8 (λ b. eqb (get_or ms (p + b) 0) 1) (λ b l. eq-eqb (get_or ms (p + b) 0) 1
    (sym (le-byte ms small p 8 b l) ∙ ap (λ (v : ℕ). byte_of v b) (eqb-true (get_le ms p 8) 0x0101_0101_0101_0101 h) ∙ byte_one b l)))
    (λ h. eq-eqb (get_le ms p 8) 0x0101_0101_0101_0101 (le_ones ms p 8 (λ b l. eqb-true (get_or ms (p + b) 0) 1 (all-at 8 (λ b. eqb (get_or ms (p + b) 0) 1) h b l))))
  where
    byte_one : (b : ℕ) → b < 8 → byte_of 0x0101_0101_0101_0101 b ≡ 1
    byte_one b l = eqb-true (byte_of 0x0101_0101_0101_0101 b) 1 (all-at 8 (λ b. eqb (byte_of 0x0101_0101_0101_0101 b) 1) refl b l)

-- ---- the largest mark

larger-test : (a b : ℕ) → ltb (max a b) 2 ≡ (ltb a 2 && ltb b 2)
larger-test a b = grind (arith, nat_tests)

-- one more
pub most-more : (ms : List ℕ) (i j most mark : ℕ) → j ≡ i + 1 → mark ≡ get_or ms i 0 → ltb most 2 ≡ all i (λ k. ltb (get_or ms k 0) 2)
    → ltb (max most mark) 2 ≡ all j (λ k. ltb (get_or ms k 0) 2)
most-more ms i j most mark ej em e =
    larger-test most mark
    ∙ ap₂ (λ (s t : Bool). s && t) e (ap (λ (x : ℕ). ltb x 2) em)
    ∙ ap (λ (n : ℕ). all n (λ k. ltb (get_or ms k 0) 2)) (sym (ej ∙ add-one i))

-- ---- by quarters

abbrev pub fourth : (ℕ → Bool) → ℕ → ℕ → Bool
fourth p q k = every (p k ∷ p (q + k) ∷ p (q + q + k) ∷ p (q + q + q + k) ∷ [])

-- all of them
pub fourths : (p : ℕ → Bool) (q : ℕ) → all q (fourth p q) ≡ all (4 * q) p
fourths p q = same_test (all q (fourth p q)) (all (4 * q) p)
    (λ h. all_true (4 * q) p (λ n l. place h n l (ltb n q) refl (ltb n (q + q)) refl (ltb n (q + q + q)) refl))
    (λ h. all_true q (fourth p q) (λ k l. each-every (p k ∷ p (q + k) ∷ p (q + q + k) ∷ p (q + q + q + k) ∷ [])
    (all-at (4 * q) p h k (omega arith), (all-at (4 * q) p h (q + k) (omega arith), (all-at (4 * q) p h (q + q + k) (omega arith), (all-at (4 * q) p h (q + q + q + k) (omega arith), tt))))))
  where
    tests : all q (fourth p q) ≡ true → (k : ℕ) → k < q → Each (p k ∷ p (q + k) ∷ p (q + q + k) ∷ p (q + q + q + k) ∷ [])
    tests h k l = every-each (p k ∷ p (q + k) ∷ p (q + q + k) ∷ p (q + q + q + k) ∷ []) (all-at q (fourth p q) h k l)

    place : all q (fourth p q) ≡ true → (n : ℕ) → n < 4 * q → (a : Bool) → ltb n q ≡ a → (b : Bool) → ltb n (q + q) ≡ b → (c : Bool) → ltb n (q + q + q) ≡ c → p n ≡ true
    place h n l true ea b eb c ec = (tests h n (ltb-true n q ea)).0
    place h n l false ea true eb c ec =
        let f = ltb-false n q ea in
        let g = ltb-true n (q + q) eb in
        let e : q + (n - q) ≡ n = omega arith in
        subst (λ (x : ℕ). p x ≡ true) e (tests h (n - q) (omega arith)).1.0
    place h n l false ea false eb true ec =
        let f = ltb-false n (q + q) eb in
        let g = ltb-true n (q + q + q) ec in
        let e : q + q + (n - (q + q)) ≡ n = omega arith in
        subst (λ (x : ℕ). p x ≡ true) e (tests h (n - (q + q)) (omega arith)).1.1.0
    place h n l false ea false eb false ec =
        let f = ltb-false n (q + q + q) ec in
        let e : q + q + q + (n - (q + q + q)) ≡ n = omega arith in
        subst (λ (x : ℕ). p x ≡ true) e (tests h (n - (q + q + q)) (omega arith)).1.1.1.0

-- ---- a row that is copied

copied_part : (s d : List ℕ) (k : ℕ) → k ≤ length s → k ≤ length d → upto k (λ b ys. set ys b (get_or s b 0)) d ≡ take k s ++ drop k d
copied_part s d zero hs hd = refl
copied_part s d (suc k) hs hd =
    let ls : k < length s = omega arith in
    let ld : k < length d = omega arith in
    let n : length (take k s) ≡ k = length-take-le k s (omega arith) in
    ap (λ (ys : List ℕ). set ys k (get_or s k 0)) (copied_part s d k (omega arith) (omega arith) ∙ ap (λ (ys : List ℕ). take k s ++ ys) (drop-cons d k 0 ld))
    ∙ set_at (take k s) (get_or d k 0) (drop (suc k) d) (get_or s k 0) k n
    ∙ sym (ap (λ (ys : List ℕ). ys ++ drop (suc k) d) (take-suc s k 0 ls) ∙ append_assoc (take k s) (get_or s k 0 ∷ []) (drop (suc k) d))

pub copied : (s d : List ℕ) → length s ≤ length d → upto (length s) (λ b ys. set ys b (get_or s b 0)) d ≡ s ++ drop (length s) d
copied s d h = copied_part s d (length s) (omega arith) h ∙ ap (λ (ys : List ℕ). ys ++ drop (length s) d) (take_all (length s) s (omega arith))
