-- Halving a number until it is 1, as its logarithm.
use Rattle.numbers.proofs.Kit.{◌≡◌, refl, ap, ℕ, zero, suc, ◌*◌, ◌/◌, ◌^◌, ◌≤◌, ◌<◌, pow-suc, arith, lt-ltb, le-ltb}
use Rattle.std.specs.Prelude.{max}
use Rattle.image.specs.Images.{log2}

pub log2_is : (f e x : ℕ) → e ≤ f → 2 ^ e ≤ x → x < 2 * 2 ^ e → log2 f x ≡ e
unfolding log2
log2_is zero zero x l h k = refl
log2_is zero (suc e) x l h k = absurd (omega arith)
log2_is (suc f) zero x l h k = let p : 2 ^ 0 ≡ 1 = refl in rw (lt-ltb x 2 (omega (arith, p)))
log2_is (suc f) (suc e) x l h k =
    let p = pow-suc 2 e in
    let two : 1 ≤ 2 ^ e = omega (arith, h, k, p) in
    rw (le-ltb x 2 (omega (arith, p, two))) (ap suc (log2_is f e (x / 2) (omega arith) (omega (arith, p)) (omega (arith, p))))

pub log2_least : (f n : ℕ) → log2 f (max n 1) ≡ log2 f n
unfolding log2
log2_least zero n = refl
log2_least (suc f) zero = refl
log2_least (suc f) (suc n) = ap (log2 (suc f)) {x = max (suc n) 1} {y = suc n} (omega arith)
