use Rattle.numbers.proofs.Kit.{◌≡◌, refl, ap₂, List, [], ◌∷◌, ℕ, zero, suc, ◌<◌, arith, length, get_or, replicate}
use Rattle.unit_start.proofs.clear.Goals as goal

all-zero : (ms : List ℕ) (n : ℕ) → length ms ≡ n → ((q : ℕ) → q < n → get_or ms q 0 ≡ 0) → ms ≡ replicate n 0
all-zero [] zero e h = refl
all-zero [] (suc n) e h = absurd (omega arith)
all-zero (m ∷ ms) zero e h = absurd (omega arith)
all-zero (m ∷ ms) (suc n) e h = ap₂ ◌∷◌ (h 0 (omega arith)) (all-zero ms n (omega arith) (λ q l. h (suc q) (omega arith)))

pub returns : goal.returns
returns c =
    let l = c.loop-mark in
    all-zero l.marks (length c.args.marks.now) l.auto.marks (λ q g. l.invariant q (omega arith))
