-- For code: the number of blocks and of steps stays small.
use Rattle.numbers.proofs.Kit.{ℕ, zero, suc, ◌+◌, ◌*◌, ◌-◌, ◌≤◌, ◌<◌, zero-lt-suc, div-zero, div-lt_iff_lt-mul, mul-le-mul, mul-le-mul_right, arith}
use Rattle.numbers.specs.Blocks.{count}

pub count-least : (max n : ℕ) → count max n ≤ n
count-least zero n = omega (arith, div-zero (n + (0 - 1)))
count-least (suc d) n =
    let l : n + (suc d - 1) < suc n * suc d = omega (arith, mul-le-mul_right n (zero-lt-suc d)) in
    omega (arith, (div-lt_iff_lt-mul {k = suc d} {x = n + (suc d - 1)} {y = suc n} (omega arith)).1 l)

-- up to 1,024 blocks of rows, columns and terms
module _ (m n k : ℕ) (hm : m ≤ 1024) (hn : n ≤ 1024) (hk : k ≤ 1024) where
  pub few-inner : n * (3 + 4 * k) ≤ 1024 * 4099
  few-inner = mul-le-mul {n₂ = 1024} {m₂ = 4099} hn (omega arith)

  pub few-outer : m * (1 + n * (3 + 4 * k)) ≤ 1024 * 4197377
  few-outer = let i = few-inner in mul-le-mul {n₂ = 1024} {m₂ = 4197377} hm (omega arith)
