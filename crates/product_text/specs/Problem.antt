-- 01, the program `product`: the problem that a text poses, if it poses one.
use Rattle.std.specs.Prelude.{◌∷◌, ◌+◌, ◌*◌, ◌-◌, ◌^◌}
use Rattle.numbers.specs.Kit.{Bool, true, false, cond, List, [], map, Option, none, some, ℕ, eqb, leb, ltb, length, take, drop}
use Rattle.numbers.specs.Kit.{get_or, ℤ, pos, negsuc, nat_abs}
use Rattle.machine.specs.Tests.{all, every}
use Rattle.run.specs.Start.{format}
use Rattle.product_memory.specs.Memory.{product_machine}
use Rattle.product_text.specs.Text.{numbers}

-- "SEW, f, m, k, n (sizes at most 16), A by rows, B by rows"
pub record Problem : Type 0 where
  pub sew : ℕ
  pub factor : ℕ
  pub m : ℕ
  pub k : ℕ
  pub n : ℕ
  pub a : List ℤ
  pub b : List ℤ

abbrev pub nth : List ℤ → ℕ → ℤ
nth zs i = get_or zs i (pos 0)

-- the problem of the numbers zs, in that order
abbrev pub posed_by : List ℤ → Problem
posed_by zs =
    let m = nat_abs (nth zs 2) in
    let k = nat_abs (nth zs 3) in
    record {
      sew = nat_abs (nth zs 0);
      factor = nat_abs (nth zs 1);
      m = m;
      k = k;
      n = nat_abs (nth zs 4);
      a = take (m * k) (drop 5 zs);
      b = drop (m * k) (drop 5 zs);
    }

-- z is not below 0
abbrev pub from_zero : ℤ → Bool
from_zero (pos x) = true
from_zero (negsuc x) = false

-- z is from -h to h - 1
abbrev pub holds : ℕ → ℤ → Bool
holds h (pos x) = ltb x h
holds h (negsuc x) = ltb x h

-- what is asked of the numbers zs of the problem p
abbrev pub tests : List ℤ → Problem → List Bool
tests zs p =
    -- "Any other text": there are five numbers and the elements of A and B, no fewer and no more
    eqb (length zs) (5 + p.m * p.k + p.k * p.n)
    -- the five are not below 0
    ∷ all 5 (λ i. from_zero (nth zs i))
    -- "numbers the run refuses with 8": "SEW not 8, 16 or 32, f not 1, 2 or 4, f x SEW above ELEN" (no size up to 16 is above 1,024)
    ∷ format product_machine.elen p.sew p.factor
    -- "a size not from 0 to 16"
    ∷ leb p.m 16
    ∷ leb p.k 16
    ∷ leb p.n 16
    -- "or an element that SEW can't hold as a signed number"
    ∷ every (map (holds (2 ^ (p.sew - 1))) (drop 5 zs)) ∷ []

abbrev pub posed : Option (List ℤ) → Option Problem
posed none = none
posed (some zs) = cond (every (tests zs (posed_by zs))) (some (posed_by zs)) none

-- the problem of a text: none where it is refused, also for "input above 8,192 bytes"
unfoldable pub problem : List ℕ → Option Problem
problem t = cond (leb (length t) 8192) (posed (numbers t)) none
