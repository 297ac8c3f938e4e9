-- How a size is cut into blocks: each block takes what the machine grants of the rest.
use Rattle.std.specs.Prelude.{◌≡◌, ◌∷◌, ◌+◌, ◌*◌, ◌-◌, ◌/◌, ◌≤◌, ◌<◌}
use Rattle.numbers.specs.Kit.{cond, List, [], ℕ, zero, suc, ltb}

-- a choice of sizes, out of the maximum and what is asked, that keeps the three constraints of source document 001: "mtilem = ATM if
-- ATM <= TMMAX"; "ceil(ATM / 2) <= mtilem <= TMMAX if ATM < (2 * TMMAX)"; "mtilem = TMMAX if ATM >= (2 * TMMAX)"
pub record Grants (grant : ℕ → ℕ → ℕ) : Type 0 where
  pub small : (max asked : ℕ) → asked ≤ max → grant max asked ≡ asked
  pub middle : (max asked : ℕ) → asked < 2 * max → (asked ≤ 2 * grant max asked) × (grant max asked ≤ max)
  pub large : (max asked : ℕ) → 2 * max ≤ asked → grant max asked ≡ max

-- one for each rule that a machine may have: a size out of the rule, the maximum and what is asked
abbrev pub Choice : Type 0
Choice = ℕ → ℕ → ℕ → ℕ

abbrev pub EachGrants : Choice → Type 0
EachGrants grant = (rule : ℕ) → Grants (grant rule)

-- the number of blocks, rounded up
abbrev pub count : ℕ → ℕ → ℕ
count max rest = (rest + (max - 1)) / max

-- the starts of blocks from s on, for as long as something is left, but no more than c of them
abbrev pub starts : (ℕ → ℕ → ℕ) → ℕ → ℕ → ℕ → ℕ → List ℕ
starts grant max total zero s = []
starts grant max total (suc c) s = cond (ltb s total) (s ∷ starts grant max total c (s + grant max (total - s))) []

-- of all blocks from s on: where each takes at least 1, there are no more than what is left
unfoldable pub chunks : (ℕ → ℕ → ℕ) → ℕ → ℕ → ℕ → List ℕ
chunks grant max total s = starts grant max total (total - s) s
