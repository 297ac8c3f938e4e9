-- The widths of elements, in bytes.
use Rattle.std.specs.Prelude.{◌≡◌, ◌⊎◌}
use Rattle.numbers.specs.Kit.{ℕ}

abbrev pub Width : ℕ → Type 0
Width w = (w ≡ 1) ⊎ ((w ≡ 2) ⊎ ((w ≡ 4) ⊎ (w ≡ 8)))

-- those that 32 bits hold
abbrev pub Short : ℕ → Type 0
Short w = (w ≡ 1) ⊎ ((w ≡ 2) ⊎ (w ≡ 4))

-- those that 16 bits hold
abbrev pub Narrow : ℕ → Type 0
Narrow w = (w ≡ 1) ⊎ (w ≡ 2)
