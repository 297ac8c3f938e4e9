-- Values and bits, with a NaN and without.
use Rattle.numbers.proofs.Kit.{◌≡◌, refl, sym, ◌∙◌, subst, Bool, true, false, not, true≢false, false≢true, ℕ, T}
use lib.Ieee.{Float, nan, inf, fin, binary32, ne, is_nan, nan_bits, of_bits, to_bits}
use lib.Ieee.Bits.{nan_bits_is}
use Rattle.numbers.specs.Binary32.{value_of, settled}

is-nan : (x : Float) → is_nan x ≡ true → x ≡ nan
unfolding is_nan
is-nan nan h = refl
is-nan (inf s) h = absurd (false≢true h)
is-nan (fin s m e) h = absurd (false≢true h)

-- a NaN's bits have the value `nan`
pub nan-value : (n : ℕ) → nan_bits binary32 n ≡ true → value_of n ≡ nan
unfolding value_of
nan-value n h = is-nan (of_bits binary32 n) (sym (nan_bits_is binary32 n) ∙ h)

pub no_nan : (b : Bool) → b ≡ false → T (not b)
no_nan b h = subst (λ (x : Bool). T (not x)) (sym h) tt

-- only a NaN differs from itself
pub equals_itself : (x : Float) → ne x x ≡ false → T (not (is_nan x))
unfolding ne is_nan
equals_itself nan h = absurd (true≢false h)
equals_itself (inf s) h = tt
equals_itself (fin s m e) h = tt

-- any other value is stored by its bits
pub stored_other : (x : Float) → T (not (is_nan x)) → to_bits binary32 x ≡ settled x
unfolding settled is_nan
stored_other nan h = absurd h
stored_other (inf s) h = refl
stored_other (fin s m e) h = refl
