-- The kit's names for proofs: those of specs/Kit.antt, its laws, and what `omega` and `search` go by.
unfoldable pub use mathlib.Core.Path.{◌∙◌, ◌≡◌, ap, ap₂, fun_ext, refl, subst, subst⁻¹, sym}
pub use mathlib.Core.Logic.{◌⊎◌, inl, inr}
unfoldable pub use mathlib.Core.Logic.{◌↔◌, ◌≢◌, ⊎_elim}
pub use mathlib.Core.Bool.{Bool, false, true}
unfoldable pub use mathlib.Core.Bool.{◌&&◌, ◌||◌, cond, false≢true, not, true≢false}
pub use mathlib.Core.List.Memᴰ.{cases_cons as List·Memᴰ·cases-cons}
pub use mathlib.Core.List.Memᴰ.{head as List·Memᴰ·head}
pub use mathlib.Core.List.Memᴰ.{not-nil as List·Memᴰ·not-nil}
pub use mathlib.Core.List.Memᴰ.{tail as List·Memᴰ·tail}
pub use mathlib.Core.List.{List, Memᴰ as List-as-Memᴰ, [], ◌∷◌, append_assoc, append-nil}
unfoldable pub use mathlib.Core.List.{◌++◌, map}
pub use mathlib.Core.Option.{Option, none-ne-some as Option·none-ne-some, some-injective as Option·some-injective, none, some}
unfoldable pub use mathlib.Core.Option.{get_or as Option·getD, map as Option·map}
pub use Prim.Native.Nat.{◌%◌, ◌*◌, ◌+◌, ◌-◌, ◌/◌, ◌^◌, ◌≤◌, max, min, suc, zero, zero-le, ℕ}
unfoldable pub use Prim.Native.Nat.{◌<◌, pred}
pub use native.Mathlib.Nat.{add_assoc, add_comm, add-div_right, add-mod, add-mul, add-mul-div_right, add-mul-mod_self_right, add-suc, add-zero}
pub use native.Mathlib.Nat.{div-add-mod', div-div-eq-div-mul, div-eq_of_lt, div-eq_of_lt-le, div-le_self, div-lt_iff_lt-mul, div-mul-le_self, div-one}
pub use native.Mathlib.Nat.{div-zero, dvd-mul_right, eq-or-lt_of_le, eq-zero-or-pos, le-div_iff_mul-le, le-mul_of_pos_right, le_of_lt, le_of_suc-le-suc}
pub use native.Mathlib.Nat.{le_refl, lt_irrefl, lt_of_le_of_lt, lt_of_not-le, min-le_left, min-le_right, mod-eq_of_lt, mod-lt, mod-mod, mod-mod_of_dvd}
pub use native.Mathlib.Nat.{mod-one, mul-add-div_right, mul-add-mod_self_left, mul_assoc, mul_comm, mul-le-mul, mul-le-mul_left, mul-le-mul_right}
pub use native.Mathlib.Nat.{mul-lt-mul_of_pos_right, mul-mul-mul_comm, mul-one, mul-pos, mul-sub, mul-zero, not-suc-le-zero, one-le-pow, one-mul}
pub use native.Mathlib.Nat.{pow-le-pow_right, pow-suc, pow-succ', pow-zero, sub-add-eq, sub-eq-zero_of_le, sub_self, sub-zero, suc-add, suc-mul}
pub use native.Mathlib.Nat.{suc-pred-eq_of_pos, zero-add, zero-lt-suc, zero-mul}
pub use native.Mathlib.Omega.{arith}
pub use native.Mathlib.Numerals.{add-one}
unfoldable pub use native.Mathlib.Decide.{dec_le, dec_lt, ℕ_discrete}
unfoldable pub use lib.Dec.{T, eqb, leb, ltb}
pub use lib.ListN.{get_or-append as List·getD-append, get_or-eq_default as List·getD-eq-default, drop_of_length-le, get_or-replicate, length-append, length-drop, length-replicate, length-set}
pub use lib.ListN.{length-take, take-append-drop}
unfoldable pub use lib.ListN.{drop, get_or, length, length-map, replicate, set, take}
pub use lib.Seq.{drop_at, drop-cons, drop-drop, drop-set-lt, ext_get_or, get_or-append-add, get_or_at, get_or-drop, get_or-set_other, get_or-set_same, get_or-take}
pub use lib.Seq.{length-sets, length-take-le, set-get_or, sets-eq, take-add, take_all, take-append-add, take-append_seam, take_at, take-nil, take-suc}
pub use lib.Seq.{take-suc-set, take-take}
unfoldable pub use lib.Seq.{sets}
pub use lib.IntN.{*ℤ_comm, *ℤ-negsuc, *ℤ-one, *ℤ-zero, +ℤ_assoc, +ℤ_comm, +ℤ_idl, +ℤ_idr, negsuc, neg_ℤ-+ℤ, pos, pos-ne-negsuc, zero-*ℤ, ℤ}
unfoldable pub use lib.IntN.{◌*ℤ◌, ◌+ℤ◌, ◌-ℤ◌, nat_abs, neg_ℤ, one, sub_ℕ}
pub use lib.Arith.{mod-mul}
pub use lib.Pow.{pow-add}
unfoldable pub use lib.Pow.{pow_mono, pow_pos}
pub use borrow.Author.Tests.{eq-eqb, eqb-false, eqb-true, le-leb, le-ltb, leb-false, leb-true, lt-leb, lt-ltb, ltb-false, ltb-true, ne_eqb, not-false}
pub use borrow.Author.Tests.{not-true}
pub use borrow.Author.Rules.{rules}
pub use Rattle.std.specs.Prelude.{Result, Ok, Err}
