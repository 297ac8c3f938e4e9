-- The kit's names, for all crates above: equality, numbers, lists and tests.
unfoldable pub use Rattle.std.proofs.Math.Path.{◌∙◌, ◌≡◌, ap, ap₂, fun_ext, refl, subst, subst⁻¹, sym}
pub use Rattle.std.specs.Prelude.{◌⊎◌, Bool, false, true, ◌%◌, ◌*◌, ◌+◌, ◌-◌, ◌/◌, ◌^◌, ◌≤◌, max, min, suc, zero, ℕ, negsuc, pos, ℤ}
pub use Rattle.std.proofs.Common.{inl, inr, zero-le, drop_of_length-le, length-append, length-drop, length-set, length-take, take-append-drop, drop_at, drop-cons, drop-drop, drop-set-lt, ext_get_or, get_or-append-add, get_or-drop, get_or-set_other, get_or-set_same, get_or-take, length-take-le, take-add, take_all, take_at, take-suc, take-suc-set, take-take}
unfoldable pub use Rattle.std.proofs.Math.Logic.{◌↔◌, ◌≢◌, ⊎_elim}
unfoldable pub use Rattle.std.proofs.Math.Bool.{◌&&◌, ◌||◌, cond, false≢true, not, true≢false}
pub use mathlib.Core.List.Memᴰ.{cases_cons as List·Memᴰ·cases-cons}
pub use mathlib.Core.List.Memᴰ.{head as List·Memᴰ·head}
pub use mathlib.Core.List.Memᴰ.{not-nil as List·Memᴰ·not-nil}
pub use mathlib.Core.List.Memᴰ.{tail as List·Memᴰ·tail}
pub use mathlib.Core.List.{List, Memᴰ as List-as-Memᴰ, [], ◌∷◌, append_assoc, append-nil}
unfoldable pub use mathlib.Core.List.{◌++◌, map}
pub use Rattle.std.proofs.Math.Option.{Option, none-ne-some as Option·none-ne-some, some-injective as Option·some-injective, none, some}
unfoldable pub use Rattle.std.proofs.Math.Option.{get_or as Option·getD, map as Option·map}
unfoldable pub use Prim.Native.Nat.{◌<◌, pred}
unfoldable pub use Rattle.std.proofs.Math.Dec.{T, eqb, leb, ltb}
pub use Rattle.std.proofs.Math.ListN.{get_or-append as List·getD-append, get_or-eq_default as List·getD-eq-default}
pub use Rattle.std.proofs.lemmas.List.{get_or-replicate, length-replicate, get_or_at, set-get_or}
unfoldable pub use Rattle.std.proofs.Math.ListN.{drop, get_or, length, length-map, replicate, set, take}
pub use Rattle.std.proofs.Math.IntN.{*ℤ_comm, *ℤ-negsuc, *ℤ-one, *ℤ-zero, +ℤ_assoc, +ℤ_comm, +ℤ_idl, +ℤ_idr, neg_ℤ-+ℤ, pos-ne-negsuc, zero-*ℤ}
unfoldable pub use Rattle.std.proofs.Math.IntN.{◌*ℤ◌, ◌+ℤ◌, ◌-ℤ◌, nat_abs, neg_ℤ, one, sub_ℕ}
pub use Rattle.std.proofs.Math.Seq.{length-sets, take-append-add, take-append_seam, take-nil}
pub use Rattle.std.proofs.lemmas.List.Edits.{sets-eq}
unfoldable pub use Rattle.std.proofs.Math.Seq.{sets}
pub use Rattle.std.specs.Prelude.{Result, Ok, Err}
