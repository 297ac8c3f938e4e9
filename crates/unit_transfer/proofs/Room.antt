-- What `load` and `store` require follows from a sound machine and the checks of answers 2 to 4.
use Rattle.numbers.proofs.Kit.{◌≡◌, refl, sym, subst, inl, inr, Bool, true, false, ◌&&◌, ◌||◌, List, ℕ, zero, suc, ◌+◌, ◌*◌, ◌%◌, ◌^◌, ◌≤◌, ◌<◌, arith, eqb}
use Rattle.numbers.proofs.Kit.{leb, ltb, length, eqb-true, leb-true, ltb-true, not-true}
use Rattle.numbers.specs.Blocks.{Choice}
use Rattle.numbers.specs.Bounds.{most_elen}
use Rattle.machine.specs.declared.Machine.{Machine}
use Rattle.machine.specs.declared.Matrix.{Matrix}
use Rattle.machine.specs.declared.Matrix.TheVariants.{MatrixA, MatrixB, MatrixC}
use Rattle.machine.specs.Tests.{is_in}
use Rattle.machine.specs.Geometry.{elens, Parameters, parameters, State, state_of, start_of, pitch_of, register_count}
use Rattle.machine.specs.Setting.{sew, maccq, mill}
use Rattle.machine.specs.Operation.{tile_rows, tile_cols}
use Rattle.machine.specs.TransferWords.{width_of}
use Rattle.machine.specs.Faults.{sound}
use Rattle.machine.proofs.TestLaws.{and_left, and_right, each_in}
use Rattle.machine.proofs.CheckLaws.{Passed}
use Rattle.machine.proofs.CodeLaws.{legal_types, arises-any}
use Rattle.machine.proofs.StepLaws.{permitted-lengths, permitted-elen}
use Rattle.machine.proofs.NoFault.{sound-is}
use Rattle.unit_element.specs.Element.{Width}
use Rattle.unit_element.proofs.Laws.{width_small}
use Rattle.unit_tile.proofs.Room.{sizes, requires-hold}

-- SEW is one, two, four or eight bytes
power : (e : ℕ) → e < 4 → Width (2 ^ e)
power zero h = inl refl
power (suc zero) h = inr (inl refl)
power (suc (suc zero)) h = inr (inr (inl refl))
power (suc (suc (suc zero))) h = inr (inr (inr refl))
power (suc (suc (suc (suc e)))) h = absurd (omega arith)

pub sew-width : (t : ℕ) → is_in t (legal_types most_elen) ≡ true → Width (sew t)
unfolding sew
sew-width t h = power (t % 8) (ltb-true (t % 8) 4 (each_in t (legal_types most_elen) (λ v. ltb (v % 8) 4) refl h))

-- and so is a width that is not refused
two-width : (w s : ℕ) → Width s → w ≤ 8 → w ≡ 2 * s → Width w
two-width w s (inl e) l f = inr (inl (omega arith))
two-width w s (inr (inl e)) l f = inr (inr (inl (omega arith)))
two-width w s (inr (inr (inl e))) l f = inr (inr (inr (omega arith)))
two-width w s (inr (inr (inr e))) l f = absurd (omega arith)

four-width : (w s : ℕ) → Width s → w ≤ 8 → w ≡ 4 * s → Width w
four-width w s (inl e) l f = inr (inr (inl (omega arith)))
four-width w s (inr (inl e)) l f = inr (inr (inr (omega arith)))
four-width w s (inr (inr (inl e))) l f = absurd (omega arith)
four-width w s (inr (inr (inr e))) l f = absurd (omega arith)

same_width : (w s : ℕ) → Width s → w ≡ s → Width w
same_width w s h f = subst Width (sym f) h

width_is : (elen t : ℕ) (k : Matrix) (w : ℕ) → is_in elen elens ≡ true → Width (sew t) → width_of elen t k w ≡ true → Width w
unfolding width_of
width_is elen t MatrixA w known s h = same_width w (sew t) s (eqb-true w (sew t) h)
width_is elen t MatrixB w known s h = same_width w (sew t) s (eqb-true w (sew t) h)
width_is elen t MatrixC w known s h = go (eqb w (sew t)) refl (eqb w (2 * sew t)) refl (and_right (leb (8 * w) elen) any h)
  where
    any : Bool
    any = eqb w (sew t) || (eqb w (2 * sew t) || (maccq t && eqb w (4 * sew t)))

    few : w ≤ 8
    few = omega (arith, leb-true (8 * w) elen (and_left (leb (8 * w) elen) any h), leb-true elen most_elen (each_in elen elens (λ e. leb e most_elen) refl known))

    go : (x : Bool) → eqb w (sew t) ≡ x → (y : Bool) → eqb w (2 * sew t) ≡ y → x || (y || (maccq t && eqb w (4 * sew t))) ≡ true → Width w
    go true e y f g = same_width w (sew t) s (eqb-true w (sew t) e)
    go false e true f g = two-width w (sew t) s few (eqb-true w (2 * sew t) f)
    go false e false f g = four-width w (sew t) s few (eqb-true w (4 * sew t) (and_right (maccq t) (eqb w (4 * sew t)) g))

module _ (grant : Choice) (m : Machine) (regs marks : List ℕ) where
  abbrev M : Parameters
  M = parameters grant m

  abbrev st : State
  st = state_of m regs marks

  module _ (h : sound m regs marks ≡ true) where
    wide : (k : Matrix) → 8 ≤ pitch_of M k
    wide MatrixA = omega (arith, (permitted-lengths m.rlen m.mlen m.elen (sound-is m regs marks h).lengths).1)
    wide MatrixB = omega (arith, (permitted-lengths m.rlen m.mlen m.elen (sound-is m regs marks h).lengths).1)
    wide MatrixC = omega (arith, (permitted-lengths m.rlen m.mlen m.elen (sound-is m regs marks h).lengths).1)

    -- in the order of their `requires`
    pub transfer-requires : (k : Matrix) (r w : ℕ) → r < register_count k → Passed (sizes M st k w)
        → (start_of M k r + tile_rows st k * pitch_of M k ≤ length regs) × ((length marks ≡ length regs) × ((tile_cols st k * w ≤ pitch_of M k) × (Width w × (w ≤ pitch_of M k))))
    transfer-requires k r w l p =
        let f = requires-hold grant m regs marks h k r w l p in
        let s = sound-is m regs marks h in
        let known = (permitted-elen m.rlen m.mlen m.elen s.lengths).0 in
        let legal = arises-any m.elen known m.mtype s.state.type-arises (not-true (mill m.mtype) p.0) in
        let v = width_is m.elen m.mtype k w known (sew-width m.mtype legal) p.1.0 in
        (f.0, (f.1.0, (f.1.1, (v, omega (arith, width_small w v, wide k)))))
