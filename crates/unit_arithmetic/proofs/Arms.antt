-- What a step's arm knows once the checks have passed is what the tile functions require.
use Rattle.numbers.proofs.Kit.{◌≡◌, refl, sym, ap, ap₂, ◌∙◌, subst, ◌⊎◌, ⊎_elim, inl, inr, Bool, true, false, ◌&&◌, ◌||◌, List, ℕ, zero, suc, ◌*◌}
use Rattle.numbers.proofs.Kit.{◌/◌, ◌%◌, ◌^◌, ◌≤◌, ◌<◌, min, one-mul, pow-succ', one-le-pow, div-mul-le_self, mul-le-mul_right, arith, leb, eqb, length, ℤ}
use Rattle.numbers.proofs.Kit.{leb-true, eqb-true}
use Rattle.numbers.specs.Blocks.{Choice}
use Rattle.numbers.specs.Bounds.{most_pitch, most_size}
use Rattle.unit_element.specs.Element.{Width}
use Rattle.machine.specs.declared.Machine.{Machine}
use Rattle.machine.specs.declared.Sum.{Sum}
use Rattle.machine.specs.Tests.{is_in}
use Rattle.machine.proofs.TestLaws.{and_left, and_right, each_in}
use Rattle.machine.specs.Geometry.{elens, Parameters, parameters, State, state_of, permitted}
use Rattle.machine.specs.Setting.{sew, maccq}
use Rattle.machine.specs.Faults.{sound}
use Rattle.machine.specs.ArithmeticWords.{width_ok}
use Rattle.machine.specs.Meanings.{checks}
use Rattle.machine.specs.Operation.{multiply, combine, scale}
use Rattle.machine.proofs.CheckLaws.{Passed}
use Rattle.machine.proofs.NoFault.{sound-is}
use Rattle.machine.proofs.StepLaws.{permitted-lengths, permitted-bounds, permitted-elen}

-- ---- widths

or_split : (a b : Bool) → a || b ≡ true → (a ≡ true) ⊎ (b ≡ true)
or_split true b h = inl refl
or_split false b h = inr h

small_power : (e : ℕ) → 2 ^ e ≤ 8 → Width (2 ^ e)
small_power zero h = inl refl
small_power (suc zero) h = inr (inl refl)
small_power (suc (suc zero)) h = inr (inr (inl refl))
small_power (suc (suc (suc zero))) h = inr (inr (inr refl))
small_power (suc (suc (suc (suc e)))) h =
    absurd (omega (arith, pow-succ' 2 (suc (suc (suc e))), pow-succ' 2 (suc (suc e)), pow-succ' 2 (suc e), pow-succ' 2 e, one-le-pow e 2 (omega arith)))

factored : (f x : ℕ) → (f ≡ 1) ⊎ ((f ≡ 2) ⊎ (f ≡ 4)) → f * x ≤ 8 → Width x → Width (f * x)
factored f x (inl e) l hx = subst Width (sym (ap (λ (t : ℕ). t * x) e ∙ one-mul x)) hx
factored f x (inr (inl e)) l (inl a) = inr (inl (ap₂ ◌*◌ e a))
factored f x (inr (inl e)) l (inr (inl a)) = inr (inr (inl (ap₂ ◌*◌ e a)))
factored f x (inr (inl e)) l (inr (inr (inl a))) = inr (inr (inr (ap₂ ◌*◌ e a)))
factored f x (inr (inl e)) l (inr (inr (inr a))) = let g : f * x ≡ 16 = ap₂ ◌*◌ e a in absurd (omega arith)
factored f x (inr (inr e)) l (inl a) = inr (inr (inl (ap₂ ◌*◌ e a)))
factored f x (inr (inr e)) l (inr (inl a)) = inr (inr (inr (ap₂ ◌*◌ e a)))
factored f x (inr (inr e)) l (inr (inr (inl a))) = let g : f * x ≡ 16 = ap₂ ◌*◌ e a in absurd (omega arith)
factored f x (inr (inr e)) l (inr (inr (inr a))) = let g : f * x ≡ 32 = ap₂ ◌*◌ e a in absurd (omega arith)

-- the check of the widths
widths : (elen t f : ℕ) → is_in elen elens ≡ true → width_ok elen t f ≡ true → Width (sew t) × Width (f * sew t) × (f ≤ 4)
unfolding width_ok sew
widths elen t f known h =
    let most : elen ≤ 64 = leb-true elen 64 (each_in elen elens (λ e. leb e 64) refl known) in
    let e : f * (8 * 2 ^ (t % 8)) ≤ elen = leb-true (f * (8 * sew t)) elen (and_left (leb (f * (8 * sew t)) elen) (eqb f 1 || (eqb f 2 || (eqb f 4 && maccq t))) h) in
    let l : f * 2 ^ (t % 8) ≤ 8 = omega arith in
    let o = and_right (leb (f * (8 * sew t)) elen) (eqb f 1 || (eqb f 2 || (eqb f 4 && maccq t))) h in
    let g : (f ≡ 1) ⊎ ((f ≡ 2) ⊎ (f ≡ 4)) =
    ⊎_elim (λ e. inl (eqb-true f 1 e))
    (λ o. ⊎_elim (λ e. inr (inl (eqb-true f 2 e))) (λ e. inr (inr (eqb-true f 4 (and_left (eqb f 4) (maccq t) e)))) (or_split (eqb f 2) (eqb f 4 && maccq t) o))
    (or_split (eqb f 1) (eqb f 2 || (eqb f 4 && maccq t)) o) in
    let b : (f ≤ 4) × (zero < f) = ⊎_elim (λ e. omega arith) (λ g. ⊎_elim (λ e. omega arith) (λ e. omega arith) g) g in
    let p : 2 ^ (t % 8) ≤ 8 = omega (arith, mul-le-mul_right (2 ^ (t % 8)) b.1) in
    let w = small_power (t % 8) p in
    (w, factored f (2 ^ (t % 8)) g l w, b.0)

-- ---- sizes

-- columns of x bytes that fit a row
fit : (n p x : ℕ) → Width x → n ≤ p / x → (n * x ≤ p) × (n ≤ p)
fit n p x hx h =
    let e : n * x ≤ p = omega (arith, mul-le-mul_right x h, div-mul-le_self p x) in
    let k : 1 ≤ x = ⊎_elim (λ e. omega arith) (λ g. ⊎_elim (λ e. omega arith) (λ g. ⊎_elim (λ e. omega arith) (λ e. omega arith) g) g) hx in
    (e, omega (arith, mul-le-mul_right n k))

module _ (grant : Choice) (m : Machine) (registers marks mem : List ℕ) (ok : sound m registers marks ≡ true) where
  abbrev M : Parameters
  M = parameters grant m

  abbrev st : State
  st = state_of m registers marks

  abbrev w : ℕ
  w = sew m.mtype

  lengths : permitted m.rlen m.mlen m.elen ≡ true
  lengths = (sound-is m registers marks ok).lengths

  known : is_in m.elen elens ≡ true
  known = (permitted-elen m.rlen m.mlen m.elen lengths).0

  abbrev pub Bytes : Type 0
  Bytes = (M.rows * M.pitch ≤ most_size) × ((M.pitch ≤ most_pitch) × (length registers ≡ 16 * (M.rows * M.pitch)))

  bytes : Bytes
  bytes =
      let l = permitted-lengths m.rlen m.mlen m.elen lengths in
      let b = permitted-bounds m.rlen m.mlen m.elen lengths in
      (omega (arith, l, b), (omega (arith, b), (sound-is m registers marks ok).state.regs-length ∙ sym l.2))

  -- what multiply_tile requires
  abbrev pub Multiplies : (f d a b : ℕ) → Type 0
  Multiplies f d a b =
      ((d < 2) × ((a < 8) × (b < 8))) × (Bytes × (Width w × (Width (f * w) × ((f ≤ 4)
      × (((m.tile_m ≤ M.rows) × ((m.tile_k ≤ M.rows) × (m.tile_k ≤ most_pitch)))
      × ((m.tile_n ≤ most_pitch) × ((m.tile_n * w ≤ M.pitch) × (m.tile_k * w ≤ M.pitch))))))))

  pub multiply-ready : (f d a b : ℕ) → (d < 2) × ((a < 8) × (b < 8)) → Passed (checks M (λ q. false) (multiply f d a b) st mem) → Multiplies f d a b
  multiply-ready f d a b regs p =
      let x = widths m.elen m.mtype f known p.1.0 in
      let hm = leb-true m.tile_m M.rows p.1.1.0 in
      let hk = leb-true m.tile_k (min M.rows (M.pitch / w)) p.1.1.1.0 in
      let hn = leb-true m.tile_n (M.pitch / w) p.1.1.1.1.0 in
      let n = fit m.tile_n M.pitch w x.0 hn in
      let k = fit m.tile_k M.pitch w x.0 (omega arith) in (
        regs,
        (
          bytes,
          (
            x.0,
            (
              x.1,
              (
                x.2,
                (
                  (hm, (omega arith, omega (arith, bytes, k))),
                  (omega (arith, bytes, n), (n.0, k.0)),
                ),
              ),
            ),
          ),
        ),
      )

  -- what combine_tile and scale_tile require
  abbrev pub Combines : (f d a : ℕ) → Type 0
  Combines f d a =
      ((d < 2) × (a < 2)) × (Bytes × (Width w × (Width (f * w) × ((f ≤ 4)
      × ((m.tile_m ≤ M.rows) × ((m.tile_n ≤ most_pitch) × (m.tile_n * w ≤ M.pitch)))))))

  combines : (f d a : ℕ) → (d < 2) × (a < 2) → width_ok M.elen m.mtype f ≡ true → leb m.tile_m M.rows ≡ true
      → leb m.tile_n (M.pitch / w) ≡ true → Combines f d a
  combines f d a regs h1 h2 h3 =
      let x = widths m.elen m.mtype f known h1 in
      let n = fit m.tile_n M.pitch w x.0 (leb-true m.tile_n (M.pitch / w) h3) in
      (regs, (bytes, (x.0, (x.1, (x.2, (leb-true m.tile_m M.rows h2, (omega (arith, bytes, n), n.0)))))))

  pub combine-ready : (o : Sum) (f d a : ℕ) → (d < 2) × (a < 2) → Passed (checks M (λ q. false) (combine o f d a) st mem) → Combines f d a
  combine-ready o f d a regs p = combines f d a regs p.1.0 p.1.1.0 p.1.1.1.0

  pub scale-ready : (f d a : ℕ) (z : ℤ) → (d < 2) × (a < 2) → Passed (checks M (λ q. false) (scale f d a z) st mem) → Combines f d a
  scale-ready f d a z regs p = combines f d a regs p.1.0 p.1.1.0 p.1.1.1.0
