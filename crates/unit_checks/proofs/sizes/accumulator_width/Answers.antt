use Rattle.numbers.proofs.Kit.{◌≡◌, sym, ap, ◌∙◌, ℕ, ◌*◌, arith, eqb, eq-eqb, ne_eqb, le-leb, lt-leb, not-true, not-false}
use Rattle.machine.specs.Setting.{sew}
use Rattle.machine.specs.TransferWords.{width_of}
use Rattle.unit_checks.proofs.sizes.accumulator_width.Goals as goal
use Rattle.unit_checks.proofs.sizes.accumulator_width.Goals.{Else-width-sew}

pub returns-then-width-elen : goal.returns-then-width-elen
unfolding width_of
returns-then-width-elen c = let a = c.args in rw (lt-leb (8 * a.width) a.elen (omega (arith, c.if-width-elen.true)))

pub returns-then-width-sew : goal.returns-then-width-sew
unfolding width_of
returns-then-width-sew c =
    let a = c.args in
    rw (le-leb (8 * a.width) a.elen (omega arith), eq-eqb a.width (sew a.mtype) (c.if-width-sew.true ∙ c.sew_bytes-sew.ensures.value))

-- the width is neither SEW nor more than ELEN
not-one : (c : Else-width-sew) → ¬ (c.args.width ≡ sew c.args.mtype)
not-one c e = c.if-width-sew.false (e ∙ sym c.sew_bytes-sew.ensures.value)

pub returns-then-width-sew-2 : goal.returns-then-width-sew-2
unfolding width_of
returns-then-width-sew-2 c =
    let a = c.args in
    rw (le-leb (8 * a.width) a.elen (omega arith), ne_eqb a.width (sew a.mtype) (not-one (goal.at.returns-then-width-sew-2 c).Else-width-sew), eq-eqb a.width (2 * sew a.mtype) (omega (arith, c.if-width-sew-2.true, c.sew_bytes-sew.ensures.value)))

pub returns-then-not-is_maccq : goal.returns-then-not-is_maccq
unfolding width_of
returns-then-not-is_maccq c =
    let a = c.args in
    rw (
      le-leb (8 * a.width) a.elen (omega arith),
      ne_eqb a.width (sew a.mtype) (not-one (goal.at.returns-then-not-is_maccq c).Else-width-sew),
      ne_eqb a.width (2 * sew a.mtype) (λ z. c.if-width-sew-2.false (z ∙ ap (λ (x : ℕ). 2 * x) (sym c.sew_bytes-sew.ensures.value))),
      sym c.is_maccq.ensures ∙ c.if-not-is_maccq.true,
    )

pub returns : goal.returns
unfolding width_of
returns c =
    let a = c.args in
    rw (
      le-leb (8 * a.width) a.elen (omega arith),
      ne_eqb a.width (sew a.mtype) (not-one (goal.at.returns c).Else-width-sew),
      ne_eqb a.width (2 * sew a.mtype) (λ z. c.if-width-sew-2.false (z ∙ ap (λ (x : ℕ). 2 * x) (sym c.sew_bytes-sew.ensures.value))),
      sym c.is_maccq.ensures ∙ c.if-not-is_maccq.false,
    )
    (ap (λ (x : ℕ). eqb a.width (4 * x)) c.sew_bytes-sew.ensures.value)
