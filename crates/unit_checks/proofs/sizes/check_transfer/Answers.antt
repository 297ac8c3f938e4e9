use Rattle.numbers.proofs.Kit.{◌≡◌, sym, ap, ◌∙◌, true, false, [], not-true, not-false}
use Rattle.machine.specs.declared.Dimension.{Dimension}
use Rattle.machine.specs.Setting.{mill}
use Rattle.unit_settings.specs.Parts.{ours}
use Rattle.machine.specs.Geometry.{state_of}
use Rattle.machine.specs.Operation.{rows_of, columns_of}
use Rattle.machine.specs.Refusals.{fitting}
use Rattle.machine.specs.TransferWords.{width_of}
use Rattle.unit_settings.proofs.TypeLaws.{ready-legal}
use Rattle.unit_checks.proofs.sizes.check_transfer.Goals as goal
use Rattle.unit_checks.proofs.sizes.check_transfer.Goals.{Else-is_mill, Else-not-fits, Else-not-fits-2, Else-not-transfer_width}

-- the tests that have passed
typed-1 : (c : Else-is_mill) → mill c.args.m.mtype ≡ false
typed-1 c = sym c.is_mill.ensures ∙ c.if-is_mill.false

ok-2 : (c : Else-not-transfer_width) → let a = c.args in width_of a.m.elen a.m.mtype a.matrix a.width ≡ true
ok-2 c = sym c.transfer_width.ensures ∙ c.if-not-transfer_width.false

pub returns-then-is_mill : goal.returns-then-is_mill
returns-then-is_mill c = rw (sym c.is_mill.ensures ∙ c.if-is_mill.true)

pub transfer_width-requires : goal.transfer_width-requires
transfer_width-requires c =
    ready-legal c.args.m c.requires (typed-1 c)

pub returns-then-not-transfer_width : goal.returns-then-not-transfer_width
returns-then-not-transfer_width c = rw (typed-1 (goal.at.returns-then-not-transfer_width c).Else-is_mill, sym c.transfer_width.ensures ∙ c.if-not-transfer_width.true)

pub fits-requires : goal.fits-requires
fits-requires c =
    record {
      ready = c.requires;
      mtype_value = typed-1 (goal.at.fits-requires c).Else-is_mill;
    }

ok-3 : (c : Else-not-fits) → (fitting (ours c.args.m) (state_of c.args.m [] []) (rows_of c.args.matrix)).holds ≡ true
ok-3 c = sym (c.fits.ensures ∙ ap (λ (d : Dimension). (fitting (ours c.args.m) (state_of c.args.m [] []) d).holds) c.rows_of.ensures) ∙ c.if-not-fits.false

pub returns-then-not-fits : goal.returns-then-not-fits
returns-then-not-fits c = rw (typed-1 (goal.at.returns-then-not-fits c).Else-is_mill, ok-2 (goal.at.returns-then-not-fits c).Else-not-transfer_width, sym (c.fits.ensures ∙ ap (λ (d : Dimension). (fitting (ours c.args.m) (state_of c.args.m [] []) d).holds) c.rows_of.ensures) ∙ c.if-not-fits.true)

pub fits-requires-2 : goal.fits-requires-2
fits-requires-2 c =
    record {
      ready = c.requires;
      mtype_value = typed-1 (goal.at.fits-requires-2 c).Else-is_mill;
    }

ok-4 : (c : Else-not-fits-2) → (fitting (ours c.args.m) (state_of c.args.m [] []) (columns_of c.args.matrix)).holds ≡ true
ok-4 c = sym (c.fits-2.ensures ∙ ap (λ (d : Dimension). (fitting (ours c.args.m) (state_of c.args.m [] []) d).holds) c.columns_of.ensures) ∙ c.if-not-fits-2.false

pub returns-then-not-fits-2 : goal.returns-then-not-fits-2
returns-then-not-fits-2 c = rw (typed-1 (goal.at.returns-then-not-fits-2 c).Else-is_mill, ok-2 (goal.at.returns-then-not-fits-2 c).Else-not-transfer_width, ok-3 (goal.at.returns-then-not-fits-2 c).Else-not-fits, sym (c.fits-2.ensures ∙ ap (λ (d : Dimension). (fitting (ours c.args.m) (state_of c.args.m [] []) d).holds) c.columns_of.ensures) ∙ c.if-not-fits-2.true)

pub returns : goal.returns
returns c = rw (typed-1 (goal.at.returns c).Else-is_mill, ok-2 (goal.at.returns c).Else-not-transfer_width, ok-3 (goal.at.returns c).Else-not-fits, ok-4 (c))
