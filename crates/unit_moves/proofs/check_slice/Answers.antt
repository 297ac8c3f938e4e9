use Rattle.numbers.proofs.Kit.{◌≡◌, sym, ap, ap₂, ◌∙◌, true, false, [], ℕ, ◌+◌, ◌*◌, leb}
use Rattle.machine.specs.declared.Dimension.TheVariants.{DimensionM, DimensionN}
use Rattle.machine.specs.Geometry.{state_of}
use Rattle.machine.specs.Vectors.{vector_bytes}
use Rattle.machine.specs.Setting.{mill, sew}
use Rattle.machine.specs.MoveWords.{lines_of, line_of}
use Rattle.machine.specs.Refusals.{fitting}
use Rattle.unit_settings.specs.Parts.{ours}
use Rattle.unit_settings.proofs.TypeLaws.{ready-legal}
use Rattle.unit_moves.proofs.check_slice.Goals as goal
use Rattle.unit_moves.proofs.check_slice.Goals.{After-fits_register, After-lies_in, Else-is_mill, Else-not-fits, Else-not-fits-2, Else-not-lies_in}

pub returns-then-is_mill : goal.returns-then-is_mill
returns-then-is_mill c = rw (sym c.is_mill.ensures ∙ c.if-is_mill.true)

-- the tests that have passed
typed : (c : Else-is_mill) → mill c.args.m.mtype ≡ false
typed c = sym c.is_mill.ensures ∙ c.if-is_mill.false

pub fits-requires : goal.fits-requires
fits-requires c =
    record {
      ready = c.requires;
      mtype_value = typed c;
    }

pub returns-then-not-fits : goal.returns-then-not-fits
returns-then-not-fits c = rw (typed (goal.at.returns-then-not-fits c).Else-is_mill, sym c.fits.ensures ∙ c.if-not-fits.true)

rows_fit : (c : Else-not-fits) → let m = c.args.m in (fitting (ours m) (state_of m [] []) DimensionM).holds ≡ true
rows_fit c = sym c.fits.ensures ∙ c.if-not-fits.false

pub fits-requires-2 : goal.fits-requires-2
fits-requires-2 c =
    record {
      ready = c.requires;
      mtype_value = typed (goal.at.fits-requires-2 c).Else-is_mill;
    }

pub returns-then-not-fits-2 : goal.returns-then-not-fits-2
returns-then-not-fits-2 c = rw (typed (goal.at.returns-then-not-fits-2 c).Else-is_mill, rows_fit (goal.at.returns-then-not-fits-2 c).Else-not-fits, sym c.fits-2.ensures ∙ c.if-not-fits-2.true)

columns-fit : (c : Else-not-fits-2) → let m = c.args.m in (fitting (ours m) (state_of m [] []) DimensionN).holds ≡ true
columns-fit c = sym c.fits-2.ensures ∙ c.if-not-fits-2.false

-- whether the slice lies in the tile
slice-told : (c : After-lies_in) → let a = c.args in
    c.lies_in.result ≡ leb (a.first + a.count) (lines_of a.form (state_of a.m [] []))
slice-told c =
    let a = c.args in
    c.lies_in.ensures ∙ ap (leb (a.first + a.count)) c.lines_of.ensures

pub returns-then-not-lies_in : goal.returns-then-not-lies_in
returns-then-not-lies_in c =
    rw (typed (goal.at.returns-then-not-lies_in c).Else-is_mill, rows_fit (goal.at.returns-then-not-lies_in c).Else-not-fits, columns-fit (goal.at.returns-then-not-lies_in c).Else-not-fits-2, sym (slice-told (goal.at.returns-then-not-lies_in c).After-lies_in) ∙ c.if-not-lies_in.true)

slice_fits : (c : Else-not-lies_in) → let a = c.args in
    leb (a.first + a.count) (lines_of a.form (state_of a.m [] [])) ≡ true
slice_fits c = sym (slice-told (goal.at.Else-not-lies_in c).After-lies_in) ∙ c.if-not-lies_in.false

pub sew_bytes-requires : goal.sew_bytes-requires
sew_bytes-requires c =
    ready-legal c.args.m c.requires (typed (goal.at.sew_bytes-requires c).Else-is_mill)

-- whether a row or column fits into a register
line-told : (c : After-fits_register) → let a = c.args in
    c.fits_register.result ≡ leb (line_of a.form (state_of a.m [] []) * sew a.m.mtype) vector_bytes
line-told c = c.fits_register.ensures ∙ ap₂ (λ (x y : ℕ). leb (x * y) vector_bytes) c.line_of.ensures c.sew_bytes.ensures.value

pub returns-then-not-fits_register : goal.returns-then-not-fits_register
returns-then-not-fits_register c =
    rw (typed (goal.at.returns-then-not-fits_register c).Else-is_mill, rows_fit (goal.at.returns-then-not-fits_register c).Else-not-fits, columns-fit (goal.at.returns-then-not-fits_register c).Else-not-fits-2, slice_fits (goal.at.returns-then-not-fits_register c).Else-not-lies_in, sym (line-told (goal.at.returns-then-not-fits_register c).After-fits_register) ∙ c.if-not-fits_register.true)

pub returns : goal.returns
returns c =
    rw (typed (goal.at.returns c).Else-is_mill, rows_fit (goal.at.returns c).Else-not-fits, columns-fit (goal.at.returns c).Else-not-fits-2, slice_fits (goal.at.returns c).Else-not-lies_in, sym (line-told (goal.at.returns c).After-fits_register) ∙ c.if-not-fits_register.false)
