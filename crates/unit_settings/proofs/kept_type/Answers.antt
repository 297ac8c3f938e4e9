use mathlib.Core.Path.{◌≡◌}
use native.Mathlib.Omega.{arith}
use Rattle.unit_settings.proofs.TypeLaws.{small-type, eight-type, other-type, is_64, wide_type, no-type}
use Rattle.unit_settings.proofs.kept_type.Goals as goal
use Rattle.unit_settings.proofs.kept_type.Goals.{Else-elen-eq32}

pub returns-then-value-le2 : goal.returns-then-value-le2
returns-then-value-le2 c = small-type c.args.elen c.requires c.args.value c.if-value-le2.true

pub returns-then-value-eq8 : goal.returns-then-value-eq8
returns-then-value-eq8 c = eight-type c.args.elen c.requires c.args.value c.if-value-eq8.true

pub returns-then-elen-eq32 : goal.returns-then-elen-eq32
returns-then-elen-eq32 c = other-type c.args.elen c.args.value c.if-elen-eq32.true (omega arith) c.if-value-eq8.false

-- ELEN is 64
wide : (c : Else-elen-eq32) → c.args.elen ≡ 64
wide c = is_64 c.args.elen c.requires c.if-elen-eq32.false

pub returns-then-value-eq3 : goal.returns-then-value-eq3
returns-then-value-eq3 c = wide_type c.args.elen (wide (goal.at.returns-then-value-eq3 c).Else-elen-eq32) c.args.value (rw c.if-value-eq3.true)

pub returns-then-value-eq9 : goal.returns-then-value-eq9
returns-then-value-eq9 c = wide_type c.args.elen (wide (goal.at.returns-then-value-eq9 c).Else-elen-eq32) c.args.value (rw c.if-value-eq9.true)

pub returns : goal.returns
returns c =
    no-type c.args.elen c.args.value (wide (goal.at.returns c).Else-elen-eq32) (omega arith) c.if-value-eq8.false c.if-value-eq3.false c.if-value-eq9.false
