-- `image_header::after` meets its contract.
use Rattle.numbers.proofs.Kit.{eq-eqb, ne_eqb}
use Rattle.image_header.specs.Fields.{after}
use Rattle.image_header.proofs.after.Goals as goal

pub returns-then-version-eq1 : goal.returns-then-version-eq1
unfolding after
returns-then-version-eq1 c =
    let a = c.args in
    rw (eq-eqb a.f 0 c.if-f-eq0.true, eq-eqb a.version 1 c.if-version-eq1.true)

pub returns-else-version-eq1 : goal.returns-else-version-eq1
unfolding after
returns-else-version-eq1 c =
    let a = c.args in
    rw (eq-eqb a.f 0 c.if-f-eq0.true, ne_eqb a.version 1 c.if-version-eq1.false)

pub returns-then-version-eq2 : goal.returns-then-version-eq2
unfolding after
returns-then-version-eq2 c =
    let a = c.args in
    rw (ne_eqb a.f 0 c.if-f-eq0.false, eq-eqb a.f 1 c.if-f-eq1.true, eq-eqb a.version 2 c.if-version-eq2.true)

pub returns-else-version-eq2 : goal.returns-else-version-eq2
unfolding after
returns-else-version-eq2 c =
    let a = c.args in
    rw (ne_eqb a.f 0 c.if-f-eq0.false, eq-eqb a.f 1 c.if-f-eq1.true, ne_eqb a.version 2 c.if-version-eq2.false)

pub returns-then-version-eq4 : goal.returns-then-version-eq4
unfolding after
returns-then-version-eq4 c =
    let a = c.args in
    rw (ne_eqb a.f 0 c.if-f-eq0.false, ne_eqb a.f 1 c.if-f-eq1.false, eq-eqb a.f 8 c.if-f-eq8.true, eq-eqb a.version 4 c.if-version-eq4.true)

pub returns-else-version-eq4 : goal.returns-else-version-eq4
unfolding after
returns-else-version-eq4 c =
    let a = c.args in
    rw (ne_eqb a.f 0 c.if-f-eq0.false, ne_eqb a.f 1 c.if-f-eq1.false, eq-eqb a.f 8 c.if-f-eq8.true, ne_eqb a.version 4 c.if-version-eq4.false)

pub returns : goal.returns
unfolding after
returns c =
    let a = c.args in
    rw (ne_eqb a.f 0 c.if-f-eq0.false, ne_eqb a.f 1 c.if-f-eq1.false, ne_eqb a.f 8 c.if-f-eq8.false)
