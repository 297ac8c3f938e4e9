-- `image_check::verdict_of` meets its contract.
use Rattle.numbers.proofs.Kit.{eq-eqb, ne_eqb}
use Rattle.image_check.specs.Parts.{verdict_in}
use Rattle.image_check.proofs.verdict_of.Goals as goal
use Rattle.image_check.proofs.verdict_of.Goals.{else-fields-eq-ALL_READ-via-then-fields-eq-ALL_READ+then-runs-fields+else-runs-size, else-fields-eq-ALL_READ-via-then-fields-eq-ALL_READ+else-runs-fields, else-fields-eq-ALL_READ-via-else-fields-eq-ALL_READ}

pub returns-then-runs-size : goal.returns-then-runs-size
unfolding verdict_in
returns-then-runs-size c =
    let f = c.args.found in
    rw (eq-eqb f.fields.next 12 c.if-fields-eq-ALL_READ.true, eq-eqb f.runs.kept f.fields.runs c.if-runs-fields.true, eq-eqb f.runs.place c.args.size c.if-runs-size.true)

pub returns : goal.returns
unfolding verdict_in
returns c =
    let f = c.args.found in
    elim c.else-fields-eq-ALL_READ.branch [
      | else-fields-eq-ALL_READ-via-then-fields-eq-ALL_READ+then-runs-fields+else-runs-size w ↦
          rw (eq-eqb f.fields.next 12 w.if-fields-eq-ALL_READ.true, eq-eqb f.runs.kept f.fields.runs w.if-runs-fields.true, ne_eqb f.runs.place c.args.size w.if-runs-size.false)
      | else-fields-eq-ALL_READ-via-then-fields-eq-ALL_READ+else-runs-fields w ↦ rw (eq-eqb f.fields.next 12 w.if-fields-eq-ALL_READ.true, ne_eqb f.runs.kept f.fields.runs w.if-runs-fields.false)
      | else-fields-eq-ALL_READ-via-else-fields-eq-ALL_READ w ↦ rw (ne_eqb f.fields.next 12 w.if-fields-eq-ALL_READ.false)
    ]
