use Rattle.numbers.proofs.Kit.{refl, sym, ap, ◌∙◌, subst, ◌<◌, ◌-◌, arith}
use Rattle.image_header.specs.declared.Fields.{Fields}
use Rattle.image_header.specs.Fields.{Ready}
use Rattle.image_header.proofs.FieldLaws.{left, field-more, fields-step, fields-done}
use Rattle.image_header.proofs.ReadyLaws.{field-ready}
use Rattle.image_check.proofs.scan.read_fields.Goals as goal

pub loop-t-smaller : goal.loop-t-smaller
loop-t-smaller c =
    let l = c.loop-t in
    let more = field-more l.r.image.now l.r.at l.t c.loop-t-test.true in
    subst (λ (t : Fields). 12 - t.next < 12 - l.t.next) (sym c.field_from-t.ensures) (omega arith)

pub loop-t-preserved : goal.loop-t-preserved
loop-t-preserved c =
    let l = c.loop-t in
    let i = l.invariant in
    let s = c.args.r.now.image.now in
    record {
      image = i.image;
      place = refl;
      ready = subst Ready (sym c.field_from-t.ensures) (field-ready l.r.image.now l.r.at l.t c.loop-t-test.true i.ready);
      goes =
          ap (left s) (c.field_from-t.ensures ∙ rw (i.image, i.place))
          ∙ fields-step s l.t c.loop-t-test.true
          ∙ i.goes;
    }

pub returns : goal.returns
returns c =
    let l = c.loop-t in
    let i = l.invariant in
    (fields-done c.args.r.now.image.now l.t c.loop-t-test.false ∙ i.goes, i.image, i.place)
