use Rattle.numbers.proofs.Kit.{◌≡◌, ◌-◌}
use Rattle.image_header.specs.Fields.{Ready}
use Rattle.image_header.proofs.FieldLaws.{left}
use Rattle.image_check.proofs.scan.read_fields.Given as goal

abbrev pub invariant-loop-t : goal.invariant-loop-t
invariant-loop-t l = record {
  image : l.r.image ≡ l.fn.r.image;
  place : l.r.at ≡ l.t.at;
  ready : Ready l.t;
  goes : left l.fn.r.image.now l.t ≡ left l.fn.r.image.now l.fn.first;
}

abbrev pub decreases-loop-t : goal.decreases-loop-t
decreases-loop-t l = 12 - l.t.next
