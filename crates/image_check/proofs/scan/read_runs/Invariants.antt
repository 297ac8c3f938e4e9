use Rattle.numbers.proofs.Kit.{◌≡◌}
use Rattle.image_check.proofs.ScanLaws.{remaining, Sound}
use Rattle.image_check.proofs.scan.read_runs.Given as goal

abbrev pub invariant-loop-t : goal.invariant-loop-t
invariant-loop-t l = record {
  image : l.r.image ≡ l.fn.r.image;
  place : l.r.at ≡ l.t.at;
  sound : Sound l.fn.r.image.now l.t;
  goes : remaining l.fn.r.image.now l.t ≡ remaining l.fn.r.image.now l.fn.first;
}

abbrev pub decreases-loop-t : goal.decreases-loop-t
decreases-loop-t l = l.t.left
