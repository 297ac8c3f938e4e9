use Rattle.numbers.proofs.Kit.{◌≡◌, refl, sym, ap, ◌∙◌, subst, ◌<◌}
use Rattle.image_check.specs.declared.runs.Runs.{Runs}
use Rattle.image_check.specs.Parts.{RunsOk, run_from}
use Rattle.image_check.proofs.ScanLaws.{remaining, Sound, run-less, run_ok, runs-step, runs_done}
use Rattle.image_check.proofs.scan.read_runs.Goals as goal
use Rattle.image_check.proofs.scan.read_runs.Goals.{In-loop-t}

-- the next run may be read
ready : (c : In-loop-t) → RunsOk c.loop-t.r.image.now c.loop-t.r.at c.loop-t.t
ready c =
    let l = c.loop-t in
    let i = l.invariant in
    rw (i.image, i.place) (i.sound c.loop-t-test.true)

pub run_from-t-requires : goal.run_from-t-requires
run_from-t-requires c = (c.loop-t-test.true, ready (goal.at.run_from-t-requires c).In-loop-t)

pub loop-t-smaller : goal.loop-t-smaller
loop-t-smaller c =
    let l = c.loop-t in
    subst (λ (t : Runs). t.left < l.t.left) (sym c.run_from-t.ensures) (run-less l.r.image.now l.r.at l.t c.loop-t-test.true)

pub loop-t-preserved : goal.loop-t-preserved
loop-t-preserved c =
    let l = c.loop-t in
    let i = l.invariant in
    let s = c.args.r.now.image.now in
    let turned : c.run_from-t.result ≡ run_from s l.t.at l.t = c.run_from-t.ensures ∙ rw (i.image, i.place) in
    record {
      image = i.image;
      place = refl;
      sound = subst (Sound s) (sym turned) (run_ok s l.t.at l.t c.loop-t-test.true (i.sound c.loop-t-test.true));
      goes = ap (remaining s) turned ∙ runs-step s l.t c.loop-t-test.true ∙ i.goes;
    }

pub returns : goal.returns
returns c =
    let l = c.loop-t in
    let i = l.invariant in
    (runs_done c.args.r.now.image.now l.t c.loop-t-test.false ∙ i.goes, i.image, i.place)
