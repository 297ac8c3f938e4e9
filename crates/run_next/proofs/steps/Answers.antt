use Rattle.numbers.proofs.Kit.{◌≡◌, sym, ◌∙◌, true, arith}
use Rattle.machine.specs.Setting.{chosen}
use Rattle.run.specs.Turn.{sound_run}
use Rattle.run_place.proofs.RunPlaceLaws.{run-numbered, run-most, run-sizes, run-blocks}
use Rattle.run_place.proofs.CountLaws.{count-least}
use Rattle.run_next.proofs.steps.Goals as goal
use Rattle.run_next.proofs.steps.Goals.{Else-not-is_sound_run}

-- the run is sound
ok-1 : (c : Else-not-is_sound_run) → sound_run chosen c.args.run ≡ true
ok-1 c = sym c.is_sound_run.ensures ∙ c.if-not-is_sound_run.false

pub most_rows-requires : goal.most_rows-requires
most_rows-requires c = run-numbered c.args.run (ok-1 c)

pub blocks-rows-requires : goal.blocks-rows-requires
blocks-rows-requires c =
    let R = c.args.run in
    let n = run-numbered R (ok-1 (goal.at.blocks-rows-requires c).Else-not-is_sound_run) in
    omega (arith, c.most_rows.ensures, run-sizes R n, (run-most R n).0<tm, run-blocks R n)

pub most_columns-requires : goal.most_columns-requires
most_columns-requires c = run-numbered c.args.run (ok-1 (goal.at.most_columns-requires c).Else-not-is_sound_run)

pub blocks-columns-requires : goal.blocks-columns-requires
blocks-columns-requires c =
    let R = c.args.run in
    let n = run-numbered R (ok-1 (goal.at.blocks-columns-requires c).Else-not-is_sound_run) in
    omega (arith, c.most_columns.ensures, run-sizes R n, (run-most R n).0<tn, run-blocks R n)

pub most_terms-requires : goal.most_terms-requires
most_terms-requires c = run-numbered c.args.run (ok-1 (goal.at.most_terms-requires c).Else-not-is_sound_run)

pub blocks-terms-requires : goal.blocks-terms-requires
blocks-terms-requires c =
    let R = c.args.run in
    let n = run-numbered R (ok-1 (goal.at.blocks-terms-requires c).Else-not-is_sound_run) in
    omega (arith, c.most_terms.ensures, run-sizes R n, (run-most R n).0<tk, run-blocks R n)

pub steps_by-requires : goal.steps_by-requires
steps_by-requires c =
    let P = c.args.run.plan in
    let s = run-sizes c.args.run (run-numbered c.args.run (ok-1 (goal.at.steps_by-requires c).Else-not-is_sound_run)) in (
      omega (arith, c.blocks-rows.ensures, s.0, count-least c.most_rows.result P.m),
      (
        omega (arith, c.blocks-columns.ensures, s.2, count-least c.most_columns.result P.n),
        omega (arith, c.blocks-terms.ensures, s.1, count-least c.most_terms.result P.k),
      ),
    )
