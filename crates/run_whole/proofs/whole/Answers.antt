use Rattle.std.proofs.Common.{rules}
use Rattle.std.proofs.lemmas.Result.{err_from_is_err_and}
use Rattle.numbers.proofs.Kit.{refl, arith, Ok, Err}
use Rattle.machine.specs.Geometry.{Bench, bench_of}
use Rattle.machine.proofs.CodeLaws.{refused-not-done}
use Rattle.unit_ranges.specs.Ranges.{seals_in}
use Rattle.run.specs.Start.{run_started}
use Rattle.run.specs.Statement.{MemoryBytes}
use Rattle.run_whole.proofs.WholeLaws.{finishes-refused, finishes-done}
use Rattle.run_whole.proofs.whole.Goals as goal
use Rattle.run_whole.proofs.whole.Goals.{After-start, Start}

-- what the run is lent, and that its memory holds bytes
abbrev bench : Start → Bench
bench s = let a = s.args in bench_of a.m (seals_in a.seals.now) a.registers.now a.marks.now a.memory.now

bytes : (c : After-start) → MemoryBytes c.args.memory.now
bytes c = record { below = λ q. search rules; addressed = omega arith }

pub returns-in_err-run : goal.returns-in_err-run
returns-in_err-run c =
    let x = c.in_err-run.field-0.0 in
    let o = finishes-refused c.args.plan (bench (goal.at.returns-in_err-run c).Start) (bytes (goal.at.returns-in_err-run c).After-start) (run_started c.args.plan (Err x)) c.in_err-run.ensures (refused-not-done x) in
    let p = err_from_is_err_and c.from_residual.result c.from_residual.ensures.1 in
    record { memory_after = rw (p.1, p.2) o.0; delivers = rw (p.1, p.2) o.1 }

pub returns : goal.returns
returns c =
    let o = finishes-done c.args.plan (bench (goal.at.returns c).Start) (bytes (goal.at.returns c).After-start) (run_started c.args.plan (Ok c.in_ok-run.run')) c.in_ok-run.ensures refl _ c.turns-taken.ensures in
    record { memory_after = o.0; delivers = o.1 }
