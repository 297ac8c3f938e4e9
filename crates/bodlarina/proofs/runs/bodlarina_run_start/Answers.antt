use mathlib.Core.Path.{ap, ◌∙◌}
use borrow.Author.Rules.{rules}
use Rattle.run.specs.declared.Plan.{Plan}
use Rattle.c_run.specs.RunCalls.{HostRunStarted, run_started_out, host_run_start}
use Rattle.bodlarina.specs.Host.{plan_in}
use Rattle.bodlarina.proofs.runs.bodlarina_run_start.Goals as goal
