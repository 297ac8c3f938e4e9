use mathlib.Core.Path.{ap, ◌∙◌}
use borrow.Author.Rules.{rules}
use Rattle.run.specs.declared.Plan.{Plan}
use Rattle.c_turn.specs.TurnCalls.{HostRan, ran_out, host_run}
use Rattle.bodlarina.specs.Host.{plan_in}
use Rattle.bodlarina.proofs.runs.bodlarina_run.Goals as goal
