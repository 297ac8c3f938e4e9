-- What the contracts of inner functions name; a reader of the demand need not read it.
use Rattle.std.specs.Prelude.{◌∷◌}
use Rattle.numbers.specs.Kit.{Bool, []}
use Rattle.machine.specs.Tests.{every}
use Rattle.machine.specs.Geometry.{permitted}
use Rattle.run.specs.declared.Place.{Place}
use Rattle.run.specs.declared.Run.{Run}
use Rattle.machine.specs.Starting.{is_rule}
use Rattle.run.specs.Start.{planned}

-- the lengths, ELEN, the rule and the plan of a run are ones that it can hold
unfoldable pub numbered : Run → Bool
numbered R = every (permitted R.rlen R.mlen R.elen ∷ is_rule R.rule ∷ planned R.elen R.plan ∷ [])

-- the run at another place
abbrev pub at_place : Run → Place → Run
at_place R q = record { plan = R.plan; rlen = R.rlen; mlen = R.mlen; rule = R.rule; elen = R.elen; place = q }
