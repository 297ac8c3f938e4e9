use mathlib.Core.Path.{ap}
use Prim.Native.Nat.{ℕ}
use lib.Dec.{eqb}
use Rattle.unit_faults.proofs.type_arises.Goals as goal

pub returns : goal.returns
returns c = ap (λ (t : ℕ). eqb t c.args.mtype) c.kept_type.ensures
