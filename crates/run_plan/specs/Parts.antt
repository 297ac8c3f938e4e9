-- What the contract of `is_placed` names; a reader of the demand need not read it.
use Rattle.std.specs.Prelude.{◌∷◌}
use Rattle.numbers.specs.Kit.{Bool, true, [], ltb}
use Rattle.machine.specs.Tests.{every}
use Rattle.run.specs.declared.Plan.{Plan}
use Rattle.run.specs.declared.Place.{Place}
use Rattle.run.specs.declared.Place.TheVariants.{AtType, AtM, AtN, AtClear, AtK, AtA, AtB, AtMultiply, AtStore, AtEnd}

-- the place lies in the matrices
abbrev pub in_matrices : Plan → Place → Bool
in_matrices P AtType = true
in_matrices P (AtM i) = ltb i P.m
in_matrices P (AtN i j) = every (ltb i P.m ∷ ltb j P.n ∷ [])
in_matrices P (AtClear i j) = every (ltb i P.m ∷ ltb j P.n ∷ [])
in_matrices P (AtK i j s) = every (ltb i P.m ∷ ltb j P.n ∷ ltb s P.k ∷ [])
in_matrices P (AtA i j s) = every (ltb i P.m ∷ ltb j P.n ∷ ltb s P.k ∷ [])
in_matrices P (AtB i j s) = every (ltb i P.m ∷ ltb j P.n ∷ ltb s P.k ∷ [])
in_matrices P (AtMultiply i j s) = every (ltb i P.m ∷ ltb j P.n ∷ ltb s P.k ∷ [])
in_matrices P (AtStore i j) = every (ltb i P.m ∷ ltb j P.n ∷ [])
in_matrices P AtEnd = true
