-- What the contracts of inner functions name; a reader of the demand need not read it.
use Rattle.numbers.specs.Kit.{Bool, true, false, Option, none, some}
use Rattle.run.specs.declared.Plan.{Plan}
use Rattle.run.specs.declared.Place.{Place}
use Rattle.run.specs.declared.Place.TheVariants.{AtType, AtM, AtN, AtClear, AtK, AtA, AtB, AtMultiply, AtStore, AtEnd}
use Rattle.run.specs.declared.Handed.{Handed}
use Rattle.run.specs.Words.{Op}
use Rattle.run.specs.Encoding.{plain, handed_for}

-- past the last word
abbrev pub is_end : Place → Bool
is_end AtType = false
is_end (AtM i) = false
is_end (AtN i j) = false
is_end (AtClear i j) = false
is_end (AtK i j s) = false
is_end (AtA i j s) = false
is_end (AtB i j s) = false
is_end (AtMultiply i j s) = false
is_end (AtStore i j) = false
is_end AtEnd = true

-- the step of a word, and all zeros where there is none
abbrev pub handed_of : Plan → Option Op → Handed
handed_of P none = plain 0
handed_of P (some o) = handed_for P o
