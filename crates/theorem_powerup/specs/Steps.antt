-- Request Nine, of words: "two machines, neither at fault, that differ at most in unmarked register bytes, with equal scalars and equal
-- memory, given the same words one after another, give equal answers, scalars and memory and again differ at most in unmarked register
-- bytes after each, refusals included." 02, Eleven: "Vector bytes .. are input like memory in request Nine's statement." For every
-- choice of sizes, word, state, scalars, vector file and memory. Machines at fault need no exception: both get 8 for every word. The
-- proofs stand in proofs/.
use Rattle.std.specs.Prelude.{◌≡◌, ◌∷◌}
use Rattle.numbers.specs.Kit.{List, [], ℕ}
use Rattle.numbers.specs.Blocks.{Choice}
use Rattle.machine.specs.Geometry.{Bench}
use Rattle.machine.specs.Vectors.{Vectors, vectors_of}
use Rattle.machine.specs.Step.{VectorOutcome, step_with}
use Rattle.machine.specs.Alike.{Alike}
use Rattle.machine.specs.Theorems.{Given}

-- "two machines .. that differ at most in unmarked register bytes, with .. equal memory"
pub record AlikeBenches (B B' : Bench) : Type 0 where
  pub alike : Alike B B'
  pub same_memory : B.memory ≡ B'.memory

-- "equal answers, scalars and memory and again differ at most in unmarked register bytes"; equal answers name equal rows and columns
pub record SameOutcome (o o' : VectorOutcome) : Type 0 where
  pub same_answer : o.answer ≡ o'.answer
  pub same-scalars : o.scalars ≡ o'.scalars
  pub same-vectors : o.vectors ≡ o'.vectors
  pub alike-after : AlikeBenches o.bench o'.bench

-- of two lists, each of the one with its partner in the other
abbrev pub EachSame : List VectorOutcome → List VectorOutcome → Type 0
EachSame [] [] = Unit {0}
EachSame [] (o ∷ os) = ⊥
EachSame (o ∷ os) [] = ⊥
EachSame (o ∷ os) (o' ∷ os') = SameOutcome o o' × EachSame os os'

-- one word
abbrev pub StepIgnoresUnmarked : Type 0
StepIgnoresUnmarked = (grant : Choice) (word : ℕ) (xs : List ℕ) (W : Vectors) (B B' : Bench) → AlikeBenches B B'
    → SameOutcome (step_with grant word xs W B) (step_with grant word xs W B')

-- ---- one word after another, refusals included

-- the outcome of each word, with the scalars and the vector file as the word before left them
abbrev pub outcomes : Choice → List ℕ → List ℕ → Vectors → Bench → List VectorOutcome
outcomes grant [] xs W B = []
outcomes grant (w ∷ ws) xs W B =
    let o : VectorOutcome = step_with grant w xs W B in o ∷ outcomes grant ws o.scalars (vectors_of o.vectors W.group) o.bench

-- "given the same words one after another .. after each", the scalars and the vector file lent once
abbrev pub WordsIgnoreUnmarked : Type 0
WordsIgnoreUnmarked = (grant : Choice) (ws xs : List ℕ) (W : Vectors) (B B' : Bench) → AlikeBenches B B'
    → EachSame (outcomes grant ws xs W B) (outcomes grant ws xs W B')

-- the outcome of each word, with the scalars and the vector file that it is given
abbrev pub outcomes_given : Choice → List Given → Bench → List VectorOutcome
outcomes_given grant [] B = []
outcomes_given grant (w ∷ ws) B = let o : VectorOutcome = step_with grant w.word w.scalars w.vectors B in o ∷ outcomes_given grant ws o.bench

-- the same, the scalars and the vector file given with each word
abbrev pub GivenWordsIgnoreUnmarked : Type 0
GivenWordsIgnoreUnmarked = (grant : Choice) (ws : List Given) (B B' : Bench) → AlikeBenches B B'
    → EachSame (outcomes_given grant ws B) (outcomes_given grant ws B')
