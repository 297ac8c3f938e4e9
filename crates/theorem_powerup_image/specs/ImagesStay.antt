-- Request Nine, of images: two machines that differ at most in unmarked register bytes, "given the same words one after another, .. again
-- differ at most in unmarked register bytes after each, refusals included. Images are equal too." Before the first word, and after each, for
-- every choice of sizes, words, scalars, vector file and memory. The proofs stand in proofs/.
use Rattle.std.specs.Prelude.{◌≡◌}
use Rattle.numbers.specs.Kit.{List, map, ℕ}
use Rattle.numbers.specs.Blocks.{Choice}
use Rattle.machine.specs.Geometry.{Bench}
use Rattle.machine.specs.Vectors.{Vectors}
use Rattle.machine.specs.Step.{VectorOutcome}
use Rattle.machine.specs.Theorems.{Given}
use Rattle.image.specs.Theorems.{image_in}
use Rattle.theorem_powerup.specs.Steps.{AlikeBenches, outcomes, outcomes_given}

-- the image after each word
abbrev pub images_after : List VectorOutcome → List (List ℕ)
images_after os = map (λ (o : VectorOutcome). image_in o.bench) os

-- the scalars and the vector file lent once
abbrev pub ImagesStayEqual : Type 0
ImagesStayEqual = (grant : Choice) (ws xs : List ℕ) (W : Vectors) (B B' : Bench) → AlikeBenches B B'
    → (image_in B ≡ image_in B') × (images_after (outcomes grant ws xs W B) ≡ images_after (outcomes grant ws xs W B'))

-- the scalars and the vector file given with each word
abbrev pub ImagesStayEqualGiven : Type 0
ImagesStayEqualGiven = (grant : Choice) (ws : List Given) (B B' : Bench) → AlikeBenches B B'
    → (image_in B ≡ image_in B') × (images_after (outcomes_given grant ws B) ≡ images_after (outcomes_given grant ws B'))
