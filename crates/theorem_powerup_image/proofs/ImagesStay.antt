-- Images before and after words: machines that differ at most in unmarked register bytes have one image.
use Rattle.numbers.proofs.Kit.{◌≡◌, refl, ap₂, List, [], ◌∷◌, ℕ}
use Rattle.machine.specs.Step.{VectorOutcome}
use Rattle.image.proofs.Images.{alike-one-image}
use Rattle.theorem_powerup.specs.Steps.{EachSame, outcomes, outcomes_given}
use Rattle.theorem_powerup.proofs.Steps.{words-ignore-unmarked, given-words-ignore-unmarked}
use Rattle.theorem_powerup_image.specs.ImagesStay.{images_after, ImagesStayEqual, ImagesStayEqualGiven}

each-one : (os os' : List VectorOutcome) → EachSame os os' → images_after os ≡ images_after os'
each-one [] [] h = refl
each-one [] (o ∷ os) h = absurd h
each-one (o ∷ os) [] h = absurd h
each-one (o ∷ os) (o' ∷ os') h =
    ap₂ (λ (i : List ℕ) (is : List (List ℕ)). i ∷ is) (alike-one-image o.bench o'.bench h.0.alike-after.alike) (each-one os os' h.1)

pub images-stay-equal : ImagesStayEqual
images-stay-equal grant ws xs W B B' a =
    (alike-one-image B B' a.alike, each-one (outcomes grant ws xs W B) (outcomes grant ws xs W B') (words-ignore-unmarked grant ws xs W B B' a))

pub images-stay-equal-given : ImagesStayEqualGiven
images-stay-equal-given grant ws B B' a =
    (alike-one-image B B' a.alike, each-one (outcomes_given grant ws B) (outcomes_given grant ws B') (given-words-ignore-unmarked grant ws B B' a))
