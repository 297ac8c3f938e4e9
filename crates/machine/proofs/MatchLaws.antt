-- A `match` on a number, against a list that the number is in or not.
use Rattle.numbers.proofs.Kit.{◌≡◌, refl, sym, ◌∙◌, inl, inr, Bool, true, false, ◌||◌, List, [], ◌∷◌, ℕ, eqb, eq-eqb, eqb-true}
use types.Run.{OneOf}
use Rattle.machine.specs.Tests.{is_in}
use Rattle.machine.proofs.TestLaws.{or_right, or-not, false-true}

in-later : (k : ℕ) (ks : List ℕ) (x : ℕ) → OneOf (k ∷ ks) x → is_in x (k ∷ ks) ≡ true
in-later k [] x h = rw (eq-eqb x k h)
in-later k (k' ∷ ks) x (inl h) = rw (eq-eqb x k h)
in-later k (k' ∷ ks) x (inr h) = or_right (eqb x k) (is_in x (k' ∷ ks)) (in-later k' ks x h)

pub one_of : (ks : List ℕ) (x : ℕ) → OneOf ks x → true ≡ is_in x ks
one_of [] x h = absurd h
one_of (k ∷ ks) x h = sym (in-later k ks x h)

find : (k : ℕ) (ks : List ℕ) (x : ℕ) → is_in x (k ∷ ks) ≡ true → OneOf (k ∷ ks) x
find k [] x h = go (eqb x k) refl h
  where
    go : (t : Bool) → eqb x k ≡ t → t || false ≡ true → x ≡ k
    go true e h = eqb-true x k e
    go false e h = eqb-true x k (e ∙ h)
find k (k' ∷ ks) x h = go (eqb x k) refl (find k' ks x)
  where
    go : (t : Bool) → eqb x k ≡ t → (is_in x (k' ∷ ks) ≡ true → OneOf (k' ∷ ks) x) → OneOf (k ∷ k' ∷ ks) x
    go true e ih = inl (eqb-true x k e)
    go false e ih = inr (ih (or-not (eqb x k) (is_in x (k' ∷ ks)) h e))

pub found : (ks : List ℕ) (x : ℕ) → is_in x ks ≡ true → OneOf ks x
found [] x h = absurd (false-true h)
found (k ∷ ks) x h = find k ks x h

pub none_of : (ks : List ℕ) (x : ℕ) → (OneOf ks x → ⊥) → false ≡ is_in x ks
none_of [] x h = refl
none_of (k ∷ ks) x h = go (is_in x (k ∷ ks)) refl
  where
    go : (t : Bool) → is_in x (k ∷ ks) ≡ t → false ≡ t
    go true e = absurd (h (found (k ∷ ks) x e))
    go false e = refl
