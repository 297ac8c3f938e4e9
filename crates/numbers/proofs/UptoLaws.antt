-- The two ways to prove things about a counted loop.
use Rattle.numbers.proofs.Kit.{◌≡◌, refl, subst, ap, ◌∙◌, ◌⊎◌, inl, inr, ℕ, zero, suc, ◌<◌, not-suc-le-zero, eq-or-lt_of_le, le_of_suc-le-suc, arith}
use Rattle.numbers.specs.Upto.{upto}

-- what every turn keeps, the loop keeps
pub upto-keeps {ℓ} : {X : Type ℓ} (P : X → Type 0) (n : ℕ) (f : ℕ → X → X) (x : X)
    → ((i : ℕ) → i < n → (y : X) → P y → P (f i y)) → P x → P (upto n f x)
upto-keeps P zero f x h p = p
upto-keeps P (suc n) f x h p = h n (omega arith) (upto n f x) (upto-keeps P n f x (λ i l. h i (omega arith)) p)

-- what turn k makes and no later turn undoes, the loop makes; I is kept throughout
pub upto-makes {ℓ} : {X : Type ℓ} (I Q : X → Type 0) (n k : ℕ) (f : ℕ → X → X) (x : X) → k < n
    → ((i : ℕ) → i < n → (y : X) → I y → I (f i y))
    → ((y : X) → I y → Q (f k y))
    → ((i : ℕ) → i < n → k < i → (y : X) → I y → Q y → Q (f i y))
    → I x → Q (upto n f x)
upto-makes I Q zero k f x h keep make hold p = absurd (not-suc-le-zero h)
upto-makes I Q (suc n) k f x h keep make hold p =
    go (eq-or-lt_of_le (le_of_suc-le-suc h)) (λ l. upto-makes I Q n k f x l (λ i l'. keep i (omega arith)) make (λ i l' l''. hold i (omega arith) l'') p)
  where
    before : I (upto n f x)
    before = upto-keeps I n f x (λ i l. keep i (omega arith)) p

    go : (k ≡ n) ⊎ (k < n) → (k < n → Q (upto n f x)) → Q (f n (upto n f x))
    go (inl e) ih = subst (λ (i : ℕ). Q (f i (upto n f x))) e (make (upto n f x) before)
    go (inr l) ih = hold n (omega arith) l (upto n f x) before (ih l)

pub upto-cong {ℓ} : {X : Type ℓ} (n : ℕ) (f g : ℕ → X → X) (x : X) → ((i : ℕ) → i < n → (y : X) → f i y ≡ g i y) → upto n f x ≡ upto n g x
upto-cong zero f g x h = refl
upto-cong (suc n) f g x h = h n (omega arith) (upto n f x) ∙ ap (g n) (upto-cong n f g x (λ i l. h i (omega arith)))

-- a loop inside a larger value: f does to h y what g does to y
pub upto-inside {ℓ ℓ'} : {X : Type ℓ} {Y : Type ℓ'} (h : Y → X) (n : ℕ) (f : ℕ → X → X) (g : ℕ → Y → Y) (y : Y)
    → ((i : ℕ) (z : Y) → f i (h z) ≡ h (g i z)) → upto n f (h y) ≡ h (upto n g y)
upto-inside h zero f g y e = refl
upto-inside h (suc n) f g y e = ap (f n) (upto-inside h n f g y e) ∙ e n (upto n g y)
