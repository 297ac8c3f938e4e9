-- Loops over accumulators.
use Rattle.numbers.proofs.Kit.{◌≡◌, ◌∙◌, List, ℕ, ◌+◌, ◌≤◌, ◌<◌, arith, length, set, get_or, get_or-set_same, get_or-set_other}
use Rattle.std.proofs.Common.{below_more}

-- accumulators of any type; past the last there is x
module _ {A : Type 0} (x : A) where
  -- a store at i: what held below i of the elements holds below i + 1
  pub set_below : (F : ℕ → A) (l : List A) (i : ℕ) (v : A) → i < length l → ((q : ℕ) → q < i → get_or l q x ≡ F q) → v ≡ F i
      → (q : ℕ) → q < i + 1 → get_or (set l i v) q x ≡ F q
  set_below F l i v h all e =
      below_more (λ q. get_or (set l i v) q x ≡ F q) i
      (λ q k. get_or-set_other l i q v x (λ s. omega arith) ∙ all q k)
      (get_or-set_same l i v x h ∙ e)

  -- and what held from i on holds from i + 1 on
  pub set-above : (F : ℕ → A) (l : List A) (i : ℕ) (v : A) → ((q : ℕ) → i ≤ q → get_or l q x ≡ F q)
      → (q : ℕ) → i + 1 ≤ q → get_or (set l i v) q x ≡ F q
  set-above F l i v all q k = get_or-set_other l i q v x (λ s. omega arith) ∙ all q (omega arith)
