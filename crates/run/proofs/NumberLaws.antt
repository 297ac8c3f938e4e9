-- What a run needs of its elements, integers or binary32 numbers: a multiply passes its checks where an integer multiply does, a cleared
-- element is the sum of no product, a multiply adds the products of one block to the sum, and both fit their width. All that is
-- particular to either in the proof of demand 3 stands here.
use Rattle.numbers.proofs.Kit.{◌≡◌, refl, sym, ap, ap₂, ◌∙◌, subst, Bool, List, ℕ, ◌+◌, ◌*◌, ◌%◌, ◌^◌, ◌<◌, mod-eq_of_lt, one-le-pow, one-mul, arith, ℤ}
use Rattle.numbers.proofs.Kit.{pos, ◌+ℤ◌, ◌*ℤ◌, *ℤ-zero, eq-eqb}
use Rattle.numbers.specs.Reduce.{signed, reduce, sumℤ}
use Rattle.numbers.specs.Binary32.{value_of, float_product}
use Rattle.numbers.proofs.ReduceLaws.{sumℤ-add, sumℤ-cong, accumulate, reduce-lt}
use Rattle.numbers.proofs.Binary32Laws as Binary32
use Rattle.machine.specs.Geometry.{Parameters, State, tile_at, acc_at}
use Rattle.machine.specs.Setting.{sew}
use Rattle.machine.specs.Operation.{Operation, element, written}
use Rattle.machine.specs.ArithmeticWords.{product, multiply_reads}
use Rattle.machine.specs.Meanings.{state_after, memory_after, checks}
use Rattle.machine.proofs.CheckLaws.{Passed}
use Rattle.run.specs.Plan.{Elements, integers, floats, total}

-- a binary32 number has four bytes, and C's are no wider
abbrev pub Suits : Elements → (factor narrow : ℕ) → Type 0
Suits integers f e = Unit {0}
Suits floats f e = (f ≡ 1) × (e ≡ 4)

-- ---- the multiply

abbrev pub multiply_of : Elements → (factor : ℕ) → Operation
multiply_of integers f = Operation.multiply f 0 0 1
multiply_of floats f = Operation.float_multiply 0 0 1

-- an element that it leaves
abbrev pub product_by : Elements → (wide narrow terms old : ℕ) → (a b : ℕ → ℕ) → ℕ
product_by integers W e t old a b = product W e t old a b
product_by floats W e t old a b = float_product t old a b

module _ (M : Parameters) (st : State) (mem : List ℕ) (f : ℕ) where
  abbrev narrow : ℕ
  narrow = sew st.mtype

  pub multiply-passes : (isSealed : ℕ → Bool) (q : Elements) → Suits q f narrow → Passed (checks M isSealed (Operation.multiply f 0 0 1) st mem) → Passed (checks M isSealed (multiply_of q f) st mem)
  multiply-passes z integers s p = p
  multiply-passes z floats s p =
      (p.0, (eq-eqb (8 * narrow) 32 (ap (λ (e : ℕ). 8 * e) s.1), subst (λ (g : ℕ). Passed (multiply_reads M g 0 0 1 st)) s.0 p.1.1))

  pub multiply-leaves : (q : Elements) → Suits q f narrow → state_after M (multiply_of q f) st mem
      ≡ written st (acc_at M 0) st.tile_m st.tile_n (f * narrow) (λ r c. product_by q (f * narrow) narrow st.tile_k
      (element st.regs (acc_at M 0) (f * narrow) r c) (λ l. element st.regs (tile_at M 0) narrow r l) (λ l. element st.regs (tile_at M 1) narrow l c))
  multiply-leaves integers s = refl
  multiply-leaves floats s =
      ap (λ (w : ℕ). written st (acc_at M 0) st.tile_m st.tile_n w (λ r c. float_product st.tile_k
      (element st.regs (acc_at M 0) w r c) (λ l. element st.regs (tile_at M 0) narrow r l) (λ l. element st.regs (tile_at M 1) narrow l c)))
      (sym (ap (λ (x : ℕ). x * narrow) s.0 ∙ one-mul narrow))

  pub multiply-memory : (q : Elements) → memory_after M (multiply_of q f) st mem ≡ mem
  multiply-memory integers = refl
  multiply-memory floats = refl

-- ---- sums

module _ (f e : ℕ) where
  abbrev W : ℕ
  W = f * e

  reduced : (z : ℤ) → reduce (256 ^ W) z % 256 ^ W ≡ reduce (256 ^ W) z
  reduced z = mod-eq_of_lt (reduce-lt (256 ^ W) (one-le-pow W 256 (omega arith)) z)

  -- what fits four bytes fits a float's
  four : Suits floats f e → (v : ℕ) → v % 256 ^ 4 ≡ v → v % 256 ^ W ≡ v
  four s v h = subst (λ (w : ℕ). v % 256 ^ w ≡ v) (sym (ap₂ ◌*◌ s.0 s.1)) h

  pub product_small : (q : Elements) → Suits q f e → (t old : ℕ) (a b : ℕ → ℕ) → product_by q W e t old a b % 256 ^ W ≡ product_by q W e t old a b
  product_small integers s t old a b = reduced (signed (256 ^ W) old +ℤ sumℤ t (λ l. signed (256 ^ e) (a l) *ℤ signed (256 ^ e) (b l)))
  product_small floats s t old a b = four s (float_product t old a b) (Binary32.product_small t old a b)

  pub total-small : (q : Elements) → Suits q f e → (a b : ℕ → ℕ) (s : ℕ) → total q W e a b s % 256 ^ W ≡ total q W e a b s
  unfolding total
  total-small integers u a b s = reduced (sumℤ s (λ l. signed (256 ^ e) (a l) *ℤ signed (256 ^ e) (b l)))
  total-small floats u a b s = subst (λ (v : ℕ). v % 256 ^ W ≡ v) (Binary32.from_zero s a b) (product_small floats u s 0 a b)

  -- the clear: any number times 0
  pub cleared : (q : Elements) (a b : ℕ → ℕ) (x : ℤ) → reduce (256 ^ W) (x *ℤ pos 0) % 256 ^ W ≡ total q W e a b 0
  unfolding total reduce
  cleared integers a b x = reduced (x *ℤ pos 0) ∙ ap (reduce (256 ^ W)) (*ℤ-zero x)
  cleared floats a b x =
      reduced (x *ℤ pos 0) ∙ ap (reduce (256 ^ W)) (*ℤ-zero x) ∙ mod-eq_of_lt (one-le-pow W 256 (omega arith))
      ∙ sym (Binary32.zero-stored (λ l. value_of (a l)) (λ l. value_of (b l)))

  -- a sum goes on by the terms of one block
  pub total-more : (q : Elements) (a b : ℕ → ℕ) (s t old : ℕ) (c d : ℕ → ℕ) → old ≡ total q W e a b s
      → ((l : ℕ) → l < t → c l ≡ a (s + l)) → ((l : ℕ) → l < t → d l ≡ b (s + l))
      → product_by q W e t old c d ≡ total q W e a b (s + t)
  unfolding total
  total-more integers a b s t old c d o hc hd =
      let g : ℕ → ℤ = λ l. signed (256 ^ e) (a l) *ℤ signed (256 ^ e) (b l) in
      ap₂ (λ (x : ℕ) (y : ℤ). reduce (256 ^ W) (signed (256 ^ W) x +ℤ y)) o
      (sumℤ-cong t (λ l. signed (256 ^ e) (c l) *ℤ signed (256 ^ e) (d l)) (λ l. g (s + l))
      (λ l i. ap₂ (λ (x y : ℕ). signed (256 ^ e) x *ℤ signed (256 ^ e) y) (hc l i) (hd l i)))
      ∙ accumulate (256 ^ W) (one-le-pow W 256 (omega arith)) (sumℤ s g) (sumℤ t (λ l. g (s + l)))
      ∙ ap (reduce (256 ^ W)) (sym (sumℤ-add s t g))
  total-more floats a b s t old c d o hc hd =
      ap (λ (x : ℕ). float_product t x c d) (o ∙ sym (Binary32.from_zero s a b))
      ∙ Binary32.product-cong (float_product s 0 a b) t c d (λ l. a (s + l)) (λ l. b (s + l)) hc hd
      ∙ Binary32.product-more 0 s t a b
      ∙ Binary32.from_zero (s + t) a b
