-- For code: formats, widths and mtype of a plan, where a block starts, and places in the matrices.
use Rattle.numbers.proofs.Kit.{◌≡◌, refl, sym, ap, ◌∙◌, true, List, [], ◌∷◌, ℕ, ◌+◌, ◌*◌, ◌/◌, ◌%◌, ◌^◌, ◌≤◌, ◌<◌, mul-le-mul}
use Rattle.numbers.proofs.Kit.{mul-le-mul_left, div-mul-le_self, mod-eq_of_lt, div-add-mod', arith, leb, ltb, leb-true, ltb-true}
use Rattle.machine.specs.Tests.{is_in}
use Rattle.machine.proofs.TestLaws.{every-each, each-every, each_in}
use Rattle.numbers.specs.Bounds.{most_elen}
use Rattle.machine.specs.Geometry.{elens}
use Rattle.run.specs.declared.Layout.{Layout}
use Rattle.run.specs.declared.Plan.{Plan}
use Rattle.run.specs.declared.Place.TheVariants.{AtM, AtMultiply, AtStore}
use Rattle.run.specs.Encoding.{address_in}
use Rattle.run.specs.Start.{format, kind_fit, planned}
use Rattle.run.proofs.WordLaws.{start-wraps, widest-format}
use Rattle.run_plan.specs.Parts.{in_matrices}

-- ---- formats

abbrev pub sews : List ℕ
sews = 8 ∷ 16 ∷ 32 ∷ 64 ∷ []

abbrev pub factors : List ℕ
factors = 1 ∷ 2 ∷ 4 ∷ []

pub small_product : (s f : ℕ) → is_in s sews ≡ true → is_in f factors ≡ true → f * s ≤ 256
small_product s f hs hf =
    mul-le-mul (leb-true f 4 (each_in f factors (λ y. leb y 4) refl hf)) (leb-true s 64 (each_in s sews (λ y. leb y 64) refl hs))

pub plan-small : (P : Plan) → planned most_elen P ≡ true → (P.sew ≤ 64) × (P.factor ≤ 4) × (P.factor * P.sew ≤ 64)
unfolding planned format
plan-small P h =
    let t = every-each (format most_elen P.sew P.factor ∷ leb P.m 1024 ∷ leb P.k 1024 ∷ leb P.n 1024 ∷ kind_fit P ∷ []) h in
    let u = every-each (is_in P.sew sews ∷ is_in P.factor factors ∷ leb (P.factor * P.sew) most_elen ∷ []) t.0 in (
      leb-true P.sew 64 (each_in P.sew sews (λ y. leb y 64) refl u.0),
      leb-true P.factor 4 (each_in P.factor factors (λ y. leb y 4) refl u.1.0),
      leb-true (P.factor * P.sew) most_elen u.1.1.0,
    )

-- the bytes of an element of C
pub wide-small : (P : Plan) → planned most_elen P ≡ true → P.factor * (P.sew / 8) ≤ 8
wide-small P h = omega (arith, (plan-small P h).2, mul-le-mul_left P.factor (div-mul-le_self P.sew 8))

-- what is planned on a machine is planned on those of the largest ELEN
pub widest-plan : (elen : ℕ) (P : Plan) → is_in elen elens ≡ true → planned elen P ≡ true → planned most_elen P ≡ true
unfolding planned
widest-plan elen P known h =
    let t = every-each (format elen P.sew P.factor ∷ leb P.m 1024 ∷ leb P.k 1024 ∷ leb P.n 1024 ∷ kind_fit P ∷ []) h in
    each-every (format most_elen P.sew P.factor ∷ leb P.m 1024 ∷ leb P.k 1024 ∷ leb P.n 1024 ∷ kind_fit P ∷ [])
    (widest-format elen P.sew P.factor known t.0, t.1)

-- ---- addresses

halves : (u v p : ℕ) → p ≡ u * 0x1_0000_0000 + v → (u % 0x1_0000_0000 * 0x1_0000_0000 + v) % 2 ^ 64 ≡ p % 2 ^ 64
halves u v p h = omega arith

pub row-halves : (i s : ℕ) → (i * (s / 0x1_0000_0000) % 0x1_0000_0000 * 0x1_0000_0000 + i * (s % 0x1_0000_0000)) % 2 ^ 64 ≡ (i * s) % 2 ^ 64
row-halves i s = halves (i * (s / 0x1_0000_0000)) (i * (s % 0x1_0000_0000)) (i * s) (omega (arith, ap (λ (x : ℕ). i * x) (sym (div-add-mod' s 0x1_0000_0000))))

pub start-by : (l : Layout) (i b : ℕ) → i ≤ 1024 → l.address < 2 ^ 64 → l.stride < 2 ^ 64 → b < 2 ^ 64
    → ((l.address + (i * l.stride) % 2 ^ 64) % 2 ^ 64 + b) % 2 ^ 64 ≡ address_in l i b
start-by l i b hi ha hs hb =
    let ei : i % 0x1_0000_0000_0000_0000 ≡ i = mod-eq_of_lt (omega arith) in
    let ea : l.address % 0x1_0000_0000_0000_0000 ≡ l.address = mod-eq_of_lt ha in
    let eb : b % 0x1_0000_0000_0000_0000 ≡ b = mod-eq_of_lt hb in
    ap (λ (x : ℕ). ((x + (i * l.stride) % 2 ^ 64) % 2 ^ 64 + b) % 2 ^ 64) (sym ea)
    ∙ ap (λ (x : ℕ). ((l.address % 2 ^ 64 + (x * l.stride) % 2 ^ 64) % 2 ^ 64 + b) % 2 ^ 64) (sym ei)
    ∙ ap (λ (x : ℕ). ((l.address % 2 ^ 64 + (i % 2 ^ 64 * l.stride) % 2 ^ 64) % 2 ^ 64 + x) % 2 ^ 64) (sym eb)
    ∙ sym (start-wraps l i b hs)

-- ---- a place in the matrices

pub at-m : (P : Plan) (i : ℕ) → in_matrices P (AtM i) ≡ true → i ≤ P.m
at-m P i h = omega (arith, ltb-true i P.m h)

-- a place in a block of C, and one in a block of terms
pub at_store : (P : Plan) (i j : ℕ) → in_matrices P (AtStore i j) ≡ true → (i ≤ P.m) × (j ≤ P.n)
at_store P i j h =
    let t = every-each (ltb i P.m ∷ ltb j P.n ∷ []) h in
    omega (arith, ltb-true i P.m t.0, ltb-true j P.n t.1.0)

pub at-multiply : (P : Plan) (i j s : ℕ) → in_matrices P (AtMultiply i j s) ≡ true → (i ≤ P.m) × ((j ≤ P.n) × (s ≤ P.k))
at-multiply P i j s h =
    let t = every-each (ltb i P.m ∷ ltb j P.n ∷ ltb s P.k ∷ []) h in
    omega (arith, ltb-true i P.m t.0, ltb-true j P.n t.1.0, ltb-true s P.k t.1.1.0)
