-- A group that starts at a multiple of its size lies in the vector file.
use Rattle.numbers.proofs.Kit.{◌≡◌, refl, subst, Bool, true, false, ◌||◌, [], ◌∷◌, ℕ, ◌+◌, ◌*◌, ◌%◌, ◌≤◌, ◌<◌, arith, eqb, length, eqb-true}
use Rattle.machine.specs.Tests.{is_in}
use Rattle.machine.specs.Vectors.{Vectors, vectors_fit, vector_bytes, file_bytes, group_sizes, aligned}
use Rattle.machine.proofs.TestLaws.{false-true, every-each}

group-in : (g v : ℕ) → is_in g group_sizes ≡ true → v % g ≡ 0 → v < 32 → (v + g ≤ 32) × (g ≤ 8)
group-in g v h z l = go (eqb g 1) refl (eqb g 2) refl (eqb g 4) refl (eqb g 8) refl h
  where
    at : (n : ℕ) → g ≡ n → v % n ≡ 0
    at n e = subst (λ (k : ℕ). v % k ≡ 0) e z

    go : (a : Bool) → eqb g 1 ≡ a → (b : Bool) → eqb g 2 ≡ b → (c : Bool) → eqb g 4 ≡ c → (d : Bool) → eqb g 8 ≡ d → a || (b || (c || (d || false))) ≡ true
        → (v + g ≤ 32) × (g ≤ 8)
    go true ea b eb c ec d ed h = let e = eqb-true g 1 ea in omega arith
    go false ea true eb c ec d ed h = let e = eqb-true g 2 eb in let y = at 2 e in omega arith
    go false ea false eb true ec d ed h = let e = eqb-true g 4 ec in let y = at 4 e in omega arith
    go false ea false eb false ec true ed h = let e = eqb-true g 8 ed in let y = at 8 e in omega arith
    go false ea false eb false ec false ed h = absurd (false-true h)

group-some : (g : ℕ) → is_in g group_sizes ≡ true → 0 < g
group-some g h = go (eqb g 1) refl (eqb g 2) refl (eqb g 4) refl (eqb g 8) refl h
  where
    go : (a : Bool) → eqb g 1 ≡ a → (b : Bool) → eqb g 2 ≡ b → (c : Bool) → eqb g 4 ≡ c → (d : Bool) → eqb g 8 ≡ d → a || (b || (c || (d || false))) ≡ true → 0 < g
    go true ea b eb c ec d ed h = let e = eqb-true g 1 ea in omega arith
    go false ea true eb c ec d ed h = let e = eqb-true g 2 eb in omega arith
    go false ea false eb true ec d ed h = let e = eqb-true g 4 ec in omega arith
    go false ea false eb false ec true ed h = let e = eqb-true g 8 ed in omega arith
    go false ea false eb false ec false ed h = absurd (false-true h)

module _ (W : Vectors) (fit : vectors_fit W ≡ true) where
  pub file-length : length W.file ≡ file_bytes
  unfolding vectors_fit
  file-length = eqb-true (length W.file) file_bytes (every-each (eqb (length W.file) file_bytes ∷ is_in W.group group_sizes ∷ []) fit).0

  group-is : is_in W.group group_sizes ≡ true
  unfolding vectors_fit
  group-is = (every-each (eqb (length W.file) file_bytes ∷ is_in W.group group_sizes ∷ []) fit).1.0

  pub group-positive : 0 < W.group
  group-positive = group-some W.group group-is

  pub group-fits : (v : ℕ) → aligned W v ≡ true → v < 32 → (v + W.group ≤ 32) × (W.group ≤ 8)
  group-fits v a l = group-in W.group v group-is (eqb-true (v % W.group) 0 a) l

  -- its registers lie in the file
  pub group-room : (v : ℕ) → aligned W v ≡ true → v < 32 → v * vector_bytes + W.group * vector_bytes ≤ length W.file
  group-room v a l = let g = group-fits v a l in omega (arith, file-length)
