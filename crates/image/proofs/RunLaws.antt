-- Runs and cells: the runs tell the cells, and runs that fit are the runs of the cells that they spell.
use Rattle.numbers.proofs.Kit.{◌≡◌, refl, sym, ap, ap₂, ◌∙◌, subst, List, [], ◌∷◌, ◌++◌, map, none, some, ℕ, zero, suc, ◌+◌, ◌-◌, ◌*◌, ◌≤◌, arith, length}
use Rattle.numbers.proofs.Kit.{replicate, length-append, length-replicate, length-map}
use Rattle.image.specs.Cells.{Cell, Run, widen, join, runs, spread, Fit}
use Rattle.image.specs.Cells.Run.{run}
use Rattle.image.specs.Theorems.{RunsAreMaximal}

spread-widen : (n : ℕ) (rs : List Run) → spread (suc n) (widen rs) ≡ none ∷ spread n rs
unfolding spread
spread-widen n [] = refl
spread-widen n (run g b ∷ rs) = ap (λ (x : ℕ). none ∷ (replicate g none ++ (map some b ++ spread x rs))) (omega arith)

spread_join : (n c : ℕ) (rs : List Run) → spread (suc n) (join c rs) ≡ some c ∷ spread n rs
unfolding spread
spread_join n c [] = let e : suc n - (0 + 1) ≡ n = omega arith in ap (λ (x : ℕ). some c ∷ replicate x none) e
spread_join n c (run zero b ∷ rs) = ap (λ (x : ℕ). some c ∷ (map some b ++ spread x rs)) (omega arith)
spread_join n c (run (suc g) b ∷ rs) = ap (λ (x : ℕ). some c ∷ spread x (run (suc g) b ∷ rs)) (omega arith)

pub spread-runs : (cs : List Cell) → spread (length cs) (runs cs) ≡ cs
unfolding runs spread
spread-runs [] = refl
spread-runs (none ∷ cs) = spread-widen (length cs) (runs cs) ∙ ap (λ (l : List Cell). none ∷ l) (spread-runs cs)
spread-runs (some b ∷ cs) = spread_join (length cs) b (runs cs) ∙ ap (λ (l : List Cell). some b ∷ l) (spread-runs cs)

fit-widen : (n : ℕ) (rs : List Run) → Fit 0 n rs → Fit 0 (suc n) (widen rs)
fit-widen n [] h = tt
fit-widen n (run g b ∷ rs) h =
    let e : n - (g + length b) ≡ suc n - (suc g + length b) = omega arith in
    (omega (arith, h.0), subst (λ (x : ℕ). Fit 1 x rs) e h.1)

fit-join : (n c : ℕ) (rs : List Run) → Fit 0 n rs → Fit 0 (suc n) (join c rs)
fit-join n c [] h = (omega arith, tt)
fit-join n c (run zero b ∷ rs) h =
    let e : n - (0 + length b) ≡ suc n - (0 + suc (length b)) = omega arith in
    (omega (arith, h.0), subst (λ (x : ℕ). Fit 1 x rs) e h.1)
fit-join n c (run (suc g) b ∷ rs) h =
    let e : n ≡ suc n - (0 + 1) = omega arith in
    let w : Fit 1 n (run (suc g) b ∷ rs) = (omega (arith, h.0), h.1) in
    (omega arith, subst (λ (x : ℕ). Fit 1 x (run (suc g) b ∷ rs)) e w)

pub fit-runs : (cs : List Cell) → Fit 0 (length cs) (runs cs)
unfolding runs
fit-runs [] = tt
fit-runs (none ∷ cs) = fit-widen (length cs) (runs cs) (fit-runs cs)
fit-runs (some b ∷ cs) = fit-join (length cs) b (runs cs) (fit-runs cs)

pub runs_none : (n : ℕ) → runs (replicate n none) ≡ []
unfolding runs
runs_none zero = refl
runs_none (suc n) = ap widen (runs_none n)

pub runs-gap : (g : ℕ) (b : List ℕ) (rs : List Run) (cs : List Cell) → runs cs ≡ run 0 b ∷ rs → runs (replicate g none ++ cs) ≡ run g b ∷ rs
unfolding runs
runs-gap zero b rs cs e = e
runs-gap (suc g) b rs cs e = ap widen (runs-gap g b rs cs e)

join-far : (c n : ℕ) (rs : List Run) → Fit 1 n rs → join c rs ≡ run 0 (c ∷ []) ∷ rs
join-far c n [] h = refl
join-far c n (run zero b ∷ rs) h = absurd (omega (arith, h.0))
join-far c n (run (suc g) b ∷ rs) h = refl

pub runs-body : (c : ℕ) (b : List ℕ) (n : ℕ) (cs : List Cell) → Fit 1 n (runs cs) → runs (map some (c ∷ b) ++ cs) ≡ run 0 (c ∷ b) ∷ runs cs
unfolding runs
runs-body c [] n cs h = join-far c n (runs cs) h
runs-body c (d ∷ b) n cs h = ap (join c) (runs-body d b n cs h)

pub runs-spread : (least n : ℕ) (rs : List Run) → Fit least n rs → runs (spread n rs) ≡ rs
unfolding spread
runs-spread least n [] h = runs_none n
runs-spread least n (run g [] ∷ rs) h = absurd (omega (arith, h.0))
runs-spread least n (run g (c ∷ b) ∷ rs) h =
    let m : ℕ = n - (g + length (c ∷ b)) in
    let ih : runs (spread m rs) ≡ rs = runs-spread 1 m rs h.1 in
    runs-gap g (c ∷ b) rs (map some (c ∷ b) ++ spread m rs)
    (runs-body c b m (spread m rs) (subst (Fit 1 m) (sym ih) h.1) ∙ ap (λ (l : List Run). run 0 (c ∷ b) ∷ l) ih)

pub length-spread : (least n : ℕ) (rs : List Run) → Fit least n rs → length (spread n rs) ≡ n
unfolding spread
length-spread least n [] h = length-replicate n none
length-spread least n (run g b ∷ rs) h =
    let m : ℕ = n - (g + length b) in
    length-append (replicate g none) (map some b ++ spread m rs)
    ∙ ap₂ ◌+◌ (length-replicate g none) (length-append (map some b) (spread m rs) ∙ ap₂ ◌+◌ (length-map b some) (length-spread 1 m rs h.1))
    ∙ omega (arith, h.0)

-- k runs with a gap of one each take two cells each
pub fit-many : (n : ℕ) (rs : List Run) → Fit 1 n rs → 2 * length rs ≤ n
fit-many n [] h = omega arith
fit-many n (run g b ∷ rs) h = omega (arith, h.0, fit-many (n - (g + length b)) rs h.1)

pub runs-are-maximal : RunsAreMaximal
runs-are-maximal cs = (spread-runs cs, fit-runs cs)
