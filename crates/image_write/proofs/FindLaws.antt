-- Finding the runs of marked bytes, one after the other.
use Rattle.numbers.proofs.Kit.{◌≡◌, refl, sym, ap, ap₂, ◌∙◌, subst, ◌⊎◌, inl, inr, List, [], ◌∷◌, ◌++◌, map, append-nil, none, some, ℕ, zero, suc, ◌+◌, ◌-◌}
use Rattle.numbers.proofs.Kit.{◌^◌, ◌≤◌, ◌<◌, arith, length, take, drop, get_or, replicate, length-drop, drop_of_length-le, length-append, get_or-drop}
use Rattle.numbers.proofs.Kit.{drop-drop, length-take-le}
use Rattle.numbers.proofs.BlockLaws.{le-or-lt}
use Rattle.numbers_format.specs.Numbers.{encode}
use Rattle.image.specs.Cells.{Cell, cell, cells_of, Run, widen, runs, Fit}
use Rattle.image.specs.Cells.Run.{run}
use Rattle.image.specs.Images.{runs_bytes}
use Rattle.image.proofs.RunLaws.{runs-gap, runs-body, runs_none, fit-runs}
use Rattle.numbers_coded.proofs.SizeLaws.{size-bound}
use Rattle.image_write.specs.Parts.{Stretch}
use Rattle.image_write.proofs.StretchLaws.{below}

-- ---- finding the runs: g bytes without a mark, then some with one, then the end or one without

cells-none : (g : ℕ) (bs ms : List ℕ) → length bs ≡ length ms → g ≤ length ms → ((i : ℕ) → i < g → get_or ms i 0 ≡ 0)
    → cells_of bs ms ≡ replicate g none ++ cells_of (drop g bs) (drop g ms)
cells-none zero bs ms n h z = refl
cells-none (suc g) [] ms n h z = absurd (omega (arith, n))
cells-none (suc g) (b ∷ bs) [] n h z = absurd (omega (arith, n))
cells-none (suc g) (b ∷ bs) (m ∷ ms) n h z =
    ap₂ (λ (x : Cell) (l : List Cell). x ∷ l) (ap (cell b) (z 0 (omega arith)))
    (cells-none g bs ms (omega (arith, n)) (omega arith) (λ i k. z (suc i) (omega arith)))

cells-some : (g : ℕ) (bs ms : List ℕ) → length bs ≡ length ms → g ≤ length ms → ((i : ℕ) → i < g → get_or ms i 0 ≡ 1)
    → cells_of bs ms ≡ map some (take g bs) ++ cells_of (drop g bs) (drop g ms)
cells-some zero bs ms n h z = refl
cells-some (suc g) [] ms n h z = absurd (omega (arith, n))
cells-some (suc g) (b ∷ bs) [] n h z = absurd (omega (arith, n))
cells-some (suc g) (b ∷ bs) (m ∷ ms) n h z =
    ap₂ (λ (x : Cell) (l : List Cell). x ∷ l) (ap (cell b) (z 0 (omega arith)))
    (cells-some g bs ms (omega (arith, n)) (omega arith) (λ i k. z (suc i) (omega arith)))

-- the runs of bytes whose first has no mark, or of none, start with a gap
gapped : (bs ms : List ℕ) → (0 < length ms → get_or ms 0 0 ≡ 0) → (k : ℕ) × Fit 1 k (runs (cells_of bs ms))
unfolding runs
gapped [] ms z = (0, tt)
gapped (b ∷ bs) [] z = (0, tt)
gapped (b ∷ bs) (m ∷ ms) z =
    (suc (length (cells_of bs ms)), subst (λ (x : ℕ). Fit 1 (suc (length (cells_of bs ms))) (runs (cell b x ∷ cells_of bs ms))) (sym (z (omega arith))) (fit-gap (length (cells_of bs ms)) (runs (cells_of bs ms)) (fit-runs (cells_of bs ms))))
  where
    fit-gap : (n : ℕ) (rs : List Run) → Fit 0 n rs → Fit 1 (suc n) (widen rs)
    fit-gap n [] h = tt
    fit-gap n (run g b ∷ rs) h =
        let e : n - (g + length b) ≡ suc n - (suc g + length b) = omega arith in
        (omega (arith, h.0), subst (λ (x : ℕ). Fit 1 x rs) e h.1)

pub next-run : (g k : ℕ) (bs ms : List ℕ) → length bs ≡ length ms → g + suc k ≤ length ms
    → ((i : ℕ) → i < g → get_or ms i 0 ≡ 0) → ((i : ℕ) → i < suc k → get_or ms (g + i) 0 ≡ 1) → (g + suc k < length ms → get_or ms (g + suc k) 0 ≡ 0)
    → runs (cells_of bs ms) ≡ run g (take (suc k) (drop g bs)) ∷ runs (cells_of (drop (g + suc k) bs) (drop (g + suc k) ms))
next-run g k bs ms n h zeros marked ends =
    let bs₁ : List ℕ = drop g bs in
    let ms₁ : List ℕ = drop g ms in
    let n₁ : length bs₁ ≡ length ms₁ = length-drop g bs ∙ ap (λ (x : ℕ). x - g) n ∙ sym (length-drop g ms) in
    let lm : length ms₁ ≡ length ms - g = length-drop g ms in
    let e : cells_of bs ms ≡ replicate g none ++ cells_of bs₁ ms₁ = cells-none g bs ms n (omega arith) zeros in
    let e₁ : cells_of bs₁ ms₁ ≡ map some (take (suc k) bs₁) ++ cells_of (drop (suc k) bs₁) (drop (suc k) ms₁) =
    cells-some (suc k) bs₁ ms₁ n₁ (omega arith) (λ i q. get_or-drop g ms i 0 ∙ marked i q) in
    let ds : List Cell = cells_of (drop (suc k) bs₁) (drop (suc k) ms₁) in
    let lm₂ : length (drop (suc k) ms₁) ≡ length ms₁ - suc k = length-drop (suc k) ms₁ in
    let w = gapped (drop (suc k) bs₁) (drop (suc k) ms₁)
    (λ q. ap (λ (l : List ℕ). get_or l 0 0) (drop-drop (suc k) g ms) ∙ get_or-drop (g + suc k) ms 0 0 ∙ ap (λ (x : ℕ). get_or ms x 0) (omega arith) ∙ ends (omega arith)) in
    let whole : runs (map some (take (suc k) bs₁) ++ ds) ≡ run 0 (take (suc k) bs₁) ∷ runs ds = body (take (suc k) bs₁) w.0 ds (omega (arith, length-take-le (suc k) bs₁ (omega arith))) w.1 in
    ap runs e
    ∙ runs-gap g (take (suc k) bs₁) (runs ds) (cells_of bs₁ ms₁) (ap runs e₁ ∙ whole)
    ∙ ap₂ (λ (x y : List ℕ). run g (take (suc k) bs₁) ∷ runs (cells_of x y)) (drop-drop (suc k) g bs) (drop-drop (suc k) g ms)
  where
    body : (b : List ℕ) (m : ℕ) (cs : List Cell) → 0 < length b → Fit 1 m (runs cs) → runs (map some b ++ cs) ≡ run 0 b ∷ runs cs
    body [] m cs h f = absurd (omega arith)
    body (c ∷ b) m cs h f = runs-body c b m cs f

pub last-run : (bs ms : List ℕ) → length bs ≡ length ms → ((i : ℕ) → i < length ms → get_or ms i 0 ≡ 0) → runs (cells_of bs ms) ≡ []
last-run bs ms n z =
    ap runs (cells-none (length ms) bs ms n (omega arith) z
    ∙ ap₂ (λ (x y : List ℕ). replicate (length ms) none ++ cells_of x y) (drop_of_length-le bs {i = length ms} (omega arith)) (drop_of_length-le ms {i = length ms} (omega arith))
    ∙ append-nil (replicate (length ms) none))
    ∙ runs_none (length ms)

-- ---- as the code finds them: from a place on

-- the runs from a place on
abbrev pub runs_at : (registers marks : List ℕ) → ℕ → List Run
runs_at registers marks at = runs (cells_of (drop at registers) (drop at marks))

module _ (bs ms : List ℕ) (n : length bs ≡ length ms) (two : (q : ℕ) → get_or ms q 0 < 2) (at first : ℕ) (gap : Stretch ms at (length ms) 0 first) where
  same_left : length (drop at bs) ≡ length (drop at ms)
  same_left = length-drop at bs ∙ ap (λ (x : ℕ). x - at) n ∙ sym (length-drop at ms)

  -- none is left
  pub no_run : first ≡ length ms → runs_at bs ms at ≡ []
  no_run e = last-run (drop at bs) (drop at ms) same_left (λ i l.
      get_or-drop at ms i 0 ∙ gap.to.all_same (at + i) (omega arith) (omega (arith, length-drop at ms, e)))

  module _ (end : ℕ) (marked : Stretch ms first (length ms) 1 end) (more : first < length ms) where
    -- the first mark behind the gap is 1, and the first behind the run 0
    one-there : get_or ms first 0 ≡ 1
    one-there = let x = gap.other more in let y = two first in not-zero (get_or ms first 0) x y
      where
        not-zero : (m : ℕ) → ¬ (m ≡ 0) → m < 2 → m ≡ 1
        not-zero zero x y = absurd (x refl)
        not-zero (suc zero) x y = refl
        not-zero (suc (suc m)) x y = absurd (omega arith)

    zero-there : end < length ms → get_or ms end 0 ≡ 0
    zero-there l = not-one (get_or ms end 0) (marked.other l) (two end)
      where
        not-one : (m : ℕ) → ¬ (m ≡ 1) → m < 2 → m ≡ 0
        not-one zero x y = refl
        not-one (suc zero) x y = absurd (x refl)
        not-one (suc (suc m)) x y = absurd (omega arith)

    pub some-there : first < end
    some-there = elim-lt end marked.to.from-there marked.other
      where
        elim-lt : (e : ℕ) → first ≤ e → (e < length ms → ¬ (get_or ms e 0 ≡ 1)) → first < e
        elim-lt e l o = go (le-or-lt e first)
          where
            go : (e ≤ first) ⊎ (first < e) → first < e
            go (inl k) = let same : e ≡ first = omega arith in absurd (o (omega arith) (subst (λ (x : ℕ). get_or ms x 0 ≡ 1) (sym same) one-there))
            go (inr k) = k

    pub one-run : runs_at bs ms at ≡ run (first - at) (take (end - first) (drop first bs)) ∷ runs_at bs ms end
    one-run =
        let f0 = gap.to.from-there in
        let e0 = marked.to.in-marks in
        let s0 = some-there in
        let g : ℕ = first - at in
        let k : ℕ = end - first - 1 in
        let ek : suc k ≡ end - first = omega arith in
        let ld : length (drop at ms) ≡ length ms - at = length-drop at ms in
        let law = next-run g k (drop at bs) (drop at ms) same_left (omega arith)
        (λ i l. get_or-drop at ms i 0 ∙ gap.to.all_same (at + i) (omega arith) (omega arith))
        (λ i l. get_or-drop at ms (g + i) 0 ∙ marked.to.all_same (at + (g + i)) (omega arith) (omega arith))
        (λ l. get_or-drop at ms (g + suc k) 0 ∙ ap (λ (x : ℕ). get_or ms x 0) {x = at + (g + suc k)} {y = end} (omega arith) ∙ zero-there (omega arith)) in
        let db : drop g (drop at bs) ≡ drop first bs = drop-drop g at bs ∙ ap (λ (x : ℕ). drop x bs) {x = at + g} {y = first} (omega arith) in
        let de : (xs : List ℕ) → drop (g + suc k) (drop at xs) ≡ drop end xs = λ xs. drop-drop (g + suc k) at xs ∙ ap (λ (x : ℕ). drop x xs) {x = at + (g + suc k)} {y = end} (omega arith) in
        law ∙ ap₂ (λ (x : ℕ) (z : List ℕ). run g (take x z) ∷ runs (cells_of (drop (g + suc k) (drop at bs)) (drop (g + suc k) (drop at ms)))) ek db
        ∙ ap₂ (λ (x y : List ℕ). run g (take (end - first) (drop first bs)) ∷ runs (cells_of x y)) (de bs) (de ms)

    pub run-size : length (take (end - first) (drop first bs)) ≡ end - first
    run-size = length-take-le (end - first) (drop first bs) (omega (arith, length-drop first bs, n, marked.to.in-marks, marked.to.from-there))

    -- its bytes in an image, before those of the others
    pub run-bytes : runs_bytes (runs_at bs ms at) ≡ encode (first - at) ++ (encode (end - first) ++ (take (end - first) (drop first bs) ++ runs_bytes (runs_at bs ms end)))
    run-bytes =
        ap runs_bytes one-run
        ∙ ap (λ (x : ℕ). encode (first - at) ++ (encode x ++ (take (end - first) (drop first bs) ++ runs_bytes (runs_at bs ms end)))) run-size

    pub run_length : length (runs_bytes (runs_at bs ms at)) ≡ length (encode (first - at)) + length (encode (end - first)) + (end - first) + length (runs_bytes (runs_at bs ms end))
    run_length =
        let a : List ℕ = encode (first - at) in
        let b : List ℕ = encode (end - first) in
        let t : List ℕ = take (end - first) (drop first bs) in
        let r : List ℕ = runs_bytes (runs_at bs ms end) in
        ap length run-bytes ∙ omega (arith, length-append a (b ++ (t ++ r)), length-append b (t ++ r), length-append t r, run-size)

-- the run behind a place, whatever the registers hold: its gap and its length take at most ten bytes each
pub record Found (ms : List ℕ) (at first end : ℕ) : Type 0 where
  pub behind-gap : at ≤ first
  pub some-marks : first < end
  pub in-marks : end ≤ length ms
  pub few-marks : length ms < 2 ^ 32
  pub gap-bytes : length (encode (first - at)) ≤ 10
  pub size-bytes : length (encode (end - first)) ≤ 10
  pub first_run : (bs : List ℕ) → length bs ≡ length ms → runs_at bs ms at ≡ run (first - at) (take (end - first) (drop first bs)) ∷ runs_at bs ms end
  pub first-bytes : (bs : List ℕ) → length bs ≡ length ms
      → length (runs_bytes (runs_at bs ms at)) ≡ length (encode (first - at)) + length (encode (end - first)) + (end - first) + length (runs_bytes (runs_at bs ms end))

pub found-run : (ms : List ℕ) → length ms < 2 ^ 32 → ((q : ℕ) → get_or ms q 0 < 2) → (at first : ℕ) → Stretch ms at (length ms) 0 first → (end : ℕ) → Stretch ms first (length ms) 1 end → ¬ (first ≡ length ms)
    → Found ms at first end
found-run ms few two at first gap end marked apart =
    let more = below first (length ms) gap.to.in-marks apart in
    record {
      behind-gap = gap.to.from-there;
      some-marks = some-there ms ms refl two at first gap end marked more;
      in-marks = marked.to.in-marks;
      few-marks = few;
      gap-bytes = size-bound (first - at) (omega (arith, gap.to.in-marks));
      size-bytes = size-bound (end - first) (omega (arith, marked.to.in-marks));
      first_run = λ bs n. one-run bs ms n two at first gap end marked more;
      first-bytes = λ bs n. run_length bs ms n two at first gap end marked more;
    }

-- past the last mark
pub runs_past : (bs ms : List ℕ) → length bs ≡ length ms → (at : ℕ) → length ms ≤ at → runs_at bs ms at ≡ []
unfolding runs
runs_past bs ms n at h = ap₂ (λ (x y : List ℕ). runs (cells_of x y)) (drop_of_length-le bs {i = at} (omega arith)) (drop_of_length-le ms {i = at} h)
