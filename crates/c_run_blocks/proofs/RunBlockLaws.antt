-- Laws of a run's block: what is read back of what was written, and that a block written over with its own numbers stays.
use Rattle.numbers.proofs.Kit.{◌≡◌, refl, sym, ap, ap₂, ◌∙◌, subst, true, List, ◌∷◌, ℕ, ◌+◌, ◌*◌, ◌^◌, ◌<◌, mod-eq_of_lt, arith, eqb, length, get_or}
use Rattle.numbers.proofs.Kit.{get_or-take, get_or-drop, eqb-true, eq-eqb}
use Rattle.numbers.specs.Tile.{get_le, put_le, put_row}
use Rattle.numbers.proofs.TileLaws.{length-put_row}
use Rattle.numbers.proofs.WordLaws.{le-put_row}
use Rattle.machine.specs.Tests.{every}
use Rattle.machine.proofs.TestLaws.{and_left, and_right, Each, every-each, each-every}
use Rattle.run.specs.declared.Place.{Place}
use Rattle.run.specs.declared.Place.TheVariants.{AtType, AtM, AtN, AtClear, AtK, AtA, AtB, AtMultiply, AtStore, AtEnd}
use Rattle.run.specs.declared.Layout.{Layout}
use Rattle.run.specs.declared.Plan.{Plan}
use Rattle.run.specs.declared.Run.{Run}
use Rattle.c_blocks.specs.Blocks.{Bytes, put_numbers, first_values}
use Rattle.c_blocks.proofs.BlockLaws.{put-middle, value-at, put_same}
use Rattle.c_run_blocks.specs.declared.Spot.{Spot}
use Rattle.c_run_blocks.specs.RunBlocks.{run_bytes, spot, spot_of, spot_in, place_of, layout_of, plan_of, run_of, plan_numbers, run_numbers, put_run, RunKept, same_spot, run_fit}

-- ---- what a return has to show, from what was read or written at each place

-- a number written over a block that is known
pub write-next : (p v : ℕ) {b₁ b₂ b : List ℕ} → b₂ ≡ put_le p 8 v b₁ → b₁ ≡ b → b₂ ≡ put_le p 8 v b
write-next p v e f = e ∙ ap (put_le p 8 v) f

-- where a matrix lies, written over a block
abbrev pub layout_put : ℕ → Layout → List ℕ → List ℕ
layout_put at l b = put_le (at + 8) 8 l.stride (put_le at 8 l.address b)

module _ (b : List ℕ) where
  pub layout_is : (at : ℕ) {x y : ℕ} → x ≡ get_le b at 8 → y ≡ get_le b (at + 8) 8 → record { address = x; stride = y } ≡ layout_of b at
  layout_is at e f = ap₂ (λ (x y : ℕ). record { address = x; stride = y }) e f

  pub spot_is : {k r c t : ℕ} → k ≡ get_le b 104 8 → r ≡ get_le b 112 8 → c ≡ get_le b 120 8 → t ≡ get_le b 128 8 → spot k r c t ≡ spot_in b
  spot_is e f g h = cc

  pub plan-is : {x y z : Layout} {kind sew factor m k n : ℕ} → x ≡ layout_of b 40 → y ≡ layout_of b 56 → z ≡ layout_of b 72
      → kind ≡ get_le b 136 8 → sew ≡ get_le b 0 8 → factor ≡ get_le b 8 8 → m ≡ get_le b 16 8 → k ≡ get_le b 24 8 → n ≡ get_le b 32 8
      → record { kind = kind; sew = sew; factor = factor; m = m; k = k; n = n; a = x; b = y; c = z } ≡ plan_of b
  unfolding plan_of
  plan-is ex ey ez e₀ e₁ e₂ e₃ e₄ e₅ = cc

  pub run_is : {P : Plan} {s : Spot} {p : Place} {rlen mlen rule elen : ℕ} → P ≡ plan_of b → s ≡ spot_in b → p ≡ place_of s → rlen ≡ get_le b 88 8 → mlen ≡ get_le b 96 8 → rule ≡ get_le b 144 8 → elen ≡ get_le b 152 8
      → record { plan = P; rlen = rlen; mlen = mlen; rule = rule; elen = elen; place = p } ≡ run_of b
  unfolding run_of
  run_is eP es ep e₀ e₁ e₂ e₃ = cc

  -- the parts of a run, written one after the other
  pub put-run-is : (R : Run) (s : Spot) {b₁ b₂ b₃ b₄ b₅ b₆ b₇ : List ℕ} → s ≡ spot_of R.place → b₁ ≡ put_numbers (plan_numbers R.plan) b
      → b₂ ≡ put_le 88 8 R.rlen b₁ → b₃ ≡ put_le 96 8 R.mlen b₂ → b₄ ≡ put_le 128 8 s.term (put_le 120 8 s.column (put_le 112 8 s.row (put_le 104 8 s.kind b₃)))
      → b₅ ≡ put_le 136 8 R.plan.kind b₄ → b₆ ≡ put_le 144 8 R.rule b₅ → b₇ ≡ put_le 152 8 R.elen b₆ → b₇ ≡ put_run R b
  unfolding put_run put_numbers put_row
  put-run-is R s es e₁ e₂ e₃ e₄ e₅ e₆ e₇ =
      let spotted : List ℕ → Spot → List ℕ = λ z t. put_le 128 8 t.term (put_le 120 8 t.column (put_le 112 8 t.row (put_le 104 8 t.kind z))) in
      write-next 152 R.elen e₇ (write-next 144 R.rule e₆ (write-next 136 R.plan.kind e₅ (e₄ ∙ ap₂ spotted (write-next 96 R.mlen e₃ (write-next 88 R.rlen e₂ e₁)) es)))

-- ---- a run's block

same-spots : (s t : Spot) → every (same_spot s t) ≡ true → s ≡ t
same-spots s t h =
    let e = every-each (same_spot s t) h in
    ap₂ (λ (k r : ℕ). spot k r s.column s.term) (eqb-true s.kind t.kind e.0) (eqb-true s.row t.row e.1.0)
    ∙ ap₂ (λ (c l : ℕ). spot t.kind t.row c l) (eqb-true s.column t.column e.1.1.0) (eqb-true s.term t.term e.1.1.1.0)

itself : (s : Spot) → Each (same_spot s s)
itself s = (eq-eqb s.kind s.kind refl, (eq-eqb s.row s.row refl, (eq-eqb s.column s.column refl, (eq-eqb s.term s.term refl, tt))))

pub fit_length : (block : List ℕ) → run_fit block ≡ true → length block ≡ run_bytes
unfolding run_fit
fit_length block h =
    eqb-true (length block) run_bytes (and_left (eqb (length block) run_bytes) (every (same_spot (spot_in block) (spot_of (place_of (spot_in block))))) h)

pub length-put_run : (R : Run) (b : List ℕ) → length (put_run R b) ≡ length b
unfolding put_run put_numbers
length-put_run R b = length-put_row 0 20 8 _ b

numbers-of-run : (b : List ℕ) → run_numbers (plan_of b) (get_le b 88 8) (get_le b 96 8) (get_le b 152 8) (get_le b 144 8) (spot_in b) ≡ first_values 20 b
unfolding plan_of
numbers-of-run b = refl

-- a block written over with its own run stays
pub put_run-same : (b : List ℕ) → Bytes b → run_fit b ≡ true → put_run (run_of b) b ≡ b
unfolding put_run put_numbers run_of run_fit
put_run-same b small h =
    let e : spot_of (place_of (spot_in b)) ≡ spot_in b =
    sym (same-spots (spot_in b) (spot_of (place_of (spot_in b))) (and_right (eqb (length b) run_bytes) (every (same_spot (spot_in b) (spot_of (place_of (spot_in b))))) h)) in
    ap (λ (s : Spot). put_row 0 20 8 (λ j. get_or (run_numbers (plan_of b) (get_le b 88 8) (get_le b 96 8) (get_le b 152 8) (get_le b 144 8) s) j 0) b) e
    ∙ ap (λ (vs : List ℕ). put_row 0 20 8 (λ j. get_or vs j 0) b) (numbers-of-run b) ∙ put_same 20 b small

-- a run that keeps all but its place: the place is enough
pub put-place-is : (R : Run) (s : Spot) (xs ys : List ℕ) → Bytes xs → Bytes ys → RunKept R (run_of xs) → s ≡ spot_of R.place
    → ys ≡ put_le 128 8 s.term (put_le 120 8 s.column (put_le 112 8 s.row (put_le 104 8 s.kind xs))) → ys ≡ put_run R xs
unfolding put_run put_numbers put_row run_of plan_of
put-place-is R s xs ys small small' k es e =
    put-middle (λ j. get_or vs j 0) xs ys 13 4 3 small small' e before behind
    ∙ ap (λ (vs : List ℕ). put_row 0 20 8 (λ j. get_or vs j 0) xs) (sym numbers)
  where
    vs : List ℕ
    vs = run_numbers (plan_of xs) (get_le xs 88 8) (get_le xs 96 8) (get_le xs 152 8) (get_le xs 144 8) s

    numbers : run_numbers R.plan R.rlen R.mlen R.elen R.rule (spot_of R.place) ≡ vs
    numbers = rw (k.plan, k.rlen, k.mlen, k.rule, k.elen, sym es)

    before : (j : ℕ) → j < 13 → get_or vs j 0 ≡ get_le xs (j * 8) 8
    before j l = sym (get_or-take 13 vs j 0 l) ∙ get_or-take 13 (first_values 20 xs) j 0 l ∙ value-at 20 xs j (omega arith)

    behind : (j : ℕ) → j < 3 → get_or vs (17 + j) 0 ≡ get_le xs ((17 + j) * 8) 8
    behind j l = sym (get_or-drop 17 vs j 0) ∙ get_or-drop 17 (first_values 20 xs) j 0 ∙ value-at 20 xs (17 + j) (omega arith)

place-back : (p : Place) → place_of (spot_of p) ≡ p
unfolding place_of
place-back AtType = refl
place-back (AtM i) = refl
place-back (AtN i j) = refl
place-back (AtClear i j) = refl
place-back (AtK i j s) = refl
place-back (AtA i j s) = refl
place-back (AtB i j s) = refl
place-back (AtMultiply i j s) = refl
place-back (AtStore i j) = refl
place-back AtEnd = refl

abbrev pub numbers_of_run : Run → List ℕ
numbers_of_run R = run_numbers R.plan R.rlen R.mlen R.elen R.rule (spot_of R.place)

-- numbers of 64 bits
abbrev pub RunWords : Run → Type 0
RunWords R = (j : ℕ) → get_or (numbers_of_run R) j 0 < 2 ^ 64

module _ (R : Run) (b : List ℕ) (w : RunWords R) (h : length b ≡ run_bytes) where
  number-at : (j : ℕ) → j < 20 → get_le (put_run R b) (0 + j * 8) 8 ≡ get_or (numbers_of_run R) j 0
  unfolding put_run put_numbers
  number-at j l = le-put_row 0 20 8 (λ j. get_or (numbers_of_run R) j 0) b (omega arith) j l ∙ mod-eq_of_lt (w j)

  spot_back : spot_in (put_run R b) ≡ spot_of R.place
  spot_back = rw (number-at 13 (omega arith), number-at 14 (omega arith), number-at 15 (omega arith), number-at 16 (omega arith))

  -- the run that was written is read back
  pub run_of-put_run : run_of (put_run R b) ≡ R
  unfolding run_of plan_of
  run_of-put_run =
      rw (
        spot_back,
        place-back R.place,
        number-at 0 (omega arith),
        number-at 1 (omega arith),
        number-at 2 (omega arith),
        number-at 3 (omega arith),
        number-at 4 (omega arith),
        number-at 5 (omega arith),
        number-at 6 (omega arith),
        number-at 7 (omega arith),
        number-at 8 (omega arith),
        number-at 9 (omega arith),
        number-at 10 (omega arith),
        number-at 11 (omega arith),
        number-at 12 (omega arith),
        number-at 17 (omega arith),
        number-at 18 (omega arith),
        number-at 19 (omega arith),
      )

  -- and its block is one that a run can lie in
  pub run_fit-put_run : run_fit (put_run R b) ≡ true
  unfolding run_fit
  run_fit-put_run =
      each-every (eqb (length (put_run R b)) run_bytes ∷ same_spot (spot_in (put_run R b)) (spot_of (place_of (spot_in (put_run R b))))) (
        eq-eqb (length (put_run R b)) run_bytes (length-put_run R b ∙ h),
        subst (λ (s : Spot). Each (same_spot s (spot_of (place_of s)))) (sym spot_back)
            (subst (λ (p : Place). Each (same_spot (spot_of R.place) (spot_of p))) (sym (place-back R.place)) (itself (spot_of R.place))),
      )
