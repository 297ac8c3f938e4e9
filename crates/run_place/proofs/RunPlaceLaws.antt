-- For code: what the numbers and the place of a sound run say, and the next place.
use Rattle.numbers.proofs.Kit.{◌≡◌, refl, sym, ◌∙◌, Bool, true, false, [], ◌∷◌, ℕ, ◌/◌, ◌≤◌, ◌<◌, le-div_iff_mul-le, div-le_self, arith, leb, ltb, eqb-true, ltb-true}
use Rattle.numbers.proofs.Kit.{leb-true}
use Rattle.numbers.specs.Bounds.{most_elen, most_mlen}
use Rattle.machine.specs.Tests.{every}
use Rattle.machine.proofs.TestLaws.{Each, every-each, each-every}
use Rattle.machine.specs.Geometry.{permitted}
use Rattle.machine.proofs.StepLaws.{permitted-lengths, permitted-bounds, permitted-elen}
use Rattle.machine.proofs.SizeLaws.{chosen-grants}
use Rattle.machine.specs.Starting.{is_rule}
use Rattle.machine.specs.Setting.{sew, chosen}
use Rattle.run.specs.declared.Run.{Run}
use Rattle.run.specs.declared.Place.{Place}
use Rattle.run.specs.declared.Place.TheVariants.{AtType, AtM, AtN, AtClear, AtK, AtA, AtB, AtMultiply, AtStore, AtEnd}
use Rattle.run.specs.Words.{Shape}
use Rattle.run.specs.Places.{next}
use Rattle.run.specs.Plan.{msew, type_of}
use Rattle.run.specs.Start.{format, kind_fit, planned}
use Rattle.run.specs.Turn.{starts_m, starts_n, starts_k, begins, sound_run, run_shape, moved}
use Rattle.run_plan.specs.Parts.{in_matrices}
use Rattle.run_plan.proofs.PlanLaws.{widest-plan}
use Rattle.run_place.specs.Parts.{numbered}
use Rattle.run.proofs.PlaceLaws.{Sound}
use Rattle.run.proofs.BeginLaws.{start-below, begins-next}
use Rattle.run.proofs.WordLaws.{formats}

-- ---- a sound run

module _ (R : Run) (ok : numbered R ≡ true) where
  pub run-lengths : permitted R.rlen R.mlen R.elen ≡ true
  unfolding numbered
  run-lengths = (every-each (permitted R.rlen R.mlen R.elen ∷ is_rule R.rule ∷ planned R.elen R.plan ∷ []) ok).0

  -- on the machine that it was started on, and so on those of the largest ELEN
  planned-there : planned R.elen R.plan ≡ true
  unfolding numbered
  planned-there = (every-each (permitted R.rlen R.mlen R.elen ∷ is_rule R.rule ∷ planned R.elen R.plan ∷ []) ok).1.1.0

  pub run-planned : planned most_elen R.plan ≡ true
  run-planned = widest-plan R.elen R.plan (permitted-elen R.rlen R.mlen R.elen run-lengths).0 planned-there

  pub run-rlen : 0 < R.rlen
  run-rlen = let b = permitted-bounds R.rlen R.mlen R.elen run-lengths in omega arith

  numbers : Each (format most_elen R.plan.sew R.plan.factor ∷ leb R.plan.m 1024 ∷ leb R.plan.k 1024 ∷ leb R.plan.n 1024 ∷ kind_fit R.plan ∷ [])
  unfolding planned
  numbers = every-each (format most_elen R.plan.sew R.plan.factor ∷ leb R.plan.m 1024 ∷ leb R.plan.k 1024 ∷ leb R.plan.n 1024 ∷ kind_fit R.plan ∷ []) run-planned

  pub run-format : format most_elen R.plan.sew R.plan.factor ≡ true
  run-format = numbers.0

  pub run-sizes : (R.plan.m ≤ 1024) × (R.plan.k ≤ 1024) × (R.plan.n ≤ 1024)
  run-sizes = (leb-true R.plan.m 1024 numbers.1.0, leb-true R.plan.k 1024 numbers.1.1.0, leb-true R.plan.n 1024 numbers.1.1.1.0)

  pub run-sew : R.plan.sew / 8 ≡ sew (type_of R.plan)
  unfolding type_of msew
  run-sew = sym (eqb-true (sew (type_of R.plan)) (R.plan.sew / 8) (formats most_elen R.plan.sew R.plan.factor refl run-format).0.1.1.0)

  pub run-bytes : 0 < R.plan.sew / 8
  run-bytes = ltb-true 0 (R.plan.sew / 8) (formats most_elen R.plan.sew R.plan.factor refl run-format).0.1.1.1.1.1.1.1.1.0

  -- the most rows, columns and terms of a block are at least 1
  pub run-most : Sound (run_shape chosen R)
  run-most =
      let n = permitted-lengths R.rlen R.mlen R.elen run-lengths in
      let b : R.plan.sew / 8 ≤ 8 = leb-true (R.plan.sew / 8) 8 (formats most_elen R.plan.sew R.plan.factor refl run-format).0.1.1.1.1.1.1.0 in
      let columns : 0 < (run_shape chosen R).tn =
      (le-div_iff_mul-le {k = sew (type_of R.plan)} {x = 1} {y = R.rlen / 8} (omega (arith, run-sew, run-bytes))).1 (omega (arith, run-sew, n.1)) in
      record { grants = chosen-grants R.rule; 0<tm = n.0; 0<tk = omega (arith, n.0, columns); 0<tn = columns }

-- the most rows, columns and terms of a block are few
pub run-blocks : (R : Run) → numbered R ≡ true → ((run_shape chosen R).tm ≤ most_mlen) × (((run_shape chosen R).tn ≤ most_mlen) × ((run_shape chosen R).tk ≤ most_mlen))
run-blocks R ok =
    let b = permitted-bounds R.rlen R.mlen R.elen (run-lengths R ok) in
    let rows : R.mlen / R.rlen ≤ R.mlen = div-le_self R.mlen R.rlen in
    let columns : R.rlen / 8 / sew (type_of R.plan) ≤ R.rlen / 8 = div-le_self (R.rlen / 8) (sew (type_of R.plan)) in
    omega arith

-- a place at which blocks start lies in the matrices
module _ (R : Run) (ok : numbered R ≡ true) where
  abbrev S : Shape
  S = run_shape chosen R

  in-m : (i : ℕ) → starts_m S i ≡ true → ltb i R.plan.m ≡ true
  in-m = start-below (chosen R.rule) (chosen-grants R.rule) S.tm (run-most R ok).0<tm S.m

  in-n : (j : ℕ) → starts_n S j ≡ true → ltb j R.plan.n ≡ true
  in-n = start-below (chosen R.rule) (chosen-grants R.rule) S.tn (run-most R ok).0<tn S.n

  in-k : (s : ℕ) → starts_k S s ≡ true → ltb s R.plan.k ≡ true
  in-k = start-below (chosen R.rule) (chosen-grants R.rule) S.tk (run-most R ok).0<tk S.k

  in-mn : (i j : ℕ) → every (starts_m S i ∷ starts_n S j ∷ []) ≡ true → every (ltb i R.plan.m ∷ ltb j R.plan.n ∷ []) ≡ true
  in-mn i j h =
      let t = every-each (starts_m S i ∷ starts_n S j ∷ []) h in
      each-every (ltb i R.plan.m ∷ ltb j R.plan.n ∷ []) (in-m i t.0, (in-n j t.1.0, tt))

  in-mnk : (i j s : ℕ) → every (starts_m S i ∷ starts_n S j ∷ starts_k S s ∷ []) ≡ true → every (ltb i R.plan.m ∷ ltb j R.plan.n ∷ ltb s R.plan.k ∷ []) ≡ true
  in-mnk i j s h =
      let t = every-each (starts_m S i ∷ starts_n S j ∷ starts_k S s ∷ []) h in
      each-every (ltb i R.plan.m ∷ ltb j R.plan.n ∷ ltb s R.plan.k ∷ []) (in-m i t.0, (in-n j t.1.0, (in-k s t.1.1.0, tt)))

  pub place_in : (p : Place) → begins S p ≡ true → in_matrices R.plan p ≡ true
  place_in AtType h = refl
  place_in (AtM i) h = in-m i h
  place_in (AtN i j) h = in-mn i j h
  place_in (AtClear i j) h = in-mn i j h
  place_in (AtK i j s) h = in-mnk i j s h
  place_in (AtA i j s) h = in-mnk i j s h
  place_in (AtB i j s) h = in-mnk i j s h
  place_in (AtMultiply i j s) h = in-mnk i j s h
  place_in (AtStore i j) h = in-mn i j h
  place_in AtEnd h = refl

-- .. so none starts at a place outside them
pub no_block : (R : Run) → numbered R ≡ true → in_matrices R.plan R.place ≡ false → begins (run_shape chosen R) R.place ≡ false
no_block R ok out = go (begins (run_shape chosen R) R.place) refl
  where
    go : (t : Bool) → begins (run_shape chosen R) R.place ≡ t → t ≡ false
    go true h = sym (place_in R ok R.place h) ∙ out
    go false h = refl

module _ (R : Run) (ok : sound_run chosen R ≡ true) where
  tests : Each (permitted R.rlen R.mlen R.elen ∷ is_rule R.rule ∷ planned R.elen R.plan ∷ begins (run_shape chosen R) R.place ∷ [])
  unfolding sound_run
  tests = every-each (permitted R.rlen R.mlen R.elen ∷ is_rule R.rule ∷ planned R.elen R.plan ∷ begins (run_shape chosen R) R.place ∷ []) ok

  pub run-numbered : numbered R ≡ true
  unfolding numbered
  run-numbered = each-every (permitted R.rlen R.mlen R.elen ∷ is_rule R.rule ∷ planned R.elen R.plan ∷ []) (tests.0, (tests.1.0, (tests.1.1.0, tt)))

  pub run-placed : in_matrices R.plan R.place ≡ true
  run-placed = place_in R run-numbered R.place tests.1.1.1.0

-- ---- the next place

-- a run that a start can have made stays one
pub moved-sound : (R : Run) → sound_run chosen R ≡ true → sound_run chosen (moved chosen R) ≡ true
unfolding sound_run
moved-sound R ok =
    let t = every-each (permitted R.rlen R.mlen R.elen ∷ is_rule R.rule ∷ planned R.elen R.plan ∷ begins (run_shape chosen R) R.place ∷ []) ok in
    each-every (permitted R.rlen R.mlen R.elen ∷ is_rule R.rule ∷ planned R.elen R.plan ∷ begins (run_shape chosen R) (next (run_shape chosen R) R.place) ∷ [])
    (t.0, (t.1.0, (t.1.1.0, (begins-next (run_shape chosen R) (run-most R (run-numbered R ok)) R.place t.1.1.1.0, tt))))
