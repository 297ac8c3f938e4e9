-- Numbers of 64 bits stay such: those of a machine over steps, and those of a run over turns. So what is written to a block is read back.
use Rattle.numbers.proofs.Kit.{◌≡◌, refl, sym, ◌∙◌, subst, Bool, true, false, cond, List, [], ◌∷◌, ◌++◌, map, Option, none, some, ℕ, zero, suc, ◌+◌, ◌/◌}
use Rattle.numbers.proofs.Kit.{◌^◌, ◌≤◌, ◌<◌, div-le_self, arith, ltb, eqb, length, get_or, eqb-true, ltb-true, leb-true, Err}
use Rattle.numbers.specs.Tile.{get_le}
use Rattle.numbers.proofs.TileLaws.{le-lt}
use Rattle.machine.specs.declared.Machine.{Machine}
use Rattle.machine.specs.declared.Refusal.TheVariants.{BadArguments}
use Rattle.machine.specs.Tests.{every, is_in}
use Rattle.machine.specs.Answers.{reply, done, verdict}
use Rattle.machine.specs.Geometry.{elens, Bench, Parameters, parameters}
use Rattle.machine.specs.Setting.{chosen, new_type}
use Rattle.machine.specs.Faults.{sound_bench}
use Rattle.machine.specs.Listing.{decode}
use Rattle.machine.specs.Vectors.{Vectors, vectors_fit}
use Rattle.machine.specs.Step
use Rattle.machine.specs.Step.{Outcome, step_by, step_checks, beside, outcome_in, vectors_in, step_with}
use Rattle.machine.proofs.TestLaws.{and_right, every-each, each, each_in}
use Rattle.machine.proofs.StepLaws.{step-refused, permitted-bounds, permitted-elen}
use Rattle.machine.proofs.SizeLaws.{chosen-grants}
use Rattle.machine.proofs.CodeLaws.{legal_types, types_are}
use Rattle.machine.proofs.NoFault.{Sound, sound-is, bench-sound, step-sound, step-keeps-sound}
use Rattle.run.specs.declared.Plan.{Plan}
use Rattle.run.specs.declared.Place.{Place}
use Rattle.run.specs.declared.Place.TheVariants.{AtType, AtM, AtN, AtClear, AtK, AtA, AtB, AtMultiply, AtStore, AtEnd}
use Rattle.run.specs.declared.Run.{Run}
use Rattle.run.specs.declared.Handed.{Handed}
use Rattle.run.specs.Words.{Op}
use Rattle.run.specs.Places.{word_at}
use Rattle.run.specs.Encoding.{own, handed_for}
use Rattle.run.specs.Start.{fresh_run}
use Rattle.run.specs.Turn.{run_shape, sound_run, word_handed_out, moved, Running, turn, after_turns}
use Rattle.run.proofs.HandedLaws.{turn_with}
use Rattle.run_plan.specs.Parts.{in_matrices}
use Rattle.run_plan.proofs.PlanLaws.{at-m, at_store, at-multiply}
use Rattle.run_place.proofs.RunPlaceLaws.{run-numbered, run-placed, run-sizes, moved-sound}
use Rattle.c_run_blocks.specs.declared.Spot.{Spot}
use Rattle.c_blocks.specs.Blocks.{Bytes, machine_of}
use Rattle.c_run_blocks.specs.RunBlocks.{run_bytes, plan_of, plan_numbers, spot_of, spot_in, spot_numbers, place_of, same_spot, run_of, run_fit}
use Rattle.c_blocks.proofs.BlockLaws.{Words}
use Rattle.c_run_blocks.proofs.RunBlockLaws.{RunWords}
use Rattle.theorem_calls.specs.Composed.{PlanWords}

-- ---- a machine

-- read of a block of bytes
pub machine-words : (b : List ℕ) → Bytes b → Words (machine_of b)
unfolding machine_of
machine-words b small = record {
  rlen = le-lt b small 0 8;
  mlen = le-lt b small 8 8;
  mtype = le-lt b small 16 8;
  tile-m = le-lt b small 24 8;
  tile-k = le-lt b small 32 8;
  tile-n = le-lt b small 40 8;
  rule = le-lt b small 64 8;
  elen = le-lt b small 72 8;
}

type-small : (elen v : ℕ) → is_in elen elens ≡ true → new_type elen v ≡ v → v < 2 ^ 64
type-small elen v known e = go (is_in v (legal_types elen)) refl
  where
    low : each (legal_types elen) (λ v. ltb v 10) ≡ true
    low = each_in elen elens (λ e. each (legal_types e) (λ v. ltb v 10)) refl known

    go : (t : Bool) → is_in v (legal_types elen) ≡ t → v < 2 ^ 64
    go true d = let l : v < 10 = ltb-true v 10 (each_in v (legal_types elen) (λ v. ltb v 10) low d) in omega arith
    go false d = let z : v ≡ 2 ^ 63 = sym e ∙ types_are elen known v ∙ rw d in omega (arith, z)

-- of a state that is not at fault
pub sound-words : (m : Machine) (registers marks : List ℕ) → Sound m registers marks → Words m
sound-words m registers marks s =
    let l = permitted-bounds m.rlen m.mlen m.elen s.lengths in
    let p = permitted-elen m.rlen m.mlen m.elen s.lengths in
    let rows : m.mlen / m.rlen ≤ m.mlen = div-le_self m.mlen m.rlen in
    record {
      rlen = omega arith;
      mlen = omega arith;
      mtype = type-small m.elen m.mtype p.0 s.state.type-arises;
      tile-m = omega (arith, s.state.m-fits);
      tile-k = omega (arith, s.state.k-fits);
      tile-n = omega (arith, s.state.n-fits);
      rule = omega (arith, leb-true m.rule 1 s.rule-is);
      elen = omega (arith, p.1);
    }

-- after a step: of a state at fault nothing changes
pub step_words : (word : ℕ) (xs : List ℕ) (B : Bench) → Words B.machine → Words (step_by chosen word xs B).bench.machine
step_words word xs B w = go (sound_bench B) refl
  where
    go : (t : Bool) → sound_bench B ≡ t → Words (step_by chosen word xs B).bench.machine
    go true e =
        let C : Bench = (step_by chosen word xs B).bench in
        sound-words C.machine C.registers C.marks (sound-is C.machine C.registers C.marks (bench-sound C (step-sound chosen chosen-grants word xs B e)))
    go false e =
        let r : verdict (step_checks (parameters chosen B.machine) (decode word) xs B) ≡ (Err BadArguments) = rw e in
        subst (λ (o : Outcome). Words o.bench.machine) (sym (step-refused chosen word xs B (Err BadArguments) refl r)) w

pub step-with-words : (word : ℕ) (xs : List ℕ) (W : Vectors) (B : Bench) → Words B.machine → Words (step_with chosen word xs W B).bench.machine
unfolding step_with
step-with-words word xs W B w = go (sound_bench B) refl
  where
    M : Parameters
    M = parameters chosen B.machine

    C : Bench
    C = (step_with chosen word xs W B).bench

    stays : (t : Bool) → Words (cond t (beside (vectors_in W M (decode word) xs B) (record { answer = reply (Err BadArguments); bench = B; scalars = xs })) (beside W.file (Step.refused_in W M (decode word) xs B (Err BadArguments)))).bench.machine
    stays true = w
    stays false = w

    go : (t : Bool) → sound_bench B ≡ t → Words (step_with chosen word xs W B).bench.machine
    go true e = sound-words C.machine C.registers C.marks (sound-is C.machine C.registers C.marks (bench-sound C (step-keeps-sound chosen chosen-grants word xs W B e)))
    go false e =
        let r : outcome_in W M (decode word) xs B ≡ record { answer = reply (Err BadArguments); bench = B; scalars = xs } = rw e in
        subst (λ (o : Outcome). Words (cond (vectors_fit W) (beside (vectors_in W M (decode word) xs B) o) (beside W.file (Step.refused_in W M (decode word) xs B (Err BadArguments)))).bench.machine) (sym r) (stays (vectors_fit W))

-- ---- a run

-- two lists that begin alike
begin-alike : (c : ℕ) (xs ys zs : List ℕ) → ((j : ℕ) → get_or (xs ++ ys) j 0 < c) → ((j : ℕ) → get_or zs j 0 < c) → (j : ℕ) → get_or (xs ++ zs) j 0 < c
begin-alike c [] ys zs h k j = k j
begin-alike c (x ∷ xs) ys zs h k zero = h zero
begin-alike c (x ∷ xs) ys zs h k (suc j) = begin-alike c xs ys zs (λ j. h (suc j)) k j

four : (s : Spot) → s.kind < 2 ^ 64 → s.row < 2 ^ 64 → s.column < 2 ^ 64 → s.term < 2 ^ 64 → (j : ℕ) → get_or (spot_numbers s) j 0 < 2 ^ 64
four s k r c t zero = k
four s k r c t (suc zero) = r
four s k r c t (suc (suc zero)) = c
four s k r c t (suc (suc (suc zero))) = t
four s k r c t (suc (suc (suc (suc j)))) = omega arith

-- a place's numbers, and the plan's kind, the rule and ELEN after them
with-kind : (s : Spot) (k r e : ℕ) → ((j : ℕ) → get_or (spot_numbers s) j 0 < 2 ^ 64) → k < 2 ^ 64 → r < 2 ^ 64 → e < 2 ^ 64 → (j : ℕ) → get_or (spot_numbers s ++ (k ∷ r ∷ e ∷ [])) j 0 < 2 ^ 64
with-kind s k r e h lk lr le = begin-alike (2 ^ 64) (spot_numbers s) [] (k ∷ r ∷ e ∷ []) h last
  where
    last : (j : ℕ) → get_or (k ∷ r ∷ e ∷ []) j 0 < 2 ^ 64
    last zero = lk
    last (suc zero) = lr
    last (suc (suc zero)) = le
    last (suc (suc (suc j))) = omega arith

-- the plan's numbers, the lengths, ELEN, the rule and the place
parts : (R : Run) → PlanWords R.plan → R.rlen < 2 ^ 64 → R.mlen < 2 ^ 64 → R.elen < 2 ^ 64 → R.rule < 2 ^ 64 → ((j : ℕ) → get_or (spot_numbers (spot_of R.place)) j 0 < 2 ^ 64) → RunWords R
parts R p r m e u s = begin-alike (2 ^ 64) (plan_numbers R.plan) (R.plan.kind ∷ []) (R.rlen ∷ R.mlen ∷ (spot_numbers (spot_of R.place) ++ (R.plan.kind ∷ R.rule ∷ R.elen ∷ []))) p tail
  where
    tail : (j : ℕ) → get_or (R.rlen ∷ R.mlen ∷ (spot_numbers (spot_of R.place) ++ (R.plan.kind ∷ R.rule ∷ R.elen ∷ []))) j 0 < 2 ^ 64
    tail zero = r
    tail (suc zero) = m
    tail (suc (suc j)) = with-kind (spot_of R.place) R.plan.kind R.rule R.elen s (p 11) u e j

-- eight bytes each of a block of bytes
values-small : (b : List ℕ) → Bytes b → (ps : List ℕ) (j : ℕ) → get_or (map (λ p. get_le b p 8) ps) j 0 < 2 ^ 64
values-small b small [] j = omega arith
values-small b small (p ∷ ps) zero = le-lt b small p 8
values-small b small (p ∷ ps) (suc j) = values-small b small ps j

plan-words : (b : List ℕ) → Bytes b → PlanWords (plan_of b)
unfolding plan_of
plan-words b small = values-small b small (0 ∷ 8 ∷ 16 ∷ 24 ∷ 32 ∷ 40 ∷ 48 ∷ 56 ∷ 64 ∷ 72 ∷ 80 ∷ 136 ∷ [])

same-small : (x y : ℕ) → eqb x y ≡ true → x < 2 ^ 64 → y < 2 ^ 64
same-small x y e l = subst (λ (z : ℕ). z < 2 ^ 64) (eqb-true x y e) l

-- read of a block of bytes that a run can lie in
pub run-words : (b : List ℕ) → Bytes b → run_fit b ≡ true → RunWords (run_of b)
unfolding run_of run_fit
run-words b small h =
    let s : Spot = spot_of (place_of (spot_in b)) in
    let e = every-each (same_spot (spot_in b) s) (and_right (eqb (length b) run_bytes) (every (same_spot (spot_in b) s)) h) in
    parts (run_of b) (plan-words b small) (le-lt b small 88 8) (le-lt b small 96 8) (le-lt b small 152 8) (le-lt b small 144 8)
    (four s (same-small (spot_in b).kind s.kind e.0 (le-lt b small 104 8)) (same-small (spot_in b).row s.row e.1.0 (le-lt b small 112 8))
    (same-small (spot_in b).column s.column e.1.1.0 (le-lt b small 120 8)) (same-small (spot_in b).term s.term e.1.1.1.0 (le-lt b small 128 8)))

-- at a place in matrices whose sizes are at most 1,024
place-words : (P : Plan) (p : Place) → (P.m ≤ 1024) × (P.k ≤ 1024) × (P.n ≤ 1024) → in_matrices P p ≡ true
    → (j : ℕ) → get_or (spot_numbers (spot_of p)) j 0 < 2 ^ 64
place-words P AtType l h = four (spot_of AtType) (omega arith) (omega arith) (omega arith) (omega arith)
place-words P (AtM i) l h = let b = at-m P i h in four (spot_of (AtM i)) (omega arith) (omega arith) (omega arith) (omega arith)
place-words P (AtN i j) l h = let b = at_store P i j h in four (spot_of (AtN i j)) (omega arith) (omega arith) (omega arith) (omega arith)
place-words P (AtClear i j) l h = let b = at_store P i j h in four (spot_of (AtClear i j)) (omega arith) (omega arith) (omega arith) (omega arith)
place-words P (AtK i j s) l h = let b = at-multiply P i j s h in four (spot_of (AtK i j s)) (omega arith) (omega arith) (omega arith) (omega arith)
place-words P (AtA i j s) l h = let b = at-multiply P i j s h in four (spot_of (AtA i j s)) (omega arith) (omega arith) (omega arith) (omega arith)
place-words P (AtB i j s) l h = let b = at-multiply P i j s h in four (spot_of (AtB i j s)) (omega arith) (omega arith) (omega arith) (omega arith)
place-words P (AtMultiply i j s) l h = let b = at-multiply P i j s h in four (spot_of (AtMultiply i j s)) (omega arith) (omega arith) (omega arith) (omega arith)
place-words P (AtStore i j) l h = let b = at_store P i j h in four (spot_of (AtStore i j)) (omega arith) (omega arith) (omega arith) (omega arith)
place-words P AtEnd l h = four (spot_of AtEnd) (omega arith) (omega arith) (omega arith) (omega arith)

-- as a start makes it
pub fresh-words : (m : Machine) (P : Plan) → Words m → PlanWords P → RunWords (fresh_run m P)
fresh-words m P w p = parts (fresh_run m P) p w.rlen w.mlen w.elen w.rule (four (spot_of AtType) (omega arith) (omega arith) (omega arith) (omega arith))

-- once a step is handed out: the plan, the lengths, ELEN and the rule stay, and the next place lies in the matrices
moved-words : (R : Run) → RunWords R → sound_run chosen R ≡ true → RunWords (moved chosen R)
moved-words R w ok =
    begin-alike (2 ^ 64) (plan_numbers R.plan ++ (R.rlen ∷ R.mlen ∷ [])) (spot_numbers (spot_of R.place) ++ (R.plan.kind ∷ R.rule ∷ R.elen ∷ []))
    (spot_numbers (spot_of (moved chosen R).place) ++ (R.plan.kind ∷ R.rule ∷ R.elen ∷ []))
    w (with-kind (spot_of (moved chosen R).place) R.plan.kind R.rule R.elen
    (place-words R.plan (moved chosen R).place (run-sizes R (run-numbered R ok)) (run-placed (moved chosen R) (moved-sound R ok))) (w 17) (w 18) (w 19))

-- ---- turns

hands-sound : (R : Run) (o : Op) → word_handed_out chosen R ≡ some o → sound_run chosen R ≡ true
hands-sound R o = go (sound_run chosen R)
  where
    none-some : none ≡ some o → ⊥
    none-some e = let z : ◌≡◌ {A = ℕ} 0 1 = cc in omega arith

    go : (t : Bool) → cond t (word_at (run_shape chosen R) R.place) none ≡ some o → t ≡ true
    go true e = refl
    go false e = absurd (none-some e)

pub record Wordy (r : Running) : Type 0 where
  pub run : RunWords r.run
  pub machine : Words r.bench.machine

pub turn-machine : (r : Running) → Words r.bench.machine → Words (turn chosen r).after.bench.machine
turn-machine r w = go (word_handed_out chosen r.run)
  where
    go : (o : Option Op) → Words (turn_with chosen r o).after.bench.machine
    go none = w
    go (some o) = let h : Handed = handed_for r.run.plan o in step_words h.word (own h) r.bench w

pub turns-machine : (r : Running) → Words r.bench.machine → (t : ℕ) → Words (after_turns chosen r t).bench.machine
turns-machine r w zero = w
turns-machine r w (suc t) = turn-machine (after_turns chosen r t) (turns-machine r w t)

turn-run : (r : Running) → RunWords r.run → RunWords (turn chosen r).after.run
turn-run r w = go (word_handed_out chosen r.run) refl
  where
    either : (R : Run) → RunWords R → (t : Bool) → RunWords (cond t R r.run)
    either R v true = v
    either R v false = w

    go : (o : Option Op) → word_handed_out chosen r.run ≡ o → RunWords (turn_with chosen r o).after.run
    go none e = w
    go (some o) e =
        let h : Handed = handed_for r.run.plan o in
        either (moved chosen r.run) (moved-words r.run w (hands-sound r.run o e)) (done (step_by chosen h.word (own h) r.bench).answer)

pub turns-wordy : (r : Running) → Wordy r → (t : ℕ) → Wordy (after_turns chosen r t)
turns-wordy r w zero = w
turns-wordy r w (suc t) =
    let v : Wordy (after_turns chosen r t) = turns-wordy r w t in
    record { run = turn-run (after_turns chosen r t) v.run; machine = turn-machine (after_turns chosen r t) v.machine }
