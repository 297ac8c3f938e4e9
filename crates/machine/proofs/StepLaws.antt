-- A step whose checks pass is carried out; geometry that every permitted machine has.
use Rattle.numbers.proofs.Kit.{◌≡◌, refl, sym, ap, ◌∙◌, subst, Bool, true, false, cond, not, ◌||◌, List, [], ◌∷◌, ℕ, zero, ◌*◌, ◌/◌, ◌≤◌, ◌<◌, leb, ltb}
use Rattle.numbers.proofs.Kit.{eqb, leb-true, ltb-true, eqb-true}
use Rattle.numbers.specs.Blocks.{Choice}
use Rattle.numbers.specs.Bounds.{most_rlen, most_mlen}
use Rattle.machine.specs.declared.Instruction.{Instruction}
use Rattle.machine.specs.Tests.{every, is_in}
use Rattle.machine.proofs.TestLaws.{every-each, each, each_in, or-not}
use Rattle.machine.specs.Answers.{reply, is_done, verdict, Answer, Done}
use Rattle.machine.proofs.CheckLaws.{Passed, no-refusal}
use Rattle.machine.specs.Geometry.{sealed, Parameters, parameters, State, machine_after, permitted, rlens, mlens, elens}
use Rattle.machine.specs.Listing.{decode}
use Rattle.machine.specs.Operation.{Operation}
use Rattle.machine.specs.Meanings.{state_after, memory_after, result_of, checks}
use Rattle.machine.specs.Geometry.{Bench}
use Rattle.machine.specs.Faults.{sound_bench, thirty_two}
use Rattle.machine.specs.Step
use Rattle.machine.specs.Step.{Outcome, outcome, step_by, step_checks, given, meant, destination}
use Rattle.machine.specs.Geometry.{with_scalar}

-- what a bench holds after an operation that is carried out
abbrev pub bench_after : Parameters → Operation → State → Bench → Bench
bench_after M o st B = record {
  machine = machine_after B.machine (state_after M o st B.memory);
  seals = B.seals;
  registers = (state_after M o st B.memory).regs;
  marks = (state_after M o st B.memory).marks;
  memory = memory_after M o st B.memory;
}

module _ (M : Parameters) (i : Instruction) (xs : List ℕ) (B : Bench) (o : Operation) where
  abbrev pub done_by : Operation → Outcome
  done_by o = record {
    answer = reply Done;
    bench = bench_after M o (given M i xs B) B;
    scalars = with_scalar xs (destination i) (result_of M o (given M i xs B));
  }

  outcome-done : sound_bench B ≡ true → thirty_two xs ≡ true → meant M i xs B ≡ o
      → Passed (checks M (sealed B.seals) o (given M i xs B) B.memory) → outcome M i xs B ≡ done_by o
  unfolding outcome
  outcome-done s t e p =
      let v : verdict (step_checks M i xs B) ≡ Done =
      no-refusal (step_checks M i xs B) (s, (t, subst (λ (o : Operation). Passed (checks M (sealed B.seals) o (given M i xs B) B.memory)) (sym e) p)) in
      ap (λ (a : Answer). cond (is_done a) (Step.carried_out M i xs B) (Step.refused M i xs B a)) v ∙ ap done_by e

-- a word that decodes to an instruction, which with its scalars is the operation o, and whose checks pass
pub step_is : (grant : Choice) (word : ℕ) (xs : List ℕ) (B : Bench) (i : Instruction) (o : Operation)
    → let M : Parameters = parameters grant B.machine in
    decode word ≡ i → sound_bench B ≡ true → thirty_two xs ≡ true → meant M i xs B ≡ o
    → Passed (checks M (sealed B.seals) o (given M i xs B) B.memory) → step_by grant word xs B ≡ done_by M i xs B o o
unfolding step_by
step_is grant word xs B i o d s t e p =
    let M : Parameters = parameters grant B.machine in
    ap (λ (i : Instruction). outcome M i xs B) d ∙ outcome-done M i xs B o s t e p

pub step-done : (grant : Choice) (word : ℕ) (xs : List ℕ) (B : Bench) (i : Instruction) (o : Operation)
    → let M : Parameters = parameters grant B.machine in
    decode word ≡ i → sound_bench B ≡ true → thirty_two xs ≡ true → meant M i xs B ≡ o
    → Passed (checks M (sealed B.seals) o (given M i xs B) B.memory)
    → ((step_by grant word xs B).answer ≡ reply Done) × ((step_by grant word xs B).bench ≡ bench_after M o (given M i xs B) B)
step-done grant word xs B i o d s t e p =
    let q = step_is grant word xs B i o d s t e p in
    (ap (λ (u : Outcome). u.answer) q, ap (λ (u : Outcome). u.bench) q)

-- a word that a check refuses
pub step-refused : (grant : Choice) (word : ℕ) (xs : List ℕ) (B : Bench) (a : Answer) → is_done a ≡ false
    → verdict (step_checks (parameters grant B.machine) (decode word) xs B) ≡ a → step_by grant word xs B ≡ record { answer = reply a; bench = B; scalars = xs }
unfolding step_by outcome
step-refused grant word xs B a d e =
    let M : Parameters = parameters grant B.machine in
    ap (λ (a : Answer). cond (is_done a) (Step.carried_out M (decode word) xs B) (Step.refused M (decode word) xs B a)) e
    ∙ ap (λ (t : Bool). cond t (Step.carried_out M (decode word) xs B) (Step.refused M (decode word) xs B a)) d

-- ---- what holds of each permitted pair of lengths, computed

abbrev pair : ℕ → ℕ → List Bool
pair r m = ltb 0 (m / r) ∷ leb 8 (r / 8) ∷ eqb (16 * (m / r * (r / 8))) (2 * m) ∷ []

pub permitted-lengths : (rlen mlen elen : ℕ) → permitted rlen mlen elen ≡ true → (zero < mlen / rlen) × (8 ≤ rlen / 8) × (16 * (mlen / rlen * (rlen / 8)) ≡ 2 * mlen)
unfolding permitted
permitted-lengths r m e h =
    let t = every-each (is_in r rlens ∷ is_in m mlens ∷ ltb r m ∷ is_in e elens ∷ ltb e r ∷ []) h in
    let p : not (ltb r m) || every (pair r m) ≡ true =
    each_in m mlens (λ m. not (ltb r m) || every (pair r m)) (each_in r rlens (λ r. each mlens (λ m. not (ltb r m) || every (pair r m))) refl t.0) t.1.0 in
    let q = every-each (pair r m) (or-not (not (ltb r m)) (every (pair r m)) p (rw t.1.1.0)) in
    (ltb-true 0 (m / r) q.0, leb-true 8 (r / 8) q.1.0, eqb-true (16 * (m / r * (r / 8))) (2 * m) q.1.1.0)

-- ELEN is one of the two, and below RLEN
pub permitted-elen : (rlen mlen elen : ℕ) → permitted rlen mlen elen ≡ true → (is_in elen elens ≡ true) × (elen < rlen)
unfolding permitted
permitted-elen r m e h =
    let t = every-each (is_in r rlens ∷ is_in m mlens ∷ ltb r m ∷ is_in e elens ∷ ltb e r ∷ []) h in
    (t.1.1.1.0, ltb-true e r t.1.1.1.1.0)

-- for code: bounds
abbrev bounds : ℕ → ℕ → List Bool
bounds r m = leb 64 r ∷ leb r most_rlen ∷ leb m most_mlen ∷ eqb (m / r * r) m ∷ eqb (r / 8 * 8) r ∷ []

pub permitted-bounds : (rlen mlen elen : ℕ) → permitted rlen mlen elen ≡ true → (64 ≤ rlen) × (rlen ≤ most_rlen) × (mlen ≤ most_mlen) × (rlen < mlen) × (mlen / rlen * rlen ≡ mlen) × (rlen / 8 * 8 ≡ rlen)
unfolding permitted
permitted-bounds r m e h =
    let t = every-each (is_in r rlens ∷ is_in m mlens ∷ ltb r m ∷ is_in e elens ∷ ltb e r ∷ []) h in
    let p : not (ltb r m) || every (bounds r m) ≡ true =
    each_in m mlens (λ m. not (ltb r m) || every (bounds r m)) (each_in r rlens (λ r. each mlens (λ m. not (ltb r m) || every (bounds r m))) refl t.0) t.1.0 in
    let q = every-each (bounds r m) (or-not (not (ltb r m)) (every (bounds r m)) p (rw t.1.1.0)) in (
      leb-true 64 r q.0,
      leb-true r most_rlen q.1.0,
      leb-true m most_mlen q.1.1.0,
      ltb-true r m t.1.1.0,
      eqb-true (m / r * r) m q.1.1.1.0,
      eqb-true (r / 8 * 8) r q.1.1.1.1.0,
    )
