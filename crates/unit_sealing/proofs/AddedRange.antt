-- The ranges that a machine holds, and one that is added while a run is being made.
use Rattle.numbers.proofs.Kit.{◌≡◌, refl, sym, ap, ap₂, ◌∙◌, subst, ◌⊎◌, inl, inr, Bool, true, false, not, cond, ◌&&◌, List, [], ◌∷◌, ◌++◌, append_assoc}
use Rattle.numbers.proofs.Kit.{append-nil, Option, none, some, ℕ, zero, suc, ◌*◌, ◌≤◌, arith, length, eq-eqb, ne_eqb, Err}
use Rattle.numbers.specs.Blocks.{Choice}
use Rattle.machine.specs.declared.Refusal.TheVariants.{BadArguments, BadWidth, OutsideMemory, RowsOverlap, SealedByte}
use Rattle.machine.specs.declared.Reply.{Reply}
use Rattle.machine.specs.Answers.{reply, done, is_done, Check, ◌otherwise◌, verdict, Answer, Done}
use Rattle.machine.specs.Geometry.{Range, range, sealed, Parameters, parameters, State, Bench, bench_of, register_at}
use Rattle.machine.specs.Faults.{sound, seals_fit, sound_bench, thirty_two}
use Rattle.machine.specs.Listing.{decode}
use Rattle.machine.specs.Memory.{row_at, inside, distinct, rows_miss}
use Rattle.machine.specs.Operation.{Operation, tile_rows, tile_cols, rows_of, columns_of, memory_rows, memory_cols}
use Rattle.machine.specs.Meanings.{vectors_after, checks}
use Rattle.machine.specs.Operation.Operation.{illegal, set_type, set_size, cut_size, load, store, multiply, combine, scale, float_multiply, move_out, move_in}
use Rattle.machine.specs.Refusals.{typed, fitting, needs}
use Rattle.machine.specs.TransferWords.{width_of}
use Rattle.machine.specs.Sealing.{add_seal, seal_checks, with_seal}
use Rattle.machine.specs.Step.{Outcome, given_in, meant_in, checks_in, carried_in, refused_in, beside, step_with, step_by, outcome}
use Rattle.machine.specs.Vectors.{Vectors, vectors_fit, idle}
use Rattle.machine.proofs.TestLaws.{fails-not, not-fails, false-true}
use Rattle.machine.proofs.MemoryLaws.{misses-at, misses-true, rows-miss-at, rows-miss-true}
use Rattle.machine.proofs.CheckLaws.{passed}
use Rattle.machine.proofs.NoFault.{bench-seals, seal-keeps-sound}
use Rattle.machine.proofs.Sealing.{sealed-added}
use Rattle.run.specs.declared.Run.{Run}
use Rattle.run.specs.declared.Handed.{Handed}
use Rattle.run.specs.Encoding.{own, handed_for}
use Rattle.run.specs.Turn.{word_handed_out, moved, Running, running, Turn, turn, after_turns}
use Rattle.run.specs.Words.{Op, steps}
use Rattle.run.specs.Plan.{shape}
use Rattle.run.specs.Statement.{job_of, started_run}
use Rattle.run.specs.Acts.{Act, Session, act}
use Rattle.run.proofs.Demand1.{run-start-changes-nothing}
use Rattle.run.proofs.HandedLaws.{turn_with}
use Rattle.run.proofs.RefusalLaws.{turn-refused}
use Rattle.unit_sealing.specs.Theorems.{added_by, added_over, RangesAreExact, under, RefusesOnly, AddedRangeRefusesOnly}

-- ---- the checks of an operation, where more is sealed

module _ (z z' : ℕ → Bool) (more : (q : ℕ) → z q ≡ true → z' q ≡ true) where
  -- rows that miss what is sealed now missed what was sealed before
  missed : (base stride rows n : ℕ) → rows_miss z' base stride rows n ≡ true → rows_miss z base stride rows n ≡ true
  missed base stride rows n h =
      rows-miss-true z base stride rows n (λ i l. misses-true z (row_at base stride i) n (λ q x.
      fails-not (z q) (λ e. not-fails (z' q) (misses-at z' (row_at base stride i) n (rows-miss-at z' base stride rows n h i l) q x) (more q e))))

  -- the last of a list of checks
  last-check : (cs : List Check) (t t' : Bool) → (t' ≡ true → t ≡ true)
      → let v : Bool → Answer = λ b. verdict (cs ++ ((b otherwise SealedByte) ∷ [])) in (v t' ≡ v t) ⊎ (v t' ≡ (Err SealedByte))
  last-check [] true true h = inl refl
  last-check [] false true h = absurd (false-true (h refl))
  last-check [] t false h = inr refl
  last-check (c ∷ cs) t t' h = go c.holds (last-check cs t t' h)
    where
      v : Bool → Answer
      v b = verdict (cs ++ ((b otherwise SealedByte) ∷ []))

      go : (b : Bool) → (v t' ≡ v t) ⊎ (v t' ≡ (Err SealedByte))
          → (cond b (v t') (Err c.answer) ≡ cond b (v t) (Err c.answer)) ⊎ (cond b (v t') (Err c.answer) ≡ (Err SealedByte))
      go true r = r
      go false r = inl refl

  module _ (M : Parameters) (st : State) (mem : List ℕ) where
    abbrev Same : Operation → Type 0
    Same o = (verdict (checks M z' o st mem) ≡ verdict (checks M z o st mem)) ⊎ (verdict (checks M z' o st mem) ≡ (Err SealedByte))

    -- all but a store's last are the same
    same : (o : Operation) → Same o
    same (illegal wrong) = inl refl
    same (set_type v) = inl refl
    same (set_size d a) = inl refl
    same (cut_size d) = inl refl
    same (load f k r w base stride) = inl refl
    same (store f k r w base stride) =
        last-check (
        typed st
        ∷ (width_of M.elen st.mtype k w otherwise BadWidth)
        ∷ fitting M st (rows_of k)
        ∷ fitting M st (columns_of k)
        ∷ needs false st.marks (register_at M k r) (tile_rows st k) (tile_cols st k) w
        ∷ (inside (length mem) base stride rows n otherwise OutsideMemory)
        ∷ (distinct (row_at base stride) rows n otherwise RowsOverlap) ∷ [])
        (rows_miss z base stride rows n) (rows_miss z' base stride rows n) (missed base stride rows n)
      where
        rows : ℕ
        rows = memory_rows f (tile_rows st k) (tile_cols st k)

        n : ℕ
        n = memory_cols f (tile_rows st k) (tile_cols st k) * w
    same (multiply f d a b) = inl refl
    same (combine o f d a) = inl refl
    same (scale f d a x) = inl refl
    same (float_multiply d a b) = inl refl
    same (move_out f a v first count) = inl refl
    same (move_in f d v first count file) = inl refl

-- ---- a step, and a turn, on a machine that holds more

-- a bench with other ranges
abbrev holding : List Range → Bench → Bench
holding rs B = bench_of B.machine rs B.registers B.marks B.memory

module _ (grant : Choice) (rs : List Range) (fit : seals_fit rs ≡ true) where
  -- what a step answers and leaves is that of the bench without, but for the ranges, or it gets 7 and changes nothing
  abbrev Steps : (word : ℕ) (xs : List ℕ) (B : Bench) → Type 0
  Steps word xs B =
      let o = step_by grant word xs B in
      let o' = step_by grant word xs (holding rs B) in
      ((o'.answer ≡ o.answer) × (o'.bench ≡ holding rs o.bench)) ⊎ ((o'.answer ≡ reply (Err SealedByte)) × (o'.bench ≡ holding rs B))

  step-more : (word : ℕ) (xs : List ℕ) (B : Bench) → seals_fit B.seals ≡ true → ((q : ℕ) → sealed B.seals q ≡ true → sealed rs q ≡ true) → Steps word xs B
  unfolding step_by outcome
  step-more word xs B fits more = go answers
    where
      M : Parameters
      M = parameters grant B.machine

      B' : Bench
      B' = holding rs B

      told : Answer
      told = verdict (checks_in idle M (decode word) xs B)

      told' : Answer
      told' = verdict (checks_in idle M (decode word) xs B')

      a : Answer
      a = verdict (checks M (sealed B.seals) (meant_in idle M (decode word) xs B) (given_in idle M (decode word) xs B) B.memory)

      a' : Answer
      a' = verdict (checks M (sealed rs) (meant_in idle M (decode word) xs B) (given_in idle M (decode word) xs B) B.memory)

      -- answer 8 comes first, and is the same
      pick : Bool → Bool → Bool → Answer → Answer
      pick s f t v = cond (s && f) (cond t v (Err BadArguments)) (Err BadArguments)

      picked : (s t : Bool) → (a' ≡ a) ⊎ (a' ≡ (Err SealedByte)) → (pick s true t a' ≡ pick s true t a) ⊎ (pick s true t a' ≡ (Err SealedByte))
      picked true true k = k
      picked true false k = inl refl
      picked false t k = inl refl

      S : Bool
      S = sound B.machine B.registers B.marks

      is : told ≡ pick S true (thirty_two xs) a
      is = ap (λ (f : Bool). pick S f (thirty_two xs) a) fits

      is' : told' ≡ pick S true (thirty_two xs) a'
      is' = ap (λ (f : Bool). pick S f (thirty_two xs) a') fit

      answers : (told' ≡ told) ⊎ (told' ≡ (Err SealedByte))
      answers = elim (picked S (thirty_two xs) (same (sealed B.seals) (sealed rs) more M (given_in idle M (decode word) xs B) B.memory (meant_in idle M (decode word) xs B))) [
        | inl e ↦ inl (is' ∙ e ∙ sym is)
        | inr e ↦ inr (is' ∙ e)
      ]

      out : Bench → Answer → Outcome
      out C v = cond (is_done v) (carried_in idle M (decode word) xs C) (refused_in idle M (decode word) xs C v)

      shown : (v : Answer) (t : Bool) → let o : Bench → Outcome = λ C. cond t (carried_in idle M (decode word) xs C) (refused_in idle M (decode word) xs C v) in
          ((o B').answer ≡ (o B).answer) × ((o B').bench ≡ holding rs (o B).bench)
      shown v true = (refl, refl)
      shown v false = (refl, refl)

      go : (told' ≡ told) ⊎ (told' ≡ (Err SealedByte)) → (((out B' told').answer ≡ (out B told).answer) × ((out B' told').bench ≡ holding rs (out B told).bench)) ⊎ (((out B' told').answer ≡ reply (Err SealedByte)) × ((out B' told').bench ≡ B'))
      go (inl e) = let k = shown told (is_done told) in inl (ap (λ (v : Answer). (out B' v).answer) e ∙ k.0, ap (λ (v : Answer). (out B' v).bench) e ∙ k.1)
      go (inr e) = inr (ap (λ (v : Answer). (out B' v).answer) e, ap (λ (v : Answer). (out B' v).bench) e)

  -- and so of a turn
  abbrev Turns : Running → Type 0
  Turns r = (((turn grant (under rs r)).answer ≡ (turn grant r).answer) × ((turn grant (under rs r)).after ≡ under rs (turn grant r).after))
      ⊎ (((turn grant (under rs r)).answer ≡ reply (Err SealedByte)) × ((turn grant (under rs r)).after ≡ under rs r))

  turn_more : (r : Running) → seals_fit r.bench.seals ≡ true → ((q : ℕ) → sealed r.bench.seals q ≡ true → sealed rs q ≡ true) → Turns r
  turn_more r fits more = go (word_handed_out grant r.run)
    where
      go : (o : Option Op) → let u = turn_with grant (under rs r) o in let v = turn_with grant r o in
          ((u.answer ≡ v.answer) × (u.after ≡ under rs v.after)) ⊎ ((u.answer ≡ reply (Err SealedByte)) × (u.after ≡ under rs r))
      go none = inl (refl, refl)
      go (some o) =
          let h : Handed = handed_for r.run.plan o in
          elim (step-more h.word (own h) r.bench fits more) [
            | inl e ↦ inl (e.0, ap₂ (λ (v : Reply) (C : Bench). running (cond (done v) (moved grant r.run) r.run) C) e.0 e.1)
            | inr e ↦ inr (e.0, ap₂ (λ (v : Reply) (C : Bench). running (cond (done v) (moved grant r.run) r.run) C) e.0 e.1)
          ]

-- ---- over turns

-- no step changes the ranges
step-seals : (grant : Choice) (word : ℕ) (xs : List ℕ) (B : Bench) → (step_by grant word xs B).bench.seals ≡ B.seals
unfolding step_by outcome
step-seals grant word xs B = go (is_done (verdict (checks_in idle M (decode word) xs B)))
  where
    M : Parameters
    M = parameters grant B.machine

    go : (t : Bool) → (cond t (carried_in idle M (decode word) xs B) (refused_in idle M (decode word) xs B (verdict (checks_in idle M (decode word) xs B)))).bench.seals ≡ B.seals
    go true = refl
    go false = refl

turn-seals : (grant : Choice) (s : Running) → (turn grant s).after.bench.seals ≡ s.bench.seals
turn-seals grant s = go (word_handed_out grant s.run)
  where
    go : (o : Option Op) → (turn_with grant s o).after.bench.seals ≡ s.bench.seals
    go none = refl
    go (some o) = let h : Handed = handed_for s.run.plan o in step-seals grant h.word (own h) s.bench

pub turns-seals : (grant : Choice) (r : Running) (t : ℕ) → (after_turns grant r t).bench.seals ≡ r.bench.seals
turns-seals grant r zero = refl
turns-seals grant r (suc t) = turn-seals grant (after_turns grant r t) ∙ turns-seals grant r t

module _ (grant : Choice) (rs : List Range) (fit : seals_fit rs ≡ true) (r : Running) (fits : seals_fit r.bench.seals ≡ true)
    (more : (q : ℕ) → sealed r.bench.seals q ≡ true → sealed rs q ≡ true) where
  abbrev s : Running
  s = under rs r

  -- the run where it is after t turns
  record At (t : ℕ) : Type 0 where
    turns : ℕ
    no_more : turns ≤ t
    as-without : after_turns grant s t ≡ under rs (after_turns grant r turns)
    all-or-seven : (turns ≡ t) ⊎ ((turn grant (after_turns grant s t)).answer.number ≡ 7)

  -- a turn of the run without the range, and with it
  both : (u : ℕ) → Turns grant rs fit (after_turns grant r u)
  both u =
      let kept = turns-seals grant r u in
      turn_more grant rs fit (after_turns grant r u)
      (subst (λ (x : List Range). seals_fit x ≡ true) (sym kept) fits) (subst (λ (x : List Range). (q : ℕ) → sealed x q ≡ true → sealed rs q ≡ true) (sym kept) more)

  at : (t : ℕ) → At t
  at zero = record { turns = 0; no_more = omega arith; as-without = refl; all-or-seven = inl refl }
  at (suc t) = go (at t)
    where
      next : (u : ℕ) → u ≤ t → after_turns grant s t ≡ under rs (after_turns grant r u) → u ≡ t → Turns grant rs fit (after_turns grant r u) → At (suc t)
      next u l e eu (inl f) = record {
        turns = suc u;
        no_more = omega arith;
        as-without = ap (λ (q : Running). (turn grant q).after) e ∙ f.1;
        all-or-seven = inl (ap suc eu);
      }
      next u l e eu (inr f) =
          let k : after_turns grant s (suc t) ≡ under rs (after_turns grant r u) = ap (λ (q : Running). (turn grant q).after) e ∙ f.1 in
          record {
            turns = u;
            no_more = omega arith;
            as-without = k;
            all-or-seven = inr (ap (λ (q : Running). (turn grant q).answer.number) k ∙ ap (λ (v : Reply). v.number) f.0);
          }

      go : At t → At (suc t)
      go k = by k.all-or-seven
        where
          by : (k.turns ≡ t) ⊎ ((turn grant (after_turns grant s t)).answer.number ≡ 7) → At (suc t)
          by (inl e) = next k.turns k.no_more k.as-without e (both k.turns)
          by (inr e) =
              let stays : after_turns grant s (suc t) ≡ after_turns grant s t = turn-refused grant (after_turns grant s t) (ne_eqb (turn grant (after_turns grant s t)).answer.number 0 (λ f. omega (arith, e, f))) in
              record {
                turns = k.turns;
                no_more = omega (arith, k.no_more);
                as-without = stays ∙ k.as-without;
                all-or-seven = inr (ap (λ (q : Running). (turn grant q).answer.number) stays ∙ e);
              }

  -- the step that is handed out hangs on the run alone
  handed-same : (q : Running) → (turn grant (under rs q)).handed ≡ (turn grant q).handed
  handed-same q = go (word_handed_out grant q.run)
    where
      go : (o : Option Op) → (turn_with grant (under rs q) o).handed ≡ (turn_with grant q o).handed
      go none = refl
      go (some o) = refl

  over : (t : ℕ) → RefusesOnly grant rs r s t
  over t =
      let k = at t in
      record {
        turns = k.turns;
        no_more = k.no_more;
        as-without = k.as-without;
        same_step = ap (λ (q : Running). (turn grant q).handed) k.as-without ∙ handed-same (after_turns grant r k.turns);
        same-or-seven = next k.turns k.as-without (both k.turns);
        all-or-seven = k.all-or-seven;
      }
    where
      next : (u : ℕ) → after_turns grant s t ≡ under rs (after_turns grant r u) → Turns grant rs fit (after_turns grant r u)
          → ((turn grant (after_turns grant s t)).answer ≡ (turn grant (after_turns grant r u)).answer)
          ⊎ (((turn grant (after_turns grant s t)).answer.number ≡ 7) × ((turn grant (after_turns grant s t)).after ≡ after_turns grant s t))
      next u e (inl f) = inl (ap (λ (q : Running). (turn grant q).answer) e ∙ f.0)
      next u e (inr f) =
          inr (ap (λ (q : Running). (turn grant q).answer.number) e ∙ ap (λ (v : Reply). v.number) f.0, ap (λ (q : Running). (turn grant q).after) e ∙ f.1 ∙ sym e)

pub added-range-refuses-only : AddedRangeRefusesOnly
unfolding add_seal
added-range-refuses-only grant r start size z =
    let B : Bench = r.bench in
    let d : is_done (verdict (seal_checks start size B)) ≡ true = eq-eqb (reply (verdict (seal_checks start size B))).number 0 z in
    let ok : sound_bench B ≡ true = (passed (seal_checks start size B) refl d).0 in
    let e : (add_seal start size B).bench ≡ with_seal start size B = ap (λ (t : Bool). cond t (with_seal start size B) B) d in
    let fit : seals_fit (with_seal start size B).seals ≡ true = subst (λ (C : Bench). seals_fit C.seals ≡ true) e (bench-seals (add_seal start size B).bench (seal-keeps-sound start size B ok)) in
    λ t. subst (λ (C : Bench). RefusesOnly grant C.seals r (running r.run C) t) (sym e)
    (over grant (with_seal start size B).seals fit r (bench-seals B ok) (λ q. sealed-added B.seals (range start size ∷ []) q) t)

-- ---- the ranges over acts

step-with-seals : (grant : Choice) (word : ℕ) (xs : List ℕ) (W : Vectors) (B : Bench) → (step_with grant word xs W B).bench.seals ≡ B.seals
unfolding step_with
step-with-seals grant word xs W B = go (vectors_fit W) (is_done a)
  where
    M : Parameters
    M = parameters grant B.machine

    a : Answer
    a = verdict (checks_in W M (decode word) xs B)

    go : (f t : Bool) → (cond f (beside (cond t (vectors_after M (meant_in W M (decode word) xs B) (given_in W M (decode word) xs B) W.file) W.file)
        (cond t (carried_in W M (decode word) xs B) (refused_in W M (decode word) xs B a))) (beside W.file (refused_in W M (decode word) xs B (Err BadArguments)))).bench.seals ≡ B.seals
    go true true = refl
    go true false = refl
    go false t = refl

pub sealed-ranges : (from size : ℕ) (B : Bench) → (add_seal from size B).bench.seals ≡ B.seals ++ cond (done (add_seal from size B).answer) (range from size ∷ []) []
unfolding add_seal
sealed-ranges from size B = go (is_done (verdict (seal_checks from size B)))
  where
    go : (t : Bool) → (cond t (with_seal from size B) B).seals ≡ B.seals ++ cond t (range from size ∷ []) []
    go true = refl
    go false = sym (append-nil B.seals)

act-ranges : (grant : Choice) (a : Act) (S : Session) → (act grant a S).after.bench.seals ≡ S.bench.seals ++ added_by grant a S
act-ranges grant (Act.lend scalars W memory) S = sym (append-nil S.bench.seals)
act-ranges grant (Act.step word) S = step-with-seals grant word S.scalars S.lent S.bench ∙ sym (append-nil S.bench.seals)
act-ranges grant (Act.run_start P) S = ap (λ (C : Bench). C.seals) (run-start-changes-nothing grant P S.bench) ∙ sym (append-nil S.bench.seals)
act-ranges grant Act.run_next S = sym (append-nil S.bench.seals)
act-ranges grant Act.run_turn S = turn-seals grant (running S.run S.bench) ∙ sym (append-nil S.bench.seals)
act-ranges grant (Act.run_turns n) S = turns-seals grant (running S.run S.bench) n ∙ sym (append-nil S.bench.seals)
act-ranges grant (Act.run P) S =
    turns-seals grant (started_run grant P S.bench) (steps (shape (job_of grant P S.bench)))
    ∙ ap (λ (C : Bench). C.seals) (run-start-changes-nothing grant P S.bench) ∙ sym (append-nil S.bench.seals)
act-ranges grant (Act.seal from size) S = sealed-ranges from size S.bench

pub ranges-are-exact : RangesAreExact
ranges-are-exact grant [] S = sym (append-nil S.bench.seals)
ranges-are-exact grant (a ∷ acts) S =
    ranges-are-exact grant acts (act grant a S).after
    ∙ ap (λ (rs : List Range). rs ++ added_over grant acts (act grant a S).after) (act-ranges grant a S)
    ∙ append_assoc S.bench.seals (added_by grant a S) (added_over grant acts (act grant a S).after)
