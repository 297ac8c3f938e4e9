-- Demand 2 over any list of acts: each keeps the seal and the sealed bytes.
use Rattle.numbers.proofs.Kit.{◌≡◌, refl, sym, ap, ◌∙◌, subst, true, List, [], ◌∷◌, Option, none, some, ℕ, zero, suc, length}
use Rattle.numbers.proofs.Kit.{get_or}
use Rattle.numbers.specs.Blocks.{Choice}
use Rattle.machine.specs.Geometry.{Range, sealed, Bench, bench_of}
use Rattle.machine.specs.Starting.{ranges, start_machine, StartOutcome}
use Rattle.machine.specs.Theorems.{Extends, Unharmed, started_bench}
use Rattle.machine.proofs.Sealing.{stay, stay_then, stays-sealed, step-unharmed, step-with-unharmed, seal-unharmed}
use Rattle.machine.proofs.StartLaws.{accepted}
use Rattle.run.specs.declared.Handed.{Handed}
use Rattle.run.specs.Words.{Op, steps}
use Rattle.run.specs.Plan.{shape}
use Rattle.run.specs.Start.{start_run}
use Rattle.run.specs.Encoding.{own, handed_for}
use Rattle.run.specs.Turn.{word_handed_out, Running, running, turn, after_turns}
use Rattle.run.specs.Statement.{job_of, started_run}
use Rattle.run.specs.Acts.{Act, Session, session, act, after_acts, lent_by, lent_last}
use Rattle.run.specs.Theorems.{SealHoldsOverActs, SealKept, SealHoldsOverActsFromStart}
use Rattle.run.proofs.HandedLaws.{turn_with}

-- ---- one after another

harmless : (grant : Choice) (B : Bench) → Unharmed grant B B
harmless grant B = record { same-parameters = refl; ranges-stay = stay B.seals; same_length = refl; same_bytes = λ q h. refl }

then : (grant : Choice) (B C D : Bench) → Unharmed grant B C → Unharmed grant C D → Unharmed grant B D
then grant B C D u v = record {
  same-parameters = v.same-parameters ∙ u.same-parameters;
  ranges-stay = stay_then u.ranges-stay v.ranges-stay;
  same_length = v.same_length ∙ u.same_length;
  same_bytes = λ q h. v.same_bytes q (stays-sealed u.ranges-stay q h) ∙ u.same_bytes q h;
}

-- ---- turns

turn-unharmed : (grant : Choice) (r : Running) → Unharmed grant r.bench (turn grant r).after.bench
turn-unharmed grant r = go (word_handed_out grant r.run)
  where
    go : (o : Option Op) → Unharmed grant r.bench (turn_with grant r o).after.bench
    go none = harmless grant r.bench
    go (some o) = let h : Handed = handed_for r.run.plan o in step-unharmed grant h.word (own h) r.bench

turns-unharmed : (grant : Choice) (r : Running) (t : ℕ) → Unharmed grant r.bench (after_turns grant r t).bench
turns-unharmed grant r zero = harmless grant r.bench
turns-unharmed grant r (suc t) =
    then grant r.bench (after_turns grant r t).bench (after_turns grant r (suc t)).bench (turns-unharmed grant r t) (turn-unharmed grant (after_turns grant r t))

-- ---- acts

-- a bench with another memory
abbrev lent : Bench → List ℕ → Bench
lent B memory = bench_of B.machine B.seals B.registers B.marks memory

act-unharmed : (grant : Choice) (a : Act) (S : Session) → Unharmed grant (lent S.bench (lent_by a S.bench.memory)) (act grant a S).after.bench
unfolding start_run
act-unharmed grant (Act.lend xs W memory) S = harmless grant (lent S.bench memory)
act-unharmed grant (Act.step word) S = step-with-unharmed grant word S.scalars S.lent S.bench
act-unharmed grant (Act.run_start P) S = harmless grant S.bench
act-unharmed grant Act.run_next S = harmless grant S.bench
act-unharmed grant Act.run_turn S = turn-unharmed grant (running S.run S.bench)
act-unharmed grant (Act.run_turns n) S = turns-unharmed grant (running S.run S.bench) n
act-unharmed grant (Act.run P) S = turns-unharmed grant (started_run grant P S.bench) (steps (shape (job_of grant P S.bench)))
act-unharmed grant (Act.seal start size) S = seal-unharmed grant start size S.bench

-- what two memories have in common stays, once others are lent to both
lent_same : (Q : List ℕ → List ℕ → Type 0) → ((m : List ℕ) → Q m m) → (acts : List Act) (m m' : List ℕ) → Q m m' → Q (lent_last acts m) (lent_last acts m')
lent_same Q r [] m m' h = h
lent_same Q r (Act.lend xs W memory ∷ acts) m m' h = r (lent_last acts memory)
lent_same Q r (Act.step word ∷ acts) m m' h = lent_same Q r acts m m' h
lent_same Q r (Act.run_start P ∷ acts) m m' h = lent_same Q r acts m m' h
lent_same Q r (Act.run_next ∷ acts) m m' h = lent_same Q r acts m m' h
lent_same Q r (Act.run_turn ∷ acts) m m' h = lent_same Q r acts m m' h
lent_same Q r (Act.run_turns n ∷ acts) m m' h = lent_same Q r acts m m' h
lent_same Q r (Act.run P ∷ acts) m m' h = lent_same Q r acts m m' h
lent_same Q r (Act.seal start size ∷ acts) m m' h = lent_same Q r acts m m' h

lent-unharmed : (grant : Choice) (acts : List Act) (B C : Bench) → Unharmed grant B C
    → Unharmed grant (lent B (lent_last acts B.memory)) (lent C (lent_last acts C.memory))
lent-unharmed grant acts B C u = record {
  same-parameters = u.same-parameters;
  ranges-stay = u.ranges-stay;
  same_length = lent_same (λ m m'. length m' ≡ length m) (λ m. refl) acts B.memory C.memory u.same_length;
  same_bytes = λ q h. lent_same (λ m m'. get_or m' q 0 ≡ get_or m q 0) (λ m. refl) acts B.memory C.memory (u.same_bytes q h);
}

pub seal-holds-over-acts : SealHoldsOverActs
seal-holds-over-acts grant [] S = harmless grant S.bench
seal-holds-over-acts grant (a ∷ acts) S =
    let S' : Session = (act grant a S).after in
    then grant (lent S.bench (lent_last acts (lent_by a S.bench.memory))) (lent S'.bench (lent_last acts S'.bench.memory)) (after_acts grant acts S').bench
    (lent-unharmed grant acts (lent S.bench (lent_by a S.bench.memory)) S'.bench (act-unharmed grant a S))
    (seal-holds-over-acts grant acts S')

-- ---- from a start

module _ (grant : Choice) (rlen mlen elen rule : ℕ) (seals registers marks memory : List ℕ) where
  abbrev B₀ : Bench
  B₀ = started_bench rlen mlen elen rule seals registers marks memory

  pub kept_from : (B : Bench) (mem : List ℕ) → (start_machine rlen mlen elen rule seals registers marks).answer.number ≡ 0 → Unharmed grant (lent B₀ mem) B → SealKept (ranges seals) mem B
  kept_from B mem e u =
      let r : B₀.seals ≡ ranges seals = ap (λ (o : StartOutcome). o.seals) (accepted rlen mlen elen rule seals registers marks e).leaves in
      record {
        ranges-stay = subst (λ (rs : List Range). Extends rs B.seals) r u.ranges-stay;
        same_bytes = λ q x. u.same_bytes q (subst (λ (rs : List Range). sealed rs q ≡ true) (sym r) x);
      }

pub seal-holds-over-acts-from-start : SealHoldsOverActsFromStart
seal-holds-over-acts-from-start grant rlen mlen elen rule seals registers marks memory scalars W R e acts =
    let S : Session = session (started_bench rlen mlen elen rule seals registers marks memory) scalars W R in
    kept_from grant rlen mlen elen rule seals registers marks memory (after_acts grant acts S).bench (lent_last acts memory) e (seal-holds-over-acts grant acts S)
