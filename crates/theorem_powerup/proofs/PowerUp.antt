-- Request Nine, from a start on: an accepted start marks no byte, and each act keeps what two sessions have in common.
use Rattle.numbers.proofs.Kit.{◌≡◌, refl, sym, ap, ap₂, ◌∙◌, subst, Bool, true, false, cond, List, [], ◌∷◌, ℕ, zero, suc, arith, eqb, length, get_or}
use Rattle.numbers.proofs.Kit.{replicate, eqb-true}
use Rattle.numbers.specs.Blocks.{Choice}
use Rattle.machine.specs.declared.Reply.{Reply}
use Rattle.machine.specs.Answers.{reply, done, is_done, verdict, Done, Answer}
use Rattle.machine.specs.Geometry.{Bench, permitted, register_bytes}
use Rattle.machine.specs.Alike.{Agree}
use Rattle.machine.specs.Vectors.{Vectors, vectors_of}
use Rattle.machine.specs.Starting.{startable, start_machine, start_checks, started_as, StartOutcome, fresh_machine, no_machine, is_rule, ranges, paired, seals_end}
use Rattle.machine.proofs.StartLaws.{accepted}
use Rattle.machine.specs.Theorems.{started_bench}
use Rattle.machine.proofs.TestLaws.{every-each}
use Rattle.run.specs.declared.Run.{Run}
use Rattle.run.specs.Turn.{running}
use Rattle.run.specs.Acts.{Act, Session, session, Acted, act}
use Rattle.theorem_powerup.specs.Steps.{AlikeBenches}
use Rattle.theorem_powerup.specs.PowerUp.{StartsAlike, Reading, reading, readings, PowerUpNeverMatters}
use Rattle.theorem_powerup.proofs.Steps.{step-ignores-unmarked, seal-ignores-unmarked}
use Rattle.theorem_powerup.proofs.Runs.{run-start-ignores-unmarked, turns-ignore-unmarked, whole-ignores-unmarked}

-- ---- two starts

zeros : (n q : ℕ) → get_or {A = ℕ} (replicate n 0) q 0 ≡ 0
zeros zero q = refl
zeros (suc n) zero = refl
zeros (suc n) (suc q) = zeros n q

-- where nothing is marked, any registers of one length agree
pub unmarked-agree : (n : ℕ) (xs ys : List ℕ) → length xs ≡ length ys → Agree (replicate n 0) xs ys
unmarked-agree n xs ys e = record { same_length = e; same_bytes = λ q h. let z : ◌≡◌ {A = ℕ} 0 1 = sym (zeros n q) ∙ h in absurd (omega arith) }

module _ (rlen mlen elen rule : ℕ) (seals : List ℕ) where
  -- an accepted start
  abbrev fresh : List ℕ → StartOutcome
  fresh registers = started_as (record { answer = Done; machine = fresh_machine rlen mlen elen rule }) seals registers (replicate (register_bytes mlen) 0)

  fresh-is : (registers marks : List ℕ) → (start_machine rlen mlen elen rule seals registers marks).answer.number ≡ 0
      → (start_machine rlen mlen elen rule seals registers marks ≡ fresh registers) × (length registers ≡ register_bytes mlen)
  unfolding startable
  fresh-is registers marks d =
      let k = accepted rlen mlen elen rule seals registers marks d in
      let c = every-each (permitted rlen mlen elen ∷ eqb (length registers) (register_bytes mlen) ∷ eqb (length marks) (register_bytes mlen) ∷ is_rule rule ∷ paired seals ∷ seals_end (ranges seals) ∷ []) k.fits in (
        k.leaves ∙ ap (λ (n : ℕ). started_as (record { answer = Done; machine = fresh_machine rlen mlen elen rule }) seals registers (replicate n 0)) (eqb-true (length marks) (register_bytes mlen) c.1.1.0),
        eqb-true (length registers) (register_bytes mlen) c.1.0,
      )

  pub startable-same : (registers registers' marks marks' : List ℕ) → length registers ≡ length registers' → length marks ≡ length marks'
      → startable rlen mlen elen rule seals registers marks ≡ startable rlen mlen elen rule seals registers' marks'
  unfolding startable
  startable-same registers registers' marks marks' er em = rw (er, em)

  -- the answer goes by the lengths of the registers and marks
  start-answer : (registers marks : List ℕ) → (start_machine rlen mlen elen rule seals registers marks).answer ≡ reply (verdict (start_checks rlen mlen elen rule seals registers marks))
  unfolding start_machine
  start-answer registers marks = go (is_done (verdict (start_checks rlen mlen elen rule seals registers marks)))
    where
      a : Answer
      a = verdict (start_checks rlen mlen elen rule seals registers marks)

      go : (t : Bool) → (cond t (started_as (record { answer = a; machine = fresh_machine rlen mlen elen rule }) seals registers (replicate (length marks) 0))
          (started_as (record { answer = a; machine = no_machine }) seals registers marks)).answer ≡ reply a
      go true = refl
      go false = refl

  start-same : (registers registers' marks marks' : List ℕ) → length registers ≡ length registers' → length marks ≡ length marks'
      → (start_machine rlen mlen elen rule seals registers marks).answer ≡ (start_machine rlen mlen elen rule seals registers' marks').answer
  start-same registers registers' marks marks' er em =
      rw (start-answer registers marks, start-answer registers' marks', startable-same registers registers' marks marks' er em)

pub starts-alike : StartsAlike
starts-alike rlen mlen elen rule seals registers registers' marks marks' memory d d' =
    let h = fresh-is rlen mlen elen rule seals registers marks d in
    let h' = fresh-is rlen mlen elen rule seals registers' marks' d' in
    rw (h.0, h'.0) (record {
      alike = record {
        same-machine = refl;
        same-seals = refl;
        same-marks = refl;
        agree = unmarked-agree (register_bytes mlen) registers registers' (h.1 ∙ sym h'.1);
      };
      same_memory = refl;
    })

-- ---- one act after another

-- equal scalars and runs, and machines that differ at most in unmarked register bytes, on equal memory
pub record SameSession (S S' : Session) : Type 0 where
  pub same-scalars : S.scalars ≡ S'.scalars
  pub same-lent : S.lent ≡ S'.lent
  pub same-run : S.run ≡ S'.run
  pub alike-benches : AlikeBenches S.bench S'.bench

pub record SameActed (o o' : Acted) : Type 0 where
  pub same_answer : o.answer ≡ o'.answer
  pub same-handed : o.handed ≡ o'.handed
  pub same_count : o.count ≡ o'.count
  pub same_after : SameSession o.after o'.after

reading-same : (o o' : Acted) → SameActed o o' → reading o ≡ reading o'
reading-same o o' k = cc

module _ (grant : Choice) (B B' : Bench) (xs : List ℕ) (W : Vectors) (R : Run) (t : AlikeBenches B B') where
  each_same : (a : Act) → SameActed (act grant a (session B xs W R)) (act grant a (session B' xs W R))
  each_same (Act.lend ys W' memory) = record {
    same_answer = refl;
    same-handed = refl;
    same_count = refl;
    same_after = record {
      same-scalars = refl;
      same-lent = refl;
      same-run = refl;
      alike-benches = record {
        alike = record { same-machine = t.alike.same-machine; same-seals = t.alike.same-seals; same-marks = t.alike.same-marks; agree = t.alike.agree };
        same_memory = refl;
      };
    };
  }
  each_same (Act.step word) =
      let k = step-ignores-unmarked grant word xs W B B' t in
      record {
        same_answer = k.same_answer;
        same-handed = refl;
        same_count = refl;
        same_after = record { same-scalars = k.same-scalars; same-lent = ap (λ (f : List ℕ). vectors_of f W.group) k.same-vectors; same-run = refl; alike-benches = k.alike-after };
      }
  each_same (Act.run_start P) =
      let k = run-start-ignores-unmarked grant P B B' t in
      record {
        same_answer = k.same_answer;
        same-handed = refl;
        same_count = refl;
        same_after = record { same-scalars = refl; same-lent = refl; same-run = ap₂ (λ (a : Reply) (Q : Run). cond (done a) Q R) k.same_answer k.same-run; alike-benches = k.alike-after };
      }
  each_same Act.run_next = record {
    same_answer = refl;
    same-handed = refl;
    same_count = refl;
    same_after = record { same-scalars = refl; same-lent = refl; same-run = refl; alike-benches = t };
  }
  each_same Act.run_turn =
      let k = (turns-ignore-unmarked grant (running R B) (running R B') (record { same-run = refl; alike-benches = t }) zero).1 in
      record {
        same_answer = k.same_answer;
        same-handed = k.same-handed;
        same_count = refl;
        same_after = record { same-scalars = refl; same-lent = refl; same-run = k.same_after.same-run; alike-benches = k.same_after.alike-benches };
      }
  each_same (Act.run_turns n) =
      let k = (turns-ignore-unmarked grant (running R B) (running R B') (record { same-run = refl; alike-benches = t }) n).0 in
      record {
        same_answer = refl;
        same-handed = refl;
        same_count = k.same_count;
        same_after = record { same-scalars = refl; same-lent = refl; same-run = k.same_after.same-run; alike-benches = k.same_after.alike-benches };
      }
  each_same (Act.run P) =
      let k = whole-ignores-unmarked grant P B B' t in
      record {
        same_answer = k.same_answer;
        same-handed = refl;
        same_count = k.same_count;
        same_after = record { same-scalars = refl; same-lent = refl; same-run = refl; alike-benches = k.alike-after };
      }
  each_same (Act.seal start size) =
      let k = seal-ignores-unmarked start size B B' t in
      record {
        same_answer = k.0;
        same-handed = refl;
        same_count = refl;
        same_after = record { same-scalars = refl; same-lent = refl; same-run = refl; alike-benches = k.1 };
      }

act-same : (grant : Choice) (a : Act) (S S' : Session) → SameSession S S' → SameActed (act grant a S) (act grant a S')
act-same grant a S S' s =
    subst (λ (xs : List ℕ). SameActed (act grant a S) (act grant a (session S'.bench xs S'.lent S'.run))) s.same-scalars
    (subst (λ (W : Vectors). SameActed (act grant a S) (act grant a (session S'.bench S.scalars W S'.run))) s.same-lent
    (subst (λ (R : Run). SameActed (act grant a S) (act grant a (session S'.bench S.scalars S.lent R))) s.same-run
    (each_same grant S.bench S'.bench S.scalars S.lent S.run s.alike-benches a)))

readings-same : (grant : Choice) (acts : List Act) (S S' : Session) → SameSession S S' → readings grant acts S ≡ readings grant acts S'
readings-same grant [] S S' s = refl
readings-same grant (a ∷ acts) S S' s =
    let k = act-same grant a S S' s in
    ap₂ (λ (r : Reading) (rs : List Reading). r ∷ rs) (reading-same (act grant a S) (act grant a S') k) (readings-same grant acts (act grant a S).after (act grant a S').after k.same_after)

pub power-up-never-matters : PowerUpNeverMatters
power-up-never-matters grant rlen mlen elen rule seals registers registers' marks marks' er em =
    let e = start-same rlen mlen elen rule seals registers registers' marks marks' er em in (
      e,
      λ d acts memory scalars W R.
          readings-same grant acts (session (started_bench rlen mlen elen rule seals registers marks memory) scalars W R) (session (started_bench rlen mlen elen rule seals registers' marks' memory) scalars W R)
          (record { same-scalars = refl; same-lent = refl; same-run = refl; alike-benches = starts-alike rlen mlen elen rule seals registers registers' marks marks' memory d (ap (λ (a : Reply). a.number) (sym e) ∙ d) }),
    )
