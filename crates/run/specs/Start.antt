-- The start of a run: its checks in the order 8, 6, 9.
use Rattle.std.specs.Prelude.{◌∷◌, ◌+◌, ◌*◌}
use Rattle.numbers.specs.Kit.{Result, Ok, Err, Bool, cond, not, List, [], ℕ, leb, eqb, length}
use Rattle.numbers.specs.Blocks.{Choice}
use Rattle.machine.specs.declared.Machine.{Machine}
use Rattle.machine.specs.declared.Refusal.{Refusal}
use Rattle.machine.specs.declared.Refusal.TheVariants.{BadArguments, OutsideMemory, Overlap}
use Rattle.machine.specs.Tests.{all, every, is_in, within}
use Rattle.machine.specs.declared.Reply.{Reply}
use Rattle.machine.specs.Answers.{Answer, Done, reply, Check, ◌otherwise◌, verdict, is_done}
use Rattle.machine.specs.Geometry.{sealed}
use Rattle.machine.specs.Memory.{inside, distinct, rows_miss}
use Rattle.machine.specs.Geometry.{Bench}
use Rattle.machine.specs.Faults.{sound_bench}
use Rattle.run.specs.declared.Plan.{Plan}
use Rattle.run.specs.declared.Run.{Run}
use Rattle.run.specs.declared.Place.TheVariants.{AtType, AtEnd}
use Rattle.run.specs.Plan.{narrow, wide, a_at, b_at, c_at, a_rows, a_columns}

-- "Answer 8 for .. SEW not 8, 16 or 32, f not 1, 2 or 4, f x SEW above ELEN, or a size above 1,024"; 02, Ten: "The product run takes
-- SEW 64 there", where ELEN is 64
unfoldable pub format : (elen sew f : ℕ) → Bool
format elen sew f = every (is_in sew (8 ∷ 16 ∷ 32 ∷ 64 ∷ []) ∷ is_in f (1 ∷ 2 ∷ 4 ∷ []) ∷ leb (f * sew) elen ∷ [])

-- and for a kind that is not 0, 1 or 2; of kind 2, 02, Four: "a SEW other than 32 gets 3; in the run it, or another f, gets 8"
unfoldable pub kind_fit : Plan → Bool
kind_fit P = cond (eqb P.kind 2) (every (eqb P.sew 32 ∷ eqb P.factor 1 ∷ [])) (leb P.kind 1)

unfoldable pub planned : (elen : ℕ) → Plan → Bool
planned elen P = every (format elen P.sew P.factor ∷ leb P.m 1024 ∷ leb P.k 1024 ∷ leb P.n 1024 ∷ kind_fit P ∷ [])

-- "then 6 for an element outside memory": every byte of every row of A, B and C lies in memory
unfoldable pub lying : Plan → List ℕ → Bool
lying P mem = every (
    inside (length mem) P.a.address P.a.stride (a_rows P) (a_columns P * narrow P)
    ∷ inside (length mem) P.b.address P.b.stride P.k (P.n * narrow P)
    ∷ inside (length mem) P.c.address P.c.stride P.m (P.n * wide P) ∷ [])

-- no byte of a row of n bytes is in one of the other rows, of o bytes
unfoldable pub apart : (ℕ → ℕ) → ℕ → ℕ → (ℕ → ℕ) → ℕ → ℕ → Bool
apart at rows n at' rows' o = all rows (λ i. all n (λ b. all rows' (λ k. not (within (at' k) o (at i + b)))))

-- "then 9": no "byte of C lies in two of its rows, in a row of A or B, or in the seal"; 02, Twelve: "answer 9 read[s] all ranges"
unfoldable pub separate : (ℕ → Bool) → Plan → Bool
separate isSealed P = every (
    distinct (c_at P) P.m (P.n * wide P)
    ∷ apart (a_at P) (a_rows P) (a_columns P * narrow P) (c_at P) P.m (P.n * wide P)
    ∷ apart (b_at P) P.k (P.n * narrow P) (c_at P) P.m (P.n * wide P)
    ∷ rows_miss isSealed P.c.address P.c.stride P.m (P.n * wide P) ∷ [])

abbrev pub run_start_checks : Choice → Plan → Bench → List Check
run_start_checks grant P B =
    (sound_bench B otherwise BadArguments)
    ∷ (planned B.machine.elen P otherwise BadArguments)
    ∷ (lying P B.memory otherwise OutsideMemory)
    ∷ (separate (sealed B.seals) P otherwise Overlap) ∷ []

-- a run at its first word
abbrev pub fresh_run : Machine → Plan → Run
fresh_run m P = record { plan = P; rlen = m.rlen; mlen = m.mlen; rule = m.rule; elen = m.elen; place = AtType }

-- a run that hands out nothing: what a refused start returns
abbrev pub no_run : Plan → Run
no_run P = record { plan = P; rlen = 0; mlen = 0; rule = 0; elen = 0; place = AtEnd }

pub record RunStart : Type 0 where
  pub answer : Reply
  pub run : Run
  pub bench : Bench

-- "The start itself, accepted or refused, changes neither machine nor memory."
unfoldable pub start_run : Choice → Plan → Bench → RunStart
start_run grant P B = record {
  answer = reply (verdict (run_start_checks grant P B));
  run = cond (is_done (verdict (run_start_checks grant P B))) (fresh_run B.machine P) (no_run P);
  bench = B;
}

-- a start's answer, and the run; one that hands out nothing where it is refused
pub record RunStarted : Type 0 where
  pub answer : Answer
  pub run : Run

abbrev pub run_started : Plan → Result Run Refusal → RunStarted
run_started P (Ok R) = record { answer = Done; run = R }
run_started P (Err r) = record { answer = Err r; run = no_run P }

-- what the function `start` returned, and the bench that it was lent
abbrev pub run_started_as : RunStarted → Bench → RunStart
run_started_as r B = record { answer = reply r.answer; run = r.run; bench = B }
