-- 01, "What a machine is", and 02, Twelve: starting a machine.
use Rattle.std.specs.Prelude.{◌&&◌, ◌∷◌, ◌+◌, ◌-◌, ◌%◌, ◌^◌}
use Rattle.numbers.specs.Kit.{Result, Ok, Err, Bool, true, cond, List, [], ℕ, leb, eqb, length, replicate}
use Rattle.machine.specs.declared.Machine.{Machine}
use Rattle.machine.specs.declared.Refusal.TheVariants.{BadArguments, TooManySeals}
use Rattle.machine.specs.declared.Refusal.{Refusal}
use Rattle.machine.specs.Tests.{every}
use Rattle.machine.specs.declared.Reply.{Reply}
use Rattle.machine.specs.Answers.{Answer, Done, reply, is_done, Check, ◌otherwise◌, verdict}
use Rattle.machine.specs.Geometry.{Range, range, permitted, register_bytes}

-- 02, Eight: "one of two rules, 0 as before or 1 halving"
abbrev pub is_rule : ℕ → Bool
is_rule rule = leb rule 1

-- "a seal whose end exceeds 2^64 - 1": this one doesn't
abbrev pub seal_ends : (start size : ℕ) → Bool
seal_ends start size = leb (start + size) (2 ^ 64 - 1)

-- none of these does
abbrev pub seals_end : List Range → Bool
seals_end [] = true
seals_end (r ∷ rs) = seal_ends r.start r.size && seals_end rs

-- 02, Twelve: "none to eight sealed ranges"
abbrev pub most_seals : ℕ
most_seals = 8

-- the ranges that a start is given in numbers, start and length of each in turn
abbrev pub ranges : List ℕ → List Range
ranges [] = []
ranges (start ∷ []) = []
ranges (start ∷ size ∷ rest) = range start size ∷ ranges rest

-- numbers in pairs
abbrev pub paired : List ℕ → Bool
paired numbers = eqb (length numbers % 2) 0

-- "Starting a machine gives 8 for the same RLEN, MLEN and buffer faults, and for a seal whose end exceeds 2^64 - 1", and, 02, Eight,
-- for "an unknown rule", and, 02, Ten, for "an ELEN other than 32 or 64, or not below RLEN": none of these. A range beyond the ninth is
-- tested too; a number too many is no range
unfoldable pub startable : (rlen mlen elen rule : ℕ) → (seals registers marks : List ℕ) → Bool
startable rlen mlen elen rule seals registers marks = every (
    permitted rlen mlen elen
    ∷ eqb (length registers) (register_bytes mlen)
    ∷ eqb (length marks) (register_bytes mlen)
    ∷ is_rule rule
    ∷ paired seals
    ∷ seals_end (ranges seals) ∷ [])

-- the numbers of no machine: what a refused start returns
abbrev pub no_machine : Machine
no_machine = record { rlen = 0; mlen = 0; mtype = 0; tile_m = 0; tile_k = 0; tile_n = 0; rule = 0; elen = 0 }

-- "Starting sets .. all tile sizes and mtype to 0"
abbrev pub fresh_machine : (rlen mlen elen rule : ℕ) → Machine
fresh_machine rlen mlen elen rule = record {
  rlen = rlen;
  mlen = mlen;
  mtype = 0;
  tile_m = 0;
  tile_k = 0;
  tile_n = 0;
  rule = rule;
  elen = elen;
}

-- what a start answers and leaves
pub record StartOutcome : Type 0 where
  pub answer : Reply
  pub machine : Machine
  pub seals : List Range
  pub registers : List ℕ
  pub marks : List ℕ

-- 8, then 16: 02, Twelve: "a ninth range gets 16, at the start too; a range whose end exceeds 2^64 - 1 gets 8, which comes first"
abbrev pub start_checks : (rlen mlen elen rule : ℕ) → (seals registers marks : List ℕ) → List Check
start_checks rlen mlen elen rule seals registers marks =
    (startable rlen mlen elen rule seals registers marks otherwise BadArguments)
    ∷ (leb (length (ranges seals)) most_seals otherwise TooManySeals) ∷ []

-- a start's answer, and the machine; the numbers of no machine where it is refused
pub record Started : Type 0 where
  pub answer : Answer
  pub machine : Machine

abbrev pub started : Result Machine Refusal → Started
started (Ok m) = record { answer = Done; machine = m }
started (Err r) = record { answer = Err r; machine = no_machine }

-- a machine holds the ranges that it is started with, in order of entry; one that is not started holds none
abbrev pub started_as : Started → (seals registers marks : List ℕ) → StartOutcome
started_as r seals registers marks = record {
  answer = reply r.answer;
  machine = r.machine;
  seals = cond (is_done r.answer) (ranges seals) [];
  registers = registers;
  marks = marks;
}

-- "Starting sets every mark to 0 .. and leaves the register bytes as they were lent."
unfoldable pub start_machine : (rlen mlen elen rule : ℕ) → (seals registers marks : List ℕ) → StartOutcome
start_machine rlen mlen elen rule seals registers marks =
    let a : Answer = verdict (start_checks rlen mlen elen rule seals registers marks) in
    cond (is_done a)
    (started_as (record { answer = a; machine = fresh_machine rlen mlen elen rule }) seals registers (replicate (length marks) 0))
    (started_as (record { answer = a; machine = no_machine }) seals registers marks)
