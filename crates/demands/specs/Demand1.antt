-- Demand 1: every word, scalar, memory size and state gets an answer, and a refusal changes nothing.
use Rattle.std.specs.Prelude.{◌≡◌, ◌%◌, ◌^◌, ◌≤◌, ◌<◌}
use Rattle.numbers.specs.Kit.{false, List, ℕ}
use Rattle.numbers.specs.Blocks.{Choice}
use Rattle.c_blocks.specs.Blocks.{Bytes}
use Rattle.machine.specs.Faults.{sound_bench}
use Rattle.run.specs.Acts.{Act, Session}
use Rattle.run.specs.Turn.{Running, running, turn, after_turns, turns}
use Rattle.theorem_calls.specs.Calls.{Buffers, Call, called}
use Rattle.theorem_calls.specs.Composed.{after_calls, turn_calls}
use Rattle.demands.specs.Deeds.{Deed, Deeded, room_of, deed, HostCall, Hosted, lent_to, host_called}

-- the table of answers ends with 17: 01 has 0 to 9, 02 10 to 17
abbrev pub last_answer : ℕ
last_answer = 17

-- ---- over the definitions

-- Turns in number are counted and not answered. The count says which were answered 0: the first so many, and what is left is what these leave.
-- Below the number asked it says that the next turn, too, is refused, which then answers why: a faulty state is told so
pub record Counted (grant : Choice) (r : Running) (n : ℕ) : Type 0 where
  pub at_most : (turns grant r n).count ≤ n
  pub accepted : (t : ℕ) → t < (turns grant r n).count → (turn grant (after_turns grant r t)).answer.number ≡ 0
  pub left : (turns grant r n).after ≡ after_turns grant r (turns grant r n).count
  pub refused : (turns grant r n).count < n → ¬ ((turn grant (turns grant r n).after).answer.number ≡ 0)
  pub faulty : sound_bench r.bench ≡ false → ((turns grant r n).count ≡ 0) × ((turn grant r).answer.number ≡ 8)

-- "gets an answer": a number of the table; "A refusal changes nothing lent or held": neither machine, ranges, registers, marks, memory, scalars,
-- vector file and run, nor the room for an image; and it takes no turn that is answered 0. Turns in number: as above
pub record Answers (grant : Choice) (d : Deed) (S : Session) (o : Deeded) : Type 0 where
  pub number : o.answer ≤ last_answer
  pub refusal : ¬ (o.answer ≡ 0) → (o.after ≡ S) × (o.room ≡ room_of d) × (o.count ≡ 0)
  pub counted : (n : ℕ) → d ≡ Deed.does (Act.run_turns n) → Counted grant (running S.run S.bench) n

-- for every choice of sizes, whatever is done, with whatever is held and lent
abbrev pub EveryDeedAnswers : Type 0
EveryDeedAnswers = (grant : Choice) (d : Deed) (S : Session) → Answers grant d S (deed grant d S)

-- ---- over the C functions

-- bits 15..0 of a result are the answer's number; a refusal changes no byte of any buffer
pub record CallAnswers (c : HostCall) (b : Buffers) (o : Hosted) : Type 0 where
  pub number : o.result % 2 ^ 16 ≤ last_answer
  pub refusal : ¬ (o.result % 2 ^ 16 ≡ 0) → (o.after ≡ b) × (o.lent ≡ lent_to c)

-- the host's blocks are bytes, as everything lent in C is
pub record InBytes (b : Buffers) : Type 0 where
  pub machine : Bytes b.machine
  pub scalars : Bytes b.scalars
  pub run : Bytes b.run

-- bodlarina_run_turns counts: it leaves what so many calls of bodlarina_run_turn leave; below its limit the next one answers why it stopped, and
-- changes no byte
pub record CallCounted (limit : ℕ) (b : Buffers) : Type 0 where
  pub at_most : (called (Call.run_turns limit) b).result ≤ limit
  pub left : (called (Call.run_turns limit) b).after ≡ after_calls (turn_calls (called (Call.run_turns limit) b).result) b
  pub refused : (called (Call.run_turns limit) b).result < limit
      → let after : Buffers = (called (Call.run_turns limit) b).after in
      ¬ ((called Call.run_turn after).result ≡ 0) × ((called Call.run_turn after).after ≡ after)

-- for every call but that, every argument, and every buffer of any length
pub record EveryCallAnswers : Type 0 where
  pub answers : (c : HostCall) (b : Buffers) → InBytes b → ((limit : ℕ) → ¬ (c ≡ HostCall.call (Call.run_turns limit))) → CallAnswers c b (host_called c b)
  pub counts : (limit : ℕ) (b : Buffers) → InBytes b → CallCounted limit b

-- ---- the demand

pub record Demand1 : Type 0 where
  pub deeds : EveryDeedAnswers
  pub in_c : EveryCallAnswers
