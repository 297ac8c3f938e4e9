-- A host's buffers, the calls that it makes of the C functions on machines, runs and images (include/bodlarina.h), what it does between
-- them, and what each leaves.
use Rattle.std.specs.Prelude.{◌∷◌}
use Rattle.numbers.specs.Kit.{List, [], ℕ}
use Rattle.run.specs.declared.Plan.{Plan}
use Rattle.c_step.specs.BenchCalls.{HostStarted, host_start, HostStepped, host_step, HostSealed, host_seal}
use Rattle.c_run.specs.RunCalls.{HostRunStarted, host_run_start, HostNext, host_next}
use Rattle.c_turn.specs.TurnCalls.{HostTurned, host_turn, host_turns, HostRan, host_run}
use Rattle.c_image.specs.ImageCalls.{host_image_size, host_image_write, HostRead, host_image_read}

-- ---- buffers

pub record Buffers : Type 0 where
  pub machine : List ℕ
  pub registers : List ℕ
  pub marks : List ℕ
  pub scalars : List ℕ
  pub memory : List ℕ
  pub run : List ℕ
  pub step : List ℕ
  pub steps : List ℕ
  pub file : List ℕ

abbrev pub buffers : (machine registers marks scalars memory run step steps file : List ℕ) → Buffers
buffers machine registers marks scalars memory run step steps file = record {
  machine = machine;
  registers = registers;
  marks = marks;
  scalars = scalars;
  memory = memory;
  run = run;
  step = step;
  steps = steps;
  file = file;
}

-- ---- calls

-- bodlarina_start, bodlarina_step, bodlarina_seal, bodlarina_run_start, bodlarina_run_next, bodlarina_run_turn, bodlarina_run_turns and bodlarina_run;
-- bodlarina_image_size, bodlarina_image_write and bodlarina_image_read, where the lent image is an argument of the call: it is none of the
-- buffers above, and of what bodlarina_image_write leaves in it a list of calls keeps nothing (c_image/specs/ImageCalls.antt has it);
-- and between them the host writes its buffers, all but registers and marks, as it likes
pub data Call : Type 0 where
  start : (rlen mlen elen rule : ℕ) → (seals : List ℕ) → Call
  step : (word group : ℕ) → Call
  seal : (from size : ℕ) → Call
  run_start : Plan → Call
  run_next : Call
  run_turn : Call
  run_turns : (limit : ℕ) → Call
  run : Plan → Call
  image_size : Call
  image_write : (image : List ℕ) → Call
  image_read : (image : List ℕ) → Call
  write : Buffers → Call

-- what a call returns, and the buffers after it
pub record Called : Type 0 where
  pub result : ℕ
  pub after : Buffers

-- a call leaves every buffer that it is not lent
abbrev pub after_start : Buffers → HostStarted → Called
after_start b o = record {
  result = o.result;
  after = buffers o.machine o.registers o.marks b.scalars b.memory b.run b.step b.steps b.file;
}

abbrev pub after_step : Buffers → HostStepped → Called
after_step b o = record {
  result = o.result;
  after = buffers o.machine o.registers o.marks o.scalars o.memory b.run b.step b.steps o.file;
}

abbrev pub after_seal : Buffers → HostSealed → Called
after_seal b o = record {
  result = o.result;
  after = buffers o.machine o.registers o.marks b.scalars b.memory b.run b.step b.steps b.file;
}

abbrev pub after_run_start : Buffers → HostRunStarted → Called
after_run_start b o = record {
  result = o.result;
  after = buffers o.machine o.registers o.marks b.scalars o.memory o.run b.step b.steps b.file;
}

abbrev pub after_next : Buffers → HostNext → Called
after_next b o = record {
  result = o.result;
  after = buffers b.machine b.registers b.marks b.scalars b.memory o.run o.step b.steps b.file;
}

abbrev pub after_turn : Buffers → HostTurned → Called
after_turn b o = record {
  result = o.result;
  after = buffers o.machine o.registers o.marks b.scalars o.memory o.run b.step b.steps b.file;
}

abbrev pub after_run : Buffers → HostRan → Called
after_run b o = record {
  result = o.result;
  after = buffers o.machine o.registers o.marks b.scalars o.memory b.run b.step o.steps b.file;
}

abbrev pub after_read : Buffers → HostRead → Called
after_read b o = record {
  result = o.result;
  after = buffers o.machine o.registers o.marks b.scalars b.memory b.run b.step b.steps b.file;
}

abbrev pub called : Call → Buffers → Called
called (Call.start rlen mlen elen rule seals) b = after_start b (host_start rlen mlen elen rule seals b.machine b.registers b.marks)
called (Call.step word group) b = after_step b (host_step word group b.machine b.registers b.marks b.scalars b.memory b.file)
called (Call.seal from size) b = after_seal b (host_seal from size b.machine b.registers b.marks)
called (Call.run_start P) b = after_run_start b (host_run_start P b.machine b.registers b.marks b.memory b.run)
called Call.run_next b = after_next b (host_next b.run b.step)
called Call.run_turn b = after_turn b (host_turn b.run b.machine b.registers b.marks b.memory)
called (Call.run_turns limit) b = after_turn b (host_turns limit b.run b.machine b.registers b.marks b.memory)
called (Call.run P) b = after_run b (host_run P b.machine b.registers b.marks b.memory b.steps)
called Call.image_size b = record { result = host_image_size b.machine b.registers b.marks; after = b }
called (Call.image_write image) b = record { result = (host_image_write b.machine b.registers b.marks image).result; after = b }
called (Call.image_read image) b = after_read b (host_image_read image b.machine b.registers b.marks)
called (Call.write w) b = record {
  result = 0;
  after = buffers w.machine b.registers b.marks w.scalars w.memory w.run w.step w.steps w.file;
}

-- one call after another
abbrev pub calls : List Call → Buffers → List Called
calls [] b = []
calls (c ∷ cs) b = let o : Called = called c b in o ∷ calls cs o.after
