-- Request Nine, for the customer: "how we know that no reading can come from an unwritten register". Two machines are started with the
-- same numbers, on the same memory, scalars and vector file. Whatever their registers and marks held at power-up, what is done with them
-- after that reads the same on both: no reading depends on a register byte that no word wrote since the start.
use Rattle.std.specs.Prelude.{◌≡◌, ◌∷◌}
use Rattle.numbers.specs.Kit.{List, [], Option, ℕ, length}
use Rattle.numbers.specs.Blocks.{Choice}
use Rattle.machine.specs.declared.Machine.{Machine}
use Rattle.machine.specs.declared.Reply.{Reply}
use Rattle.machine.specs.Geometry.{Range}
use Rattle.machine.specs.Vectors.{Vectors}
use Rattle.machine.specs.Starting.{start_machine}
use Rattle.machine.specs.Theorems.{started_bench}
use Rattle.run.specs.declared.Run.{Run}
use Rattle.run.specs.declared.Handed.{Handed}
use Rattle.run.specs.Acts.{Act, Session, session, Acted, act}
use Rattle.theorem_powerup.specs.Steps.{AlikeBenches}

-- ---- two starts

-- two machines as accepted starts leave them differ at most in unmarked register bytes: every mark is 0
abbrev pub StartsAlike : Type 0
StartsAlike = (rlen mlen elen rule : ℕ) (seals registers registers' marks marks' memory : List ℕ)
    → (start_machine rlen mlen elen rule seals registers marks).answer.number ≡ 0
    → (start_machine rlen mlen elen rule seals registers' marks').answer.number ≡ 0
    → AlikeBenches (started_bench rlen mlen elen rule seals registers marks memory) (started_bench rlen mlen elen rule seals registers' marks' memory)

-- ---- what can be read after an act

-- everything but the register bytes; of those, the marked ones are equal too (`Steps`, `Runs`)
pub record Reading : Type 0 where
  pub answer : Reply
  pub handed : Option Handed
  pub count : ℕ
  pub memory : List ℕ
  pub scalars : List ℕ
  pub lent : Vectors
  pub run : Run
  pub machine : Machine
  pub seals : List Range
  pub marks : List ℕ

abbrev pub reading : Acted → Reading
reading a = record {
  answer = a.answer;
  handed = a.handed;
  count = a.count;
  memory = a.after.bench.memory;
  scalars = a.after.scalars;
  lent = a.after.lent;
  run = a.after.run;
  machine = a.after.bench.machine;
  seals = a.after.bench.seals;
  marks = a.after.bench.marks;
}

-- after each act, refused ones included
abbrev pub readings : Choice → List Act → Session → List Reading
readings grant [] S = []
readings grant (a ∷ acts) S = let o : Acted = act grant a S in reading o ∷ readings grant acts o.after

-- ---- the customer's sentence

-- Registers and marks of the same sizes, whatever they held at power-up: both starts answer the same, and where they are accepted, the
-- same acts on the same memory, scalars and vector file give the same readings after each; R is whatever run was there before
abbrev pub PowerUpNeverMatters : Type 0
PowerUpNeverMatters = (grant : Choice) (rlen mlen elen rule : ℕ) (seals registers registers' marks marks' : List ℕ)
    → length registers ≡ length registers' → length marks ≡ length marks'
    → ((start_machine rlen mlen elen rule seals registers marks).answer ≡ (start_machine rlen mlen elen rule seals registers' marks').answer)
    × ((start_machine rlen mlen elen rule seals registers marks).answer.number ≡ 0 → (acts : List Act) (memory scalars : List ℕ) (W : Vectors) (R : Run)
    → readings grant acts (session (started_bench rlen mlen elen rule seals registers marks memory) scalars W R)
    ≡ readings grant acts (session (started_bench rlen mlen elen rule seals registers' marks' memory) scalars W R))
