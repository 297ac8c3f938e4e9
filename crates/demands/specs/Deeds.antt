-- What a host can do with a machine, over the definitions, and over the C functions of include/bodlarina.h; what each answers and leaves.
use Rattle.std.specs.Prelude.{◌∷◌}
use Rattle.numbers.specs.Kit.{cond, List, [], ℕ}
use Rattle.numbers.specs.Blocks.{Choice}
use Rattle.machine.specs.Answers.{done}
use Rattle.machine.specs.Geometry.{Range, Bench, bench_of}
use Rattle.machine.specs.declared.Machine.{Machine}
use Rattle.machine.specs.declared.Reply.{Reply}
use Rattle.machine.specs.Starting.{StartOutcome, start_machine}
use Rattle.run.specs.declared.Plan.{Plan}
use Rattle.run.specs.Acts.{Act, Session, session, Acted, act}
use Rattle.image.specs.Writing.{size_image, WriteOutcome, write_image}
use Rattle.image.specs.Reading.{ReadOutcome, read_image}
use Rattle.image_salvage.specs.Salvage.{SalvageOutcome, salvage}
use Rattle.c_image.specs.ImageCalls.{HostWritten, host_image_write}
use Rattle.c_salvage.specs.SalvageCalls.{HostSalvaged, host_salvage}
use Rattle.c_text.specs.TextCalls.{HostText, host_word_text, HostWord, host_text_word}
use Rattle.theorem_calls.specs.Calls.{Buffers, Call, called}

-- ---- over the definitions

-- a machine is started, on the registers and marks that are lent; something is done with it (run/specs/Acts.antt: other scalars, vector file and
-- memory are lent, a word is stepped, a run is started, asked for its next step, takes a turn or n turns, a whole run is made, a range is sealed);
-- its image is sized, written into a lent room, or read; an image is salvaged into a lent room
pub data Deed : Type 0 where
  start : (rlen mlen elen rule : ℕ) → (seals : List ℕ) → Deed
  does : Act → Deed
  image_size : Deed
  image_write : (room : List ℕ) → Deed
  image_read : (image : List ℕ) → Deed
  image_salvage : (image room : List ℕ) → Deed

-- the number of its answer, the turns that it counts, and everything lent or held after it
pub record Deeded : Type 0 where
  pub answer : ℕ
  pub count : ℕ
  pub after : Session
  pub room : List ℕ

abbrev pub deeded : (answer count : ℕ) → Session → List ℕ → Deeded
deeded answer count after room = record { answer = answer; count = count; after = after; room = room }

-- the room that is lent to it
abbrev pub room_of : Deed → List ℕ
room_of (Deed.start rlen mlen elen rule seals) = []
room_of (Deed.does a) = []
room_of Deed.image_size = []
room_of (Deed.image_write room) = room
room_of (Deed.image_read image) = []
room_of (Deed.image_salvage image room) = room

-- a session with another machine, if there is one (a start or a read that is refused makes none), and with these registers and marks
abbrev pub remade : Session → Reply → Machine → List Range → (registers marks : List ℕ) → Session
remade S a m seals registers marks =
    let B : Bench = S.bench in
    session (bench_of (cond (done a) m B.machine) (cond (done a) seals B.seals) registers marks B.memory) S.scalars S.lent S.run

module _ (grant : Choice) where
  abbrev pub deed : Deed → Session → Deeded
  deed (Deed.start rlen mlen elen rule seals) S =
      let o : StartOutcome = start_machine rlen mlen elen rule seals S.bench.registers S.bench.marks in
      deeded o.answer.number 0 (remade S o.answer o.machine o.seals o.registers o.marks) []
  deed (Deed.does a) S = let o : Acted = act grant a S in deeded o.answer.number o.count o.after []
  deed Deed.image_size S =
      deeded (size_image S.bench.machine S.bench.seals S.bench.registers S.bench.marks).answer.number 0 S []
  deed (Deed.image_write room) S =
      let o : WriteOutcome = write_image S.bench.machine S.bench.seals S.bench.registers S.bench.marks room in
      deeded o.answer.number 0 S o.room
  deed (Deed.image_read image) S =
      let o : ReadOutcome = read_image image S.bench.registers S.bench.marks in
      deeded o.answer.number 0 (remade S (record { number = o.answer.number; row = 0; column = 0 }) o.machine o.seals o.registers o.marks) []
  deed (Deed.image_salvage image room) S = let o : SalvageOutcome = salvage image room in deeded o.answer.number 0 S o.room

-- ---- over the C functions

-- those on a machine, runs and images (theorem_calls/specs/Calls.antt, which keeps nothing of the image that bodlarina_image_write leaves);
-- bodlarina_image_write with it, bodlarina_image_salvage, bodlarina_word_text and bodlarina_text_word. The others, bodlarina_version and
-- bodlarina_run_steps, are lent nothing to write to, and give a number that is no answer
pub data HostCall : Type 0 where
  call : Call → HostCall
  image_write : (image : List ℕ) → HostCall
  image_salvage : (image room report : List ℕ) → HostCall
  word_text : (word : ℕ) → (text : List ℕ) → HostCall
  text_word : (text word : List ℕ) → HostCall

-- what a call returns, the host's buffers after it, and whatever else it is lent to write to
pub record Hosted : Type 0 where
  pub result : ℕ
  pub after : Buffers
  pub lent : List (List ℕ)

abbrev pub hosted : ℕ → Buffers → List (List ℕ) → Hosted
hosted result after lent = record { result = result; after = after; lent = lent }

abbrev pub lent_to : HostCall → List (List ℕ)
lent_to (HostCall.call c) = []
lent_to (HostCall.image_write image) = image ∷ []
lent_to (HostCall.image_salvage image room report) = room ∷ report ∷ []
lent_to (HostCall.word_text word text) = text ∷ []
lent_to (HostCall.text_word text word) = word ∷ []

abbrev pub host_called : HostCall → Buffers → Hosted
host_called (HostCall.call c) b = hosted (called c b).result (called c b).after []
host_called (HostCall.image_write image) b =
    let o : HostWritten = host_image_write b.machine b.registers b.marks image in hosted o.result b (o.image ∷ [])
host_called (HostCall.image_salvage image room report) b = let o : HostSalvaged = host_salvage image room report in hosted o.result b (o.room ∷ o.report ∷ [])
host_called (HostCall.word_text word text) b = let o : HostText = host_word_text word text in hosted o.result b (o.text ∷ [])
host_called (HostCall.text_word text word) b = let o : HostWord = host_text_word text word in hosted o.result b (o.word ∷ [])
