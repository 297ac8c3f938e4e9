-- The hand-over in C: what 02, Six, asks of an image, said of bodlarina_image_write and bodlarina_image_read, and Nine of images after each call;
-- and that nothing of a turn's answer is cut in its result. The proofs stand in proofs/.
use Rattle.std.specs.Prelude.{◌≡◌, true, cond, List, [], ◌∷◌, ◌++◌, ℕ, ◌/◌, ◌%◌, ◌^◌, ◌≤◌, length, take, drop, get_or}
use Rattle.numbers_format.specs.Numbers.{ByteString}
use Rattle.machine.specs.declared.Reply.{Reply}
use Rattle.machine.specs.Answers.{bare}
use Rattle.machine.specs.Faults.{sound_bench}
use Rattle.machine.specs.Alike.{Alike}
use Rattle.machine.specs.Setting.{chosen}
use Rattle.run.specs.Turn.{turn}
use Rattle.c_blocks.specs.Blocks.{machine_bytes, machine_of}
use Rattle.image.specs.Answers.{image_done}
use Rattle.image.specs.Theorems.{image_in, Fits}
use Rattle.c_turn.specs.TurnCalls.{turn_blocks, held_running, host_turn}
use Rattle.c_image.specs.ImageCalls.{packed_reply, HostWritten, written_out, host_image_write}
use Rattle.theorem_calls.specs.Calls.{Buffers, buffers, Call, Called, called, calls}
use Rattle.theorem_calls.specs.Composed.{bench_in}
use Rattle.theorem_powerup_calls.specs.Calls.{AlikeBuffers}

-- ---- reading

-- "Reading leaves unmarked register bytes as lent and makes the machine whose image it is, from which demand 2 holds as from a started one": what
-- an accepted bodlarina_image_read leaves in the buffers
pub record ReadCallMakes (image : List ℕ) (b after : Buffers) : Type 0 where
  pub not-at-fault : sound_bench (bench_in after) ≡ true
  pub its-image : image_in (bench_in after) ≡ image
  pub as_lent : (q : ℕ) → get_or after.marks q 0 ≡ 0 → get_or after.registers q 0 ≡ get_or b.registers q 0
  pub others-stay : after ≡ buffers after.machine after.registers after.marks b.scalars b.memory b.run b.step b.steps b.file

abbrev pub ReadCallMakesItsMachine : Type 0
ReadCallMakesItsMachine = (image : List ℕ) (b : Buffers) → ByteString image → (called (Call.image_read image) b).result ≡ 0
    → ReadCallMakes image b (called (Call.image_read image) b).after

-- ---- there and back

-- what bodlarina_image_write leaves in a room, and how long it says the image is
abbrev pub written_into : List ℕ → Buffers → HostWritten
written_into room b = host_image_write b.machine b.registers b.marks room

abbrev pub image_from : HostWritten → List ℕ
image_from w = take (w.result / 2 ^ 16) w.image

-- a machine that was written, then read into any buffers of its size: the two differ at most in unmarked register bytes
abbrev pub WrittenCallIsReadBack : Type 0
WrittenCallIsReadBack = (b b' : Buffers) (room : List ℕ) → sound_bench (bench_in b) ≡ true → ByteString b.registers → length b.machine ≡ machine_bytes
    → length (image_in (bench_in b)) ≤ length room → length b'.machine ≡ machine_bytes → Fits (machine_of b.machine) b'.registers b'.marks
    → let o : Called = called (Call.image_read (image_from (written_into room b))) b' in
    (o.result ≡ 0) × Alike (bench_in b) (bench_in o.after)

-- a machine that was read is written as the bytes that were read, and the room past them stays
abbrev pub ReadCallIsWrittenBack : Type 0
ReadCallIsWrittenBack = (image room : List ℕ) (b : Buffers) → ByteString image → (called (Call.image_read image) b).result ≡ 0 → length image ≤ length room
    → written_into room (called (Call.image_read image) b).after ≡ written_out (packed_reply image_done (length image)) (image ++ drop (length image) room)

-- ---- images after each call

-- two hosts after each of the same calls: their machines are written alike, into any room
abbrev pub EachSameImage : List Called → List Called → Type 0
EachSameImage [] [] = Unit {0}
EachSameImage [] (o ∷ os) = ⊥
EachSameImage (o ∷ os) [] = ⊥
EachSameImage (o ∷ os) (o' ∷ os') = ((room : List ℕ) → written_into room o.after ≡ written_into room o'.after) × EachSameImage os os'

-- of hosts whose buffers differ at most in unmarked register bytes
abbrev pub ImagesStayEqualOverCalls : Type 0
ImagesStayEqualOverCalls = (cs : List Call) (b b' : Buffers) → AlikeBuffers b b' → EachSameImage (calls cs b) (calls cs b')

-- ---- the result of a turn

-- bits 15..0 of a result are the number, bits 31..16 the row and bits 47..32 the column of the turn's answer, none of them cut; on blocks that do
-- not fit the result is 8
abbrev pub TurnPacksWhole : Type 0
TurnPacksWhole = (run machine registers marks memory : List ℕ)
    → let a : Reply = cond (turn_blocks run machine) (turn chosen (held_running run machine registers marks memory)).answer (bare 8) in
    let r = (host_turn run machine registers marks memory).result in
    (r % 2 ^ 16 ≡ a.number) × (r / 2 ^ 16 % 2 ^ 16 ≡ a.row) × (r / 2 ^ 32 ≡ a.column)
