-- What is proved of these definitions. The proofs stand in proofs/.
use Rattle.std.specs.Prelude.{◌≡◌, true, List, ◌++◌, ◌⊎◌, ℕ, suc, ◌-◌, ◌≤◌, ◌<◌, length, take, drop, get_or}
use Rattle.numbers_format.specs.Numbers.{ByteString}
use Rattle.numbers_format.specs.Formats.{Ends, Accepts}
use Rattle.machine.specs.Geometry.{Bench}
use Rattle.machine.specs.Faults.{sound_bench}
use Rattle.image.specs.declared.ImageError.TheVariants.{NoRoom, Damaged}
use Rattle.image.specs.Answers.{image_reply, image_done}
use Rattle.image.specs.Cells.{cells_of, runs}
use Rattle.image.specs.Images.{runs_bytes, spelled, IsImage}
use Rattle.image.specs.ImageFormat.{Described, image_format}
use Rattle.image.specs.Reading.{ReadOutcome, read_image}
use Rattle.image.specs.Theorems.{image_in, Fits}
use Rattle.image_salvage.specs.Salvage.{salvaged, salvage}

-- ---- the place

-- "that place (the length if there is no fault)", "the fault as in Six": of every salvage, refused or not
abbrev pub PlaceAsInSix : Type 0
PlaceAsInSix = (s room : List ℕ) → ByteString s → Ends IsImage s (salvage s room).place

-- ---- what is kept

-- where the header of an image ends (n is 0), and where its first n runs do
abbrev pub end_of : Described → ℕ → ℕ
end_of d n = length (spelled d.header d.body) - length (runs_bytes (drop n d.body))

-- "a fresh image of what is kept, as Six writes": of its first n runs
abbrev pub fresh_of : Described → ℕ → List ℕ
fresh_of d n = spelled d.header (take n d.body)

-- "keeps the header (up to and with the number of runs) and every run that ends before the place of the fault": of the image d its first n runs,
-- those that end before the place p. "no room 14"
pub record KeepsFirst (s room : List ℕ) (p : ℕ) (d : Described) (n : ℕ) : Type 0 where
  pub there : n ≤ length d.body
  pub end_before : end_of d n ≤ p
  pub no_other : n < length d.body → p < end_of d (suc n)
  pub nought : length (fresh_of d n) ≤ length room
      → salvage s room ≡ salvaged image_done n (length d.body) p (length (fresh_of d n)) (fresh_of d n ++ drop (length (fresh_of d n)) room)
  pub fourteen : length room < length (fresh_of d n) → salvage s room ≡ salvaged (image_reply NoRoom) 0 0 p 0 room

-- of every input, by every image d that goes on from its place: "a bad header gets 15", where the header ends behind the place, and else that
-- is kept
abbrev pub SalvageIsExact : Type 0
SalvageIsExact = (s room : List ℕ) → ByteString s → let p = (salvage s room).place in (u : List ℕ) (d : Described) → Accepts image_format (take p s ++ u) d
    → ((p < end_of d 0) × (salvage s room ≡ salvaged (image_reply (Damaged p)) 0 0 p 0 room)) ⊎ ((n : ℕ) × KeepsFirst s room p d n)

-- "It writes a fresh image": what is written is an image, and the room past it stays
abbrev pub FreshIsImage : Type 0
FreshIsImage = (s room : List ℕ) → ByteString s → let o = salvage s room in o.answer.number ≡ 0
    → IsImage (take o.size o.room) × (drop o.size o.room ≡ drop o.size room)

-- a room as long as the input is enough
abbrev pub EnoughRoom : Type 0
EnoughRoom = (s room : List ℕ) → ByteString s → length s ≤ length room → ¬ ((salvage s room).answer.number ≡ 14)

-- ---- a sound image, and one that is cut

-- "a sound image comes out unchanged", all its runs kept
abbrev pub SoundUnchanged : Type 0
SoundUnchanged = (s room : List ℕ) (i : IsImage s) → length s ≤ length room
    → let n = length (runs (cells_of i.registers i.marks)) in salvage s room ≡ salvaged image_done n n (length s) (length s) (s ++ drop (length s) room)

-- a machine that differs from another at most in marks taken away
pub record FewerMarks (B : Bench) (o : ReadOutcome) : Type 0 where
  pub nought : o.answer ≡ image_done
  pub same-machine : o.machine ≡ B.machine
  pub same-seals : o.seals ≡ B.seals
  pub same_bytes : (q : ℕ) → get_or o.marks q 0 ≡ 1 → (get_or B.marks q 0 ≡ 1) × (get_or o.registers q 0 ≡ get_or B.registers q 0)

-- "The kept bytes equal those of the machine whose image it was, if the damage is only a cut at the end": what is written of the first c bytes
-- of a machine's image, read into any buffers of that machine's size
abbrev pub CutKeepsBytes : Type 0
CutKeepsBytes = (B : Bench) (c : ℕ) (room registers marks : List ℕ) → sound_bench B ≡ true → ByteString B.registers → Fits B.machine registers marks
    → let o = salvage (take c (image_in B)) room in o.answer.number ≡ 0 → FewerMarks B (read_image (take o.size o.room) registers marks)

-- and the place is the length
abbrev pub CutPlace : Type 0
CutPlace = (B : Bench) (c : ℕ) (room : List ℕ) → sound_bench B ≡ true → ByteString B.registers
    → (salvage (take c (image_in B)) room).place ≡ length (take c (image_in B))

-- ---- refusals

-- "each with that place and counts of 0"; a refusal changes nothing
abbrev pub SalvageRefusalChangesNothing : Type 0
SalvageRefusalChangesNothing = (s room : List ℕ) → let o = salvage s room in ¬ (o.answer.number ≡ 0)
    → (o.kept ≡ 0) × (o.announced ≡ 0) × (o.size ≡ 0) × (o.room ≡ room)
