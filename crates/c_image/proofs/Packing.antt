-- Nothing of a result is cut.
use Rattle.std.specs.Prelude.{Ok, Err}
use mathlib.Core.Path.{◌≡◌, refl}
use mathlib.Core.Bool.{Bool, true, false, cond}
use mathlib.Core.List.{List, ◌++◌}
use Prim.Native.Nat.{ℕ, ◌^◌, ◌≤◌, ◌<◌}
use native.Mathlib.Omega.{arith}
use lib.Dec.{eqb, leb}
use lib.ListN.{length, drop}
use Rattle.numbers_format.specs.Parser.{Parsed, parse}
use Rattle.numbers_format.specs.Parser.Parsed.{whole, stopped}
use Rattle.machine.specs.declared.Machine.{Machine}
use Rattle.image.specs.declared.ImageError.TheVariants.{BadArguments, NoRoom, Damaged}
use Rattle.image.specs.Answers.{ImageReply, image_reply}
use Rattle.image.specs.Cells.{over, marks_of}
use Rattle.image.specs.Images.{Seals, machine_from, image_of, sound_with}
use Rattle.image.specs.ImageFormat.{Described, image_format}
use Rattle.image.specs.Writing.{SizeOutcome, size_reply, size_image, WriteOutcome, write_reply, write_image}
use Rattle.image.specs.Reading.{verdict_of, check_image, ReadOutcome, restored, cells_in, fitted, read_as, read_image, not_restored}
use Rattle.unit_ranges.specs.Ranges.{seals_in}
use Rattle.image_read.specs.Blocks.{BlockOutcome, restored_as, block_refused, into_block, read_block}
use Rattle.c_blocks.specs.Blocks.{machine_bytes, machine_of}
use Rattle.c_image.specs.ImageCalls.{packed_reply, host_image_size, HostWritten, written_out, host_image_write, host_image_read}
use Rattle.c_image.specs.Theorems.{PacksWhole, ImageSizePacksWhole, ImageWritePacksWhole, ImageReadPacksWhole}
use Rattle.c_image.proofs.Bounds.{most, image-short, Stops, place_short}

-- an answer's number has 16 bits; a length and a place that an image can have
pub record Small (a : ImageReply) (size : ℕ) : Type 0 where
  pub number_small : a.number < 2 ^ 16
  pub size_small : size ≤ most
  pub place-small : a.place ≤ most

pub packs : (a : ImageReply) (size : ℕ) → Small a size → PacksWhole (packed_reply a size) a size
unfolding packed_reply
packs a size h = let v = value (eqb a.number 0) in (omega (arith, h.number_small), omega (arith, h.number_small))
  where
    value : (t : Bool) → cond t size a.place ≤ most
    value true = h.size_small
    value false = h.place-small

refused : Small (image_reply BadArguments) 0
refused = record { number_small = omega arith; size_small = omega arith; place-small = omega arith }

-- ---- sizing and writing

module _ (m : Machine) (seals : Seals) (registers marks : List ℕ) where
  size_small : let o = size_image m seals registers marks in Small o.answer o.size
  unfolding size_image
  size_small = go (sound_with m seals registers marks) refl
    where
      out : Bool → SizeOutcome
      out t = cond t (size_reply (Ok (length (image_of m seals registers marks)))) (size_reply (Err BadArguments))

      go : (t : Bool) → sound_with m seals registers marks ≡ t → Small (out t).answer (out t).size
      go true e = record { number_small = omega arith; size_small = image-short m seals registers marks e; place-small = omega arith }
      go false e = refused

  write-small : (room : List ℕ) → let o = write_image m seals registers marks room in Small o.answer o.size
  unfolding write_image
  write-small room = go (sound_with m seals registers marks) refl (leb (length (image_of m seals registers marks)) (length room))
    where
      image : List ℕ
      image = image_of m seals registers marks

      out : Bool → Bool → WriteOutcome
      out t u = cond t (cond u (write_reply (Ok (length image)) (image ++ drop (length image) room)) (write_reply (Err NoRoom) room)) (write_reply (Err BadArguments) room)

      go : (t : Bool) → sound_with m seals registers marks ≡ t → (u : Bool) → Small (out t u).answer (out t u).size
      go true e true = record { number_small = omega arith; size_small = image-short m seals registers marks e; place-small = omega arith }
      go true e false = record { number_small = omega arith; size_small = omega arith; place-small = omega arith }
      go false e u = refused

pub image-size-packs-whole : ImageSizePacksWhole
unfolding host_image_size
image-size-packs-whole machine registers marks = go (eqb (length machine) machine_bytes)
  where
    o : SizeOutcome
    o = size_image (machine_of machine) (seals_in machine) registers marks

    go : (t : Bool) → let q : SizeOutcome = cond t o (size_reply (Err BadArguments)) in
        PacksWhole (cond t (packed_reply o.answer o.size) (packed_reply (image_reply BadArguments) 0)) q.answer q.size
    go true = packs o.answer o.size (size_small (machine_of machine) (seals_in machine) registers marks)
    go false = packs (image_reply BadArguments) 0 refused

pub image-write-packs-whole : ImageWritePacksWhole
unfolding host_image_write
image-write-packs-whole machine registers marks image = go (eqb (length machine) machine_bytes)
  where
    o : WriteOutcome
    o = write_image (machine_of machine) (seals_in machine) registers marks image

    out : Bool → HostWritten
    out t = cond t (written_out (packed_reply o.answer o.size) o.room) (written_out (packed_reply (image_reply BadArguments) 0) image)

    go : (t : Bool) → let q : WriteOutcome = cond t o (write_reply (Err BadArguments) image) in PacksWhole (out t).result q.answer q.size
    go true = packs o.answer o.size (write-small (machine_of machine) (seals_in machine) registers marks image)
    go false = packs (image_reply BadArguments) 0 refused

-- ---- reading

damaged : (p : ℕ) → p ≤ most → Small (image_reply (Damaged p)) 0
damaged p h = record { number_small = omega arith; size_small = omega arith; place-small = h }

checked-small : (q : Parsed Described) → Stops most q → Small (image_reply (block_refused (verdict_of q))) 0
checked-small (whole d) h = refused
checked-small (stopped p) h = damaged p h

read_small : (q : Parsed Described) (registers marks : List ℕ) → Stops most q → Small (read_as q registers marks).answer 0
read_small (stopped p) registers marks h = damaged p h
read_small (whole d) registers marks h = go (fitted d registers marks)
  where
    out : Bool → ReadOutcome
    out t = cond t (restored (machine_from d.header) d.header.seals (over (cells_in d) registers) (marks_of (cells_in d))) (not_restored BadArguments registers marks)

    go : (t : Bool) → Small (out t).answer 0
    go true = record { number_small = omega arith; size_small = omega arith; place-small = omega arith }
    go false = refused

pub image-read-packs-whole : ImageReadPacksWhole
unfolding host_image_read read_block read_image check_image
image-read-packs-whole image machine registers marks = go (eqb (length machine) machine_bytes)
  where
    q : Parsed Described
    q = parse image_format image

    out : Bool → BlockOutcome
    out t = cond t (into_block machine (read_as q registers marks)) (restored_as (Err (block_refused (verdict_of q))) machine registers marks)

    go : (t : Bool) → PacksWhole (packed_reply (out t).answer 0) (out t).answer 0
    go true = packs (read_as q registers marks).answer 0 (read_small q registers marks (place_short image))
    go false = packs (image_reply (block_refused (verdict_of q))) 0 (checked-small q (place_short image))
