-- What each return of a function on images has to show.
use Rattle.std.specs.Prelude.{Result, Ok, Err}
use mathlib.Core.Path.{◌≡◌, refl, sym, ap, ap₂, ◌∙◌}
use mathlib.Core.Bool.{Bool, true, false, cond}
use mathlib.Core.List.{List}
use Prim.Native.Nat.{ℕ, ◌+◌, ◌*◌, ◌%◌, ◌^◌}
use native.Mathlib.Omega.{arith}
use lib.Dec.{eqb}
use lib.ListN.{length}
use borrow.Author.Tests.{eq-eqb, ne_eqb, eqb-true}
use Rattle.machine.specs.declared.Machine.{Machine}
use Rattle.image.specs.declared.ImageError.{ImageError}
use Rattle.image.specs.declared.ImageError.TheVariants.{BadArguments, NoRoom, Damaged}
use Rattle.image.specs.Answers.{image_reply, image_done}
use Rattle.image.specs.Writing.{SizeOutcome, size_reply, size_image, WriteOutcome, write_reply, write_image}
use Rattle.unit_ranges.specs.Ranges.{seals_in}
use Rattle.image_read.specs.Blocks.{BlockOutcome, restored_as, block_refused, into_block, read_block}
use Rattle.image.specs.Reading.{check_image, read_image}
use Rattle.c_blocks.specs.Blocks.{machine_bytes, machine_of, put_machine}
use Rattle.c_image.specs.ImageCalls.{packed_reply, host_image_size, written_out, host_image_write, read_out, shown_read, host_image_read}

-- ---- results

module _ (reply : Result ℕ ImageError) where
  abbrev packed : ℕ
  packed = packed_reply (size_reply reply).answer (size_reply reply).size

  pub packs-done : (size : ℕ) → reply ≡ Ok size → size % 2 ^ 48 * 2 ^ 16 ≡ packed
  unfolding packed_reply
  packs-done size e = rw e (omega arith)

  pub packs-refused : (e : ImageError) → reply ≡ Err e → packed_reply (image_reply e) 0 ≡ packed
  packs-refused e is = rw is

module _ (e : ImageError) where
  pub packs-arguments : e ≡ BadArguments → 8 ≡ packed_reply (image_reply e) 0
  unfolding packed_reply
  packs-arguments is = rw is

  pub packs-room : e ≡ NoRoom → 14 ≡ packed_reply (image_reply e) 0
  unfolding packed_reply
  packs-room is = rw is

  pub packs-place : (p : ℕ) → e ≡ Damaged p → 15 + p % 2 ^ 48 * 2 ^ 16 ≡ packed_reply (image_reply e) 0
  unfolding packed_reply
  packs-place p is = rw is

-- ---- sizing and writing

-- what is returned of a length is as of a size
shown_written : (s : Result ℕ ImageError) (room : List ℕ) → written_out (packed_reply (size_reply s).answer (size_reply s).size) room ≡ (let o = write_reply s room in written_out (packed_reply o.answer o.size) o.room)
shown_written (Ok n) room = refl
shown_written (Err e) room = refl

module _ (machine registers marks : List ℕ) where
  -- a block of another length
  pub size-short : (r : ℕ) → ¬ (length machine ≡ machine_bytes) → r ≡ packed_reply (image_reply BadArguments) 0 → r ≡ host_image_size machine registers marks
  unfolding host_image_size
  size-short r h er = rw (er, ne_eqb (length machine) machine_bytes h)

  pub size-shown : (m : Machine) (s : Result ℕ ImageError) (r : ℕ) → length machine ≡ machine_bytes → m ≡ machine_of machine → size_reply s ≡ size_image m (seals_in machine) registers marks
      → r ≡ packed_reply (size_reply s).answer (size_reply s).size → r ≡ host_image_size machine registers marks
  unfolding host_image_size
  size-shown m s r h em e er =
      er ∙ ap (λ (o : SizeOutcome). packed_reply o.answer o.size) (e ∙ ap (λ (x : Machine). size_image x (seals_in machine) registers marks) em)
      ∙ ap (λ (t : Bool). cond t (packed_reply (size_image (machine_of machine) (seals_in machine) registers marks).answer (size_image (machine_of machine) (seals_in machine) registers marks).size) (packed_reply (image_reply BadArguments) 0))
      (sym (eq-eqb (length machine) machine_bytes h))

  pub write-short : (image : List ℕ) (r : ℕ) → ¬ (length machine ≡ machine_bytes) → r ≡ packed_reply (image_reply BadArguments) 0 → written_out r image ≡ host_image_write machine registers marks image
  unfolding host_image_write
  write-short image r h er = rw (er, ne_eqb (length machine) machine_bytes h)

  pub write-shown : (image image' : List ℕ) (m : Machine) (s : Result ℕ ImageError) (r : ℕ) → length machine ≡ machine_bytes → m ≡ machine_of machine → write_reply s image' ≡ write_image m (seals_in machine) registers marks image
      → r ≡ packed_reply (size_reply s).answer (size_reply s).size → written_out r image' ≡ host_image_write machine registers marks image
  unfolding host_image_write
  write-shown image image' m s r h em e er =
      ap (λ (x : ℕ). written_out x image') er ∙ shown_written s image'
      ∙ ap (λ (o : WriteOutcome). written_out (packed_reply o.answer o.size) o.room) (e ∙ ap (λ (x : Machine). write_image x (seals_in machine) registers marks image) em)
      ∙ ap (λ (t : Bool). cond t (written_out (packed_reply (write_image (machine_of machine) (seals_in machine) registers marks image).answer (write_image (machine_of machine) (seals_in machine) registers marks image).size) (write_image (machine_of machine) (seals_in machine) registers marks image).room) (written_out (packed_reply (image_reply BadArguments) 0) image))
      (sym (eq-eqb (length machine) machine_bytes h))

-- ---- reading

-- a refusal has a number
refused-number : (e : ImageError) → (image_reply e).number ≡ 0 → ⊥
refused-number BadArguments h = absurd (omega (arith, h))
refused-number NoRoom h = absurd (omega (arith, h))
refused-number (Damaged p) h = absurd (omega (arith, h))

module _ (image machine registers marks : List ℕ) where
  -- what a read that is done has answered and left, with the machine's numbers written
  pub read-shown : (m : Machine) (B M R K : List ℕ) (r : ℕ) → restored_as (Ok m) B R K ≡ read_block image machine registers marks
      → M ≡ put_machine m B → r ≡ packed_reply image_done 0 → read_out r M R K ≡ host_image_read image machine registers marks
  unfolding host_image_read
  read-shown m B M R K r e em er = ap₂ (λ (x : ℕ) (y : List ℕ). read_out x y R K) er em ∙ ap shown_read e

  -- and one that is refused
  pub read-refused : (x : ImageError) (B R K : List ℕ) (r : ℕ) → restored_as (Err x) B R K ≡ read_block image machine registers marks
      → r ≡ packed_reply (image_reply x) 0 → read_out r B R K ≡ host_image_read image machine registers marks
  unfolding host_image_read
  read-refused x B R K r e er = ap (λ (y : ℕ). read_out y B R K) er ∙ kept x ∙ ap shown_read e
    where
      kept : (x : ImageError) → read_out (packed_reply (image_reply x) 0) B R K ≡ shown_read (restored_as (Err x) B R K)
      kept BadArguments = refl
      kept NoRoom = refl
      kept (Damaged p) = refl

  -- one that is done was into a block of the right length
  pub read-long : (m : Machine) (B R K : List ℕ) → restored_as (Ok m) B R K ≡ read_block image machine registers marks → length machine ≡ machine_bytes
  unfolding read_block
  read-long m B R K e = go (eqb (length machine) machine_bytes) refl e
    where
      out : Bool → BlockOutcome
      out t = cond t (into_block machine (read_image image registers marks)) (restored_as (Err (block_refused (check_image image))) machine registers marks)

      go : (t : Bool) → eqb (length machine) machine_bytes ≡ t → restored_as (Ok m) B R K ≡ out t → length machine ≡ machine_bytes
      go true h e = eqb-true (length machine) machine_bytes h
      go false h e = absurd (refused-number (block_refused (check_image image)) (sym (ap (λ (o : BlockOutcome). o.answer.number) e)))
