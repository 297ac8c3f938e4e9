-- A refusal changes no byte of any buffer.
use Rattle.std.specs.Prelude.{Err}
use mathlib.Core.Path.{◌≡◌, refl, ap, ap₂, ◌∙◌}
use mathlib.Core.Bool.{Bool, true, false, cond}
use mathlib.Core.List.{List}
use Prim.Native.Nat.{ℕ, ◌%◌, ◌^◌}
use native.Mathlib.Omega.{arith}
use lib.Dec.{eqb}
use lib.ListN.{length}
use borrow.Author.Tests.{eqb-true, ne_eqb}
use Rattle.image.specs.declared.ImageError.TheVariants.{BadArguments}
use Rattle.image.specs.Answers.{ImageReply, image_reply}
use Rattle.image.specs.Writing.{WriteOutcome, write_image}
use Rattle.image.specs.Reading.{check_image, ReadOutcome, read_image}
use Rattle.image.proofs.Images.{read-refusal, write-refusal}
use Rattle.unit_ranges.specs.Ranges.{seals_in, put_seals}
use Rattle.machine.specs.declared.Machine.{Machine}
use Rattle.machine.specs.Starting.{no_machine}
use Rattle.image_read.specs.Blocks.{BlockOutcome, restored_as, block_refused, into_block, read_block}
use Rattle.c_blocks.specs.Blocks.{machine_bytes, machine_of, put_machine}
use Rattle.c_image.specs.ImageCalls.{packed_reply, HostWritten, written_out, host_image_write, read_out, shown_read, host_image_read}
use Rattle.c_image.specs.Theorems.{ImageWriteRefusalChangesNoByte, ImageReadRefusalChangesNoByte}

-- answer 0 packs as 0 in bits 15..0
packs-nought : (a : ImageReply) (size : ℕ) → a.number ≡ 0 → packed_reply a size % 2 ^ 16 ≡ 0
unfolding packed_reply
packs-nought a size e = omega (arith, e)

pub image-write-refusal : ImageWriteRefusalChangesNoByte
unfolding host_image_write
image-write-refusal machine registers marks image = go (eqb (length machine) machine_bytes)
  where
    o : WriteOutcome
    o = write_image (machine_of machine) (seals_in machine) registers marks image

    out : Bool → HostWritten
    out t = cond t (written_out (packed_reply o.answer o.size) o.room) (written_out (packed_reply (image_reply BadArguments) 0) image)

    go : (t : Bool) → ¬ ((out t).result % 2 ^ 16 ≡ 0) → out t ≡ written_out (out t).result image
    go true h = ap (written_out (packed_reply o.answer o.size)) (write-refusal (machine_of machine) (seals_in machine) registers marks image (λ e. h (packs-nought o.answer o.size e))).1
    go false h = refl

pub image-read-refusal : ImageReadRefusalChangesNoByte
unfolding host_image_read read_block
image-read-refusal image machine registers marks = go (eqb (length machine) machine_bytes)
  where
    o : ReadOutcome
    o = read_image image registers marks

    out : Bool → BlockOutcome
    out t = cond t (into_block machine o) (restored_as (Err (block_refused (check_image image))) machine registers marks)

    -- a refused read leaves the block, by its number
    kept : (n : ℕ) → ¬ (n ≡ 0) → (x : List ℕ) (m : Machine) → cond (eqb n 0) (put_machine m (cond (eqb n 0) x machine)) (cond (eqb n 0) x machine) ≡ machine
    kept n h x m = rw (ne_eqb n 0 h)

    go : (t : Bool) → ¬ ((shown_read (out t)).result % 2 ^ 16 ≡ 0) → shown_read (out t) ≡ read_out (shown_read (out t)).result machine registers marks
    go true h =
        let n : ¬ (o.answer.number ≡ 0) = λ e. h (packs-nought o.answer 0 e) in
        let k = read-refusal image registers marks n in
        ap₂ (λ (x y : List ℕ). read_out (packed_reply o.answer 0) (shown_read (into_block machine o)).machine x y) k.0 k.1
        ∙ ap (λ (x : List ℕ). read_out (packed_reply o.answer 0) x registers marks) (kept o.answer.number n (put_seals o.seals machine) o.machine)
    go false h =
        let a : ImageReply = image_reply (block_refused (check_image image)) in
        ap (λ (x : List ℕ). read_out (packed_reply a 0) x registers marks) (short (eqb a.number 0) (λ e. h (packs-nought a 0 e)) refl)
      where
        short : (t : Bool) → ¬ ((image_reply (block_refused (check_image image))).number ≡ 0) → eqb (image_reply (block_refused (check_image image))).number 0 ≡ t
            → cond t (put_machine no_machine machine) machine ≡ machine
        short true h e = absurd (h (eqb-true (image_reply (block_refused (check_image image))).number 0 e))
        short false h e = refl
