-- What a return of the entry point has to show.
use Rattle.std.specs.Prelude.{Ok, Err}
use Rattle.numbers.proofs.Kit.{◌≡◌, refl, ap, ◌∙◌, List, ℕ, length, eq-eqb, ne_eqb}
use Rattle.unit_ranges.specs.Ranges.{block_bytes, put_seals}
use Rattle.image.specs.declared.ImageError.{ImageError}
use Rattle.image.specs.declared.ImageError.TheVariants.{BadArguments, NoRoom, Damaged}
use Rattle.image.specs.Reading.{Verdict, check_image, read_image}
use Rattle.image_header.specs.Fields.{ranges_found}
use Rattle.image_read.specs.declared.Found.{Found}
use Rattle.image_read.specs.Blocks.{restored_as, block_refused, into_block, read_block}
use Rattle.image_read.specs.Parts.{found_as}

module _ (image block registers marks : List ℕ) where
  -- a block of another length
  pub block-short : (v : Verdict) → ¬ (length block ≡ block_bytes) → v ≡ check_image image
      → restored_as (Err (block_refused v)) block registers marks ≡ read_block image block registers marks
  unfolding read_block
  block-short v h ev = rw (ev, ne_eqb (length block) block_bytes h)

  module _ (h : length block ≡ block_bytes) (registers' marks' : List ℕ) where
    whole_block : into_block block (read_image image registers marks) ≡ read_block image block registers marks
    unfolding read_block
    whole_block = rw (eq-eqb (length block) block_bytes h)

    -- a read that is done
    pub block_read : (f : Found) (block' : List ℕ) → found_as (Ok f) image registers' marks' ≡ read_image image registers marks
        → block' ≡ put_seals (ranges_found image f.seals f.seals_at) block → restored_as (Ok f.machine) block' registers' marks' ≡ read_block image block registers marks
    block_read f block' e eb = ap (λ (b : List ℕ). restored_as (Ok f.machine) b registers' marks') eb ∙ ap (into_block block) e ∙ whole_block

    -- one that is refused
    pub block_unread : (e : ImageError) → found_as (Err e) image registers' marks' ≡ read_image image registers marks
        → restored_as (Err e) block registers' marks' ≡ read_block image block registers marks
    block_unread e is = same e ∙ ap (into_block block) is ∙ whole_block
      where
        same : (e : ImageError) → restored_as (Err e) block registers' marks' ≡ into_block block (found_as (Err e) image registers' marks')
        same BadArguments = refl
        same NoRoom = refl
        same (Damaged p) = refl
