-- What a call of bodlarina_image_salvage answers and leaves (include/bodlarina.h).
use Rattle.std.specs.Prelude.{◌∷◌}
use Rattle.numbers.specs.Kit.{cond, List, [], ℕ, eqb, length}
use Rattle.c_blocks.specs.Blocks.{put_numbers}
use Rattle.c_image.specs.ImageCalls.{packed_reply}
use Rattle.image_salvage.specs.Salvage.{SalvageOutcome, salvage}

-- "reports the runs kept, the runs announced and that place": three numbers of 64 bits, low byte first
abbrev pub report_bytes : ℕ
report_bytes = 24

-- a result packs answer | value << 16, as those of images: the length of the fresh image where the call is done, and else the place
abbrev pub packed_salvage : (answer place size : ℕ) → ℕ
packed_salvage answer place size = packed_reply (record { number = answer; place = place }) size

pub record HostSalvaged : Type 0 where
  pub result : ℕ
  pub room : List ℕ
  pub report : List ℕ

abbrev pub salvaged_out : ℕ → (room report : List ℕ) → HostSalvaged
salvaged_out result room report = record { result = result; room = room; report = report }

-- a salvage as the host sees it: where it is done, the report is written; refused, its result has the place, and no byte changes
abbrev pub shown_salvage : List ℕ → SalvageOutcome → HostSalvaged
shown_salvage report o =
    salvaged_out (packed_salvage o.answer.number o.place o.size) o.room
    (cond (eqb o.answer.number 0) (put_numbers (o.kept ∷ o.announced ∷ o.place ∷ []) report) report)

-- a report's block of the wrong length is refused with 8, which comes first
unfoldable pub host_salvage : (image room report : List ℕ) → HostSalvaged
host_salvage image room report =
    cond (eqb (length report) report_bytes) (shown_salvage report (salvage image room)) (salvaged_out (packed_salvage 8 0 0) room report)
