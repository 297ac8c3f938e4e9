-- What is proved of these definitions. The proofs stand in proofs/.
use Rattle.std.specs.Prelude.{◌≡◌, ◌*◌, ◌%◌, ◌^◌}
use Rattle.numbers.specs.Kit.{cond, List, ℕ, eqb, length}
use Rattle.numbers.specs.Tile.{get_le}
use Rattle.numbers_format.specs.Numbers.{ByteString}
use Rattle.image.specs.declared.ImageError.TheVariants.{BadArguments}
use Rattle.c_image.specs.Theorems.{PacksWhole}
use Rattle.image_salvage.specs.Salvage.{SalvageOutcome, salvaged, salvage}
use Rattle.image.specs.Answers.{image_reply}
use Rattle.c_salvage.specs.SalvageCalls.{report_bytes, salvaged_out, host_salvage}

-- "A refusal changes no byte of any buffer." A refusal: an answer, in bits 15..0, that is not 0
abbrev pub SalvageRefusalChangesNoByte : Type 0
SalvageRefusalChangesNoByte = (image room report : List ℕ) → let o = host_salvage image room report in
    ¬ (o.result % 2 ^ 16 ≡ 0) → o ≡ salvaged_out o.result room report

-- Bits 15..0 of a result are the answer's number, bits 63..16 the length of the fresh image where the call is done, and else the place. Neither
-- is cut: for every image, room and report.
abbrev pub SalvagePacksWhole : Type 0
SalvagePacksWhole = (image room report : List ℕ) → ByteString image
    → let o : SalvageOutcome = cond (eqb (length report) report_bytes) (salvage image room) (salvaged (image_reply BadArguments) 0 0 0 0 room) in
    PacksWhole (host_salvage image room report).result (record { number = o.answer.number; place = o.place }) o.size

-- "reports the runs kept, the runs announced and that place": what a host reads in the report of a call that is done, three numbers of 64 bits, low
-- byte first, none of them cut
abbrev pub reported : (report : List ℕ) → (number : ℕ) → ℕ
reported report number = get_le report (number * 8) 8

abbrev pub ReportIsReadBack : Type 0
ReportIsReadBack = (image room report : List ℕ) → ByteString image → let w = host_salvage image room report in w.result % 2 ^ 16 ≡ 0
    → let o : SalvageOutcome = salvage image room in
    (reported w.report 0 ≡ o.kept) × (reported w.report 1 ≡ o.announced) × (reported w.report 2 ≡ o.place)
