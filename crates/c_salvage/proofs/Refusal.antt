-- A refusal changes no byte of any buffer.
use Rattle.numbers.proofs.Kit.{◌≡◌, refl, ap₂, Bool, true, false, cond, List, [], ◌∷◌, ℕ, ◌%◌, ◌^◌, arith, eqb, length, ne_eqb}
use Rattle.c_blocks.specs.Blocks.{put_numbers}
use Rattle.c_image.specs.ImageCalls.{packed_reply}
use Rattle.image_salvage.specs.Salvage.{SalvageOutcome, salvage}
use Rattle.image_salvage.proofs.Keeps.{salvage-refusal}
use Rattle.c_salvage.specs.SalvageCalls.{report_bytes, packed_salvage, HostSalvaged, salvaged_out, shown_salvage, host_salvage}
use Rattle.c_salvage.specs.Theorems.{SalvageRefusalChangesNoByte}

-- answer 0 packs as 0 in bits 15..0
packs-nought : (answer place size : ℕ) → answer ≡ 0 → packed_salvage answer place size % 2 ^ 16 ≡ 0
unfolding packed_reply
packs-nought answer place size e = omega (arith, e)

pub salvage-call-refusal : SalvageRefusalChangesNoByte
unfolding host_salvage
salvage-call-refusal image room report = go (eqb (length report) report_bytes)
  where
    o : SalvageOutcome
    o = salvage image room

    out : Bool → HostSalvaged
    out t = cond t (shown_salvage report o) (salvaged_out (packed_salvage 8 0 0) room report)

    -- a refused salvage leaves the report, by its number
    kept : (n : ℕ) → ¬ (n ≡ 0) → (x : List ℕ) → cond (eqb n 0) x report ≡ report
    kept n h x = rw (ne_eqb n 0 h)

    go : (t : Bool) → ¬ ((out t).result % 2 ^ 16 ≡ 0) → out t ≡ salvaged_out (out t).result room report
    go true h =
        let n : ¬ (o.answer.number ≡ 0) = λ e. h (packs-nought o.answer.number o.place o.size e) in
        ap₂ (salvaged_out (packed_salvage o.answer.number o.place o.size)) (salvage-refusal image room n).3 (kept o.answer.number n (put_numbers (o.kept ∷ o.announced ∷ o.place ∷ []) report))
    go false h = refl
