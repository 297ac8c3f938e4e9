-- What each return of the function has to show.
use Rattle.std.specs.Prelude.{Result, Ok, Err}
use Rattle.numbers.proofs.Kit.{◌≡◌, refl, sym, ap, ap₂, ◌∙◌, Bool, cond, List, [], ◌∷◌, ℕ, ◌+◌, ◌*◌, ◌%◌, ◌^◌, arith, length, eq-eqb}
use Rattle.numbers.proofs.Kit.{ne_eqb}
use Rattle.c_blocks.specs.Blocks.{put_numbers}
use Rattle.c_image.specs.ImageCalls.{packed_reply}
use Rattle.image_salvage.specs.declared.Salvaged.{Salvaged}
use Rattle.image_salvage.specs.declared.SalvageError.{SalvageError}
use Rattle.image_salvage.specs.declared.SalvageError.TheVariants as Refused
use Rattle.image_salvage.specs.Salvage.{salvage, salvaged_as}
use Rattle.c_salvage.specs.SalvageCalls.{report_bytes, packed_salvage, salvaged_out, shown_salvage, host_salvage}

abbrev packed : SalvageError → ℕ
packed e = let o = salvaged_as (Err e) [] in packed_salvage o.answer.number o.place o.size

pub packs-done : (size place : ℕ) → size % 2 ^ 48 * 2 ^ 16 ≡ packed_salvage 0 place size
unfolding packed_reply
packs-done size place = omega arith

module _ (e : SalvageError) (p : ℕ) where
  pub packs-room : e ≡ Refused.NoRoom p → 14 + p % 2 ^ 48 * 2 ^ 16 ≡ packed e
  unfolding packed_reply
  packs-room is = rw is

  pub packs-place : e ≡ Refused.Damaged p → 15 + p % 2 ^ 48 * 2 ^ 16 ≡ packed e
  unfolding packed_reply
  packs-place is = rw is

module _ (image room report : List ℕ) where
  pub salvage-short : ¬ (length report ≡ report_bytes) → salvaged_out 8 room report ≡ host_salvage image room report
  unfolding host_salvage packed_reply
  salvage-short h = rw (ne_eqb (length report) report_bytes h)

  module _ (room' : List ℕ) (r : ℕ) (h : length report ≡ report_bytes) where
    shown : (reply : Result Salvaged SalvageError) → salvaged_as reply room' ≡ salvage image room
        → shown_salvage report (salvaged_as reply room') ≡ host_salvage image room report
    unfolding host_salvage
    shown reply e =
        ap (shown_salvage report) e
        ∙ ap (λ (u : Bool). cond u (shown_salvage report (salvage image room)) (salvaged_out (packed_salvage 8 0 0) room report)) (sym (eq-eqb (length report) report_bytes h))

    pub salvage-refused : (x : SalvageError) → salvaged_as (Err x) room' ≡ salvage image room → r ≡ packed x → salvaged_out r room' report ≡ host_salvage image room report
    salvage-refused x e es = ap (λ (y : ℕ). salvaged_out y room' report) es ∙ kept x ∙ shown (Err x) e
      where
        kept : (x : SalvageError) → salvaged_out (packed x) room' report ≡ shown_salvage report (salvaged_as (Err x) room')
        kept (Refused.Damaged p) = refl
        kept (Refused.NoRoom p) = refl

    pub salvage-done : (s : Salvaged) (report' : List ℕ) → salvaged_as (Ok s) room' ≡ salvage image room → r ≡ packed_salvage 0 s.place s.length
        → report' ≡ put_numbers (s.kept ∷ s.announced ∷ s.place ∷ []) report → salvaged_out r room' report' ≡ host_salvage image room report
    salvage-done s report' e es er = ap₂ (λ (y : ℕ) (z : List ℕ). salvaged_out y room' z) es er ∙ shown (Ok s) e
