-- What a return of the entry points has to show.
use Rattle.std.specs.Prelude.{Ok, Err}
use Rattle.numbers.proofs.Kit.{◌≡◌, refl, sym, ap, ap₂, ◌∙◌, subst, List, [], ◌∷◌, ℕ, suc, ◌*◌, ◌<◌, arith}
use Rattle.numbers.proofs.Kit.{length, get_or, replicate}
use Rattle.numbers_format.specs.Numbers.{ByteString}
use Rattle.numbers_format.specs.Formats.{Accepts}
use Rattle.numbers_format.specs.Parser.{Parsed, parse}
use Rattle.numbers_format.specs.Parser.Parsed.{whole, stopped}
use Rattle.numbers_format.proofs.FormatLaws.{ParseRight, parse-right}
use Rattle.machine.specs.declared.Machine.{Machine}
use Rattle.image.specs.declared.ImageError.{ImageError}
use Rattle.image.specs.declared.ImageError.TheVariants.{BadArguments, Damaged}
use Rattle.image.specs.Cells.{Run, spread, Fit, over, marks_of}
use Rattle.image.specs.Images.{Seals}
use Rattle.image.specs.ImageFormat.{Described, all_register_bytes, image_format}
use Rattle.image.specs.Reading.{verdict_of, check_image, restored, not_restored, read_as, read_image}
use Rattle.image.proofs.ImageLaws.{image-live, image-out}
use Rattle.image.proofs.Images.{fits-true, read_done, read-unfit}
use Rattle.image_header.specs.Fields.{ranges_found, describe, runs_from}
use Rattle.image_check.specs.Parts.{runs_verdict}
use Rattle.image_header.proofs.BodyLaws.{mapped}
use Rattle.image_header.proofs.HeadLaws.{HeadedOk}
use Rattle.image_header.proofs.HeadLaws.{head-parse}
use Rattle.image_read.specs.Parts.{body_of, body_at, ones, Ends, Stand}
use Rattle.image_read.proofs.FillLaws.{marks-ones}

pub bytes-all : (s : List ℕ) → ((q : ℕ) → get_or s q 0 < 256) → ByteString s
bytes-all [] h = tt
bytes-all (b ∷ s) h = (h 0, bytes-all s (λ q. h (suc q)))

pub they-stand : (s : List ℕ) (m : Machine) (n f c a : ℕ) → HeadedOk s m n f c a → Stand s n f
they-stand s m n f c a h = record { few = h.seals-few; ends = subst Ends (sym h.seals-end.1) tt }

-- refused for the image
pub read-refused : (s registers marks : List ℕ) (e : ImageError) → Err e ≡ check_image s → not_restored e registers marks ≡ read_image s registers marks
unfolding read_image check_image
read-refused s registers marks e is = go (parse image_format s) is
  where
    go : (q : Parsed Described) → Err e ≡ verdict_of q → not_restored e registers marks ≡ read_as q registers marks
    go (whole d) k = let z : ◌≡◌ {A = ℕ} 0 1 = cc in absurd (omega arith)
    go (stopped p) k = let same : e ≡ Damaged p = cc in ap (λ (x : ImageError). not_restored x registers marks) same

module _ (s : List ℕ) (m : Machine) (n i c a : ℕ) (h : HeadedOk s m n i c a) (is : Ok tt ≡ runs_verdict s a c 0 (2 * m.mlen)) where
  abbrev runs_left : Parsed Described
  runs_left = runs_from s a c 0 (2 * m.mlen)

  abbrev built : Parsed Described → Parsed Described
  built = mapped (λ d. describe h.header d.body)

  abbrev body : List Run
  body = body_at s a c 0 (2 * m.mlen)

  pub parsed : parse image_format s ≡ whole (describe h.header body)
  unfolding body_at runs_verdict
  parsed = head-parse s m n i c a h ∙ go runs_left refl
    where
      go : (q : Parsed Described) → runs_left ≡ q → built runs_left ≡ whole (describe h.header (body_of runs_left))
      go (whole d) e = rw e
      go (stopped p) e = let k : Ok tt ≡ verdict_of (stopped p) = is ∙ ap verdict_of e in let z : ◌≡◌ {A = ℕ} 0 1 = cc in absurd (omega arith)

  size_is : 2 * m.mlen ≡ all_register_bytes h.header.mlen
  size_is = ap (λ (x : Machine). 2 * x.mlen) h.machine-is

  pub read-unfit-is : (registers marks : List ℕ) → ¬ ((length registers ≡ 2 * m.mlen) × (length marks ≡ 2 * m.mlen)) → not_restored BadArguments registers marks ≡ read_image s registers marks
  unfolding read_image
  read-unfit-is registers marks other =
      sym (ap (λ (q : Parsed Described). read_as q registers marks) parsed
      ∙ read-unfit (describe h.header body) registers marks (λ g. other (g.0 ∙ sym size_is, g.1 ∙ sym size_is)))

  fits-body : ByteString s → Fit 0 (all_register_bytes h.header.mlen) body
  fits-body b =
      let a' : Accepts image_format s (describe h.header body) = subst (ParseRight image_format s) parsed (parse-right image_format s image-live b) in
      (image-out s (describe h.header body) a').fits

  -- the buffers as they are left
  pub read-done-is : ByteString s → (registers marks cleared registers' marks' : List ℕ) → length registers ≡ 2 * m.mlen → length marks ≡ 2 * m.mlen
      → cleared ≡ replicate (length marks) 0
      → registers' ≡ over (spread (length registers) (body_at s a c 0 (length registers))) registers
      → marks' ≡ over (spread (length registers) (ones (body_at s a c 0 (length registers)))) cleared
      → restored m (ranges_found s n i) registers' marks' ≡ read_image s registers marks
  unfolding read_image
  read-done-is b registers marks cleared registers' marks' lr lm ec er em =
      let N : ℕ = all_register_bytes h.header.mlen in
      let d : Described = describe h.header body in
      let ln : length registers ≡ N = lr ∙ size_is in
      let zeros : cleared ≡ replicate N 0 = ec ∙ ap (λ (x : ℕ). replicate x 0) (lm ∙ size_is) in
      let r : registers' ≡ over (spread N body) registers = er ∙ ap₂ (λ (x y : ℕ). over (spread x (body_at s a c 0 y)) registers) ln lr in
      let w : marks' ≡ marks_of (spread N body) =
      em ∙ ap₂ (λ (x y : ℕ). over (spread x (ones (body_at s a c 0 y))) cleared) ln lr ∙ ap (over (spread N (ones body))) zeros ∙ sym (marks-ones 0 N body (fits-body b)) in
      ap₂ (λ (x y : List ℕ). restored m (ranges_found s n i) x y) r w
      ∙ ap₂ (λ (x : Machine) (rs : Seals). restored x rs (over (spread N body) registers) (marks_of (spread N body))) h.machine-is (sym h.seals-are)
      ∙ sym (ap (λ (q : Parsed Described). read_as q registers marks) parsed ∙ read_done d registers marks (fits-true d registers marks (ln, lm ∙ size_is)))
