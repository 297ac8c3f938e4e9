-- The theorems of specs/Theorems.antt on an image that was cut at its end.
use mathlib.Core.Path.{◌≡◌, refl, sym, ap, ap₂, ◌∙◌, subst}
use mathlib.Core.Bool.{Bool, true, false, cond}
use mathlib.Core.List.{List, [], ◌∷◌, ◌++◌, map}
use mathlib.Core.Option.{none, some}
use Prim.Native.Nat.{ℕ, zero, suc, ◌+◌, ◌-◌, ◌≤◌}
use native.Mathlib.Omega.{arith}
use lib.Dec.{eqb}
use lib.ListN.{length, take, drop, get_or, replicate, length-take, length-replicate, take-append-drop}
use lib.Seq.{take-take}
use borrow.Author.Tests.{eqb-true}
use Rattle.numbers_format.specs.Numbers.{ByteString}
use Rattle.numbers_format.specs.Formats.{Accepts}
use Rattle.numbers_format.proofs.FormatLaws.{accepts-parse, ends-one, bytes_take}
use Rattle.machine.specs.declared.Machine.{Machine}
use Rattle.machine.specs.Geometry.{register_bytes, Bench}
use Rattle.machine.specs.Faults.{sound_bench}
use Rattle.image.specs.Cells.{Cell, cell, cells_of, Run, runs, spread, Fit, over, marks_of}
use Rattle.image.specs.Cells.Run.{run}
use Rattle.image.specs.Images.{Header, exponent, header_of, machine_from, spelled, IsImage}
use Rattle.image.specs.ImageFormat.{Described, all_register_bytes, image_format}
use Rattle.numbers_format.specs.Parser.{Parsed}
use Rattle.image.specs.Reading.{restored, cells_in, read_as, read_image}
use Rattle.image.specs.Theorems.{image_in, Fits}
use Rattle.image.proofs.RunLaws.{spread-runs, length-spread}
use Rattle.image.proofs.ImageLaws.{image-out}
use Rattle.image.proofs.HeaderLaws.{machine-back, registers-sized, marks-sized}
use Rattle.image.proofs.CellLaws.{length-cells}
use Rattle.image.proofs.Images.{image-accepts, fits-true, read_done}
use Rattle.image_salvage.specs.Salvage.{place_in, KeptPart, kept_in}
use Rattle.image_salvage.specs.Theorems.{FewerMarks, CutKeepsBytes, CutPlace}
use Rattle.image_salvage.proofs.Keeps.{accepts-bytes, place-image, place_out, KeepsRuns, KeepsOf, keeps-every-run, kept-fits, kept-accepted, wrote}

-- ---- cells of which some are left out

abbrev Under : List Cell → List Cell → Type 0
Under [] ds = Unit {0}
Under (c ∷ cs) [] = ⊥
Under (none ∷ cs) (d ∷ ds) = Under cs ds
Under (some x ∷ cs) (d ∷ ds) = (d ≡ some x) × Under cs ds

under_none : (n : ℕ) (ds : List Cell) → n ≤ length ds → Under (replicate n none) ds
under_none zero ds h = tt
under_none (suc n) [] h = absurd (omega arith)
under_none (suc n) (d ∷ ds) h = under_none n ds (omega arith)

under-gap : (n : ℕ) (cs ds : List Cell) → Under cs ds → Under (replicate n none ++ cs) (replicate n none ++ ds)
under-gap zero cs ds h = h
under-gap (suc n) cs ds h = under-gap n cs ds h

under-body : (b : List ℕ) (cs ds : List Cell) → Under cs ds → Under (map some b ++ cs) (map some b ++ ds)
under-body [] cs ds h = h
under-body (x ∷ b) cs ds h = (refl, under-body b cs ds h)

-- the first runs
spread-under : (least n : ℕ) (rs : List Run) (k : ℕ) → Fit least n rs → Under (spread n (take k rs)) (spread n rs)
unfolding spread
spread-under least n rs zero h = under_none n (spread n rs) (omega (arith, length-spread least n rs h))
spread-under least n [] (suc k) h = under_none n (replicate n none) (omega (arith, length-replicate {A = Cell} n none))
spread-under least n (run g b ∷ rs) (suc k) h =
    under-gap g (map some b ++ spread (n - (g + length b)) (take k rs)) (map some b ++ spread (n - (g + length b)) rs)
    (under-body b (spread (n - (g + length b)) (take k rs)) (spread (n - (g + length b)) rs) (spread-under 1 (n - (g + length b)) rs k h.1))

-- where one of them has a mark, the machine has it too, and the same byte
module _ where
  marked : (b m x : ℕ) → cell b m ≡ some x → (m ≡ 1) × (x ≡ b)
  marked b m x = go (eqb m 1) refl
    where
      go : (t : Bool) → eqb m 1 ≡ t → cond t (some b) none ≡ some x → (m ≡ 1) × (x ≡ b)
      go true e h = (eqb-true m 1 e, cc)
      go false e h = let z : ◌≡◌ {A = ℕ} 0 1 = cc in absurd (omega arith)

under_same : (cs : List Cell) (bs ms lent : List ℕ) → length bs ≡ length ms → length lent ≡ length cs → Under cs (cells_of bs ms) → (q : ℕ)
    → get_or (marks_of cs) q 0 ≡ 1 → (get_or ms q 0 ≡ 1) × (get_or (over cs lent) q 0 ≡ get_or bs q 0)
under_same [] bs ms lent n l u zero h = absurd (omega (arith, h))
under_same [] bs ms lent n l u (suc q) h = absurd (omega (arith, h))
under_same (c ∷ cs) [] ms lent n l u q h = absurd u
under_same (c ∷ cs) (b ∷ bs) [] lent n l u q h = absurd u
under_same (c ∷ cs) (b ∷ bs) (m ∷ ms) [] n l u q h = absurd (omega (arith, l))
under_same (none ∷ cs) (b ∷ bs) (m ∷ ms) (x ∷ lent) n l u zero h = absurd (omega (arith, h))
under_same (none ∷ cs) (b ∷ bs) (m ∷ ms) (x ∷ lent) n l u (suc q) h = under_same cs bs ms lent (omega (arith, n)) (omega (arith, l)) u q h
under_same (some y ∷ cs) (b ∷ bs) (m ∷ ms) (x ∷ lent) n l u zero h = marked b m y u.0
under_same (some y ∷ cs) (b ∷ bs) (m ∷ ms) (x ∷ lent) n l u (suc q) h = under_same cs bs ms lent (omega (arith, n)) (omega (arith, l)) u.1 q h

-- ---- the image of a bench

module _ (B : Bench) (sb : sound_bench B ≡ true) (b : ByteString B.registers) where
  abbrev own : Described
  own = record { header = header_of B.machine B.seals; body = runs (cells_of B.registers B.marks) }

  own-accepted : Accepts image_format (image_in B) own
  own-accepted = image-accepts B.machine B.seals B.registers B.marks sb b

  own-size : length B.registers ≡ length B.marks
  own-size = registers-sized B.machine B.seals B.registers B.marks sb ∙ sym (marks-sized B.machine B.seals B.registers B.marks sb)

  own-cells : cells_in own ≡ cells_of B.registers B.marks
  own-cells =
      let n : length (cells_of B.registers B.marks) ≡ all_register_bytes (exponent B.machine.mlen) = length-cells B.registers B.marks own-size ∙ registers-sized B.machine B.seals B.registers B.marks sb in
      ap (λ (x : ℕ). spread x (runs (cells_of B.registers B.marks))) (sym n) ∙ spread-runs (cells_of B.registers B.marks)

  own-machine : machine_from own.header ≡ B.machine
  own-machine = machine-back B.machine B.seals B.registers B.marks sb

  -- what is kept of its front
  module _ (c : ℕ) where
    abbrev cut : List ℕ
    cut = take c (image_in B)

    cut-bytes : ByteString cut
    cut-bytes = bytes_take c (image_in B) (accepts-bytes image_format (image_in B) own own-accepted)

    -- the image goes on from every place of its front
    goes_on : (p : ℕ) → p ≤ length cut → take p cut ++ drop p (image_in B) ≡ image_in B
    goes_on p h = ap (λ (z : List ℕ). z ++ drop p (image_in B)) (take-take p c (image_in B) (omega (arith, length-take c (image_in B)))) ∙ take-append-drop p (image_in B)

    own-image : IsImage (image_in B)
    own-image = record { machine = B.machine; seals = B.seals; registers = B.registers; marks = B.marks; not-at-fault = sb; are-bytes = b; is-its-image = refl }

    cut-place-is : place_in cut ≡ length cut
    cut-place-is =
        ends-one IsImage cut (place_in cut) (length cut) (place-image cut cut-bytes)
        (record {
          there = omega arith;
          goes_on = (drop (length cut) (image_in B), subst IsImage (sym (goes_on (length cut) (omega arith))) own-image);
          stops = λ h. absurd (omega arith);
        })

    keeps : (k : KeptPart) → kept_in cut ≡ some k → KeepsRuns (place_in cut) own k
    keeps k e =
        subst (KeepsOf (place_in cut) own) e
        (keeps-every-run cut cut-bytes (drop (place_in cut) (image_in B)) own
        (subst (λ (z : List ℕ). Accepts image_format z own) (sym (goes_on (place_in cut) (place-image cut cut-bytes).there)) own-accepted))

    module _ (registers marks : List ℕ) (f : Fits B.machine registers marks) (k : KeptPart) (e : kept_in cut ≡ some k) where
      left : Described
      left = record { header = k.header; body = k.body }

      fresh : List ℕ
      fresh = spelled k.header k.body

      machine-is : machine_from k.header ≡ B.machine
      machine-is = ap machine_from (keeps k e).same-header ∙ own-machine

      fresh-accepted : Accepts image_format fresh left
      unfolding left fresh
      fresh-accepted = kept-accepted (place_in cut) own k (keeps k e) (image_in B) own-accepted

      reads : read_image fresh registers marks ≡ restored (machine_from k.header) k.header.seals (over (cells_in left) registers) (marks_of (cells_in left))
      unfolding read_image left
      reads =
          ap (λ (q : Parsed Described). read_as q registers marks) (accepts-parse image_format fresh left fresh-accepted)
          ∙ read_done left registers marks (fits-true left registers marks (subst (λ (m : Machine). Fits m registers marks) (sym machine-is) f))

      left-under : Under (cells_in left) (cells_of B.registers B.marks)
      unfolding left
      left-under =
          let h = keeps k e in
          let N : ℕ = all_register_bytes own.header.mlen in
          let is : cells_in left ≡ spread N (take (length k.body) own.body) = ap₂ (λ (x : Header) (rs : List Run). spread (all_register_bytes x.mlen) rs) h.same-header h.first_runs in
          subst (λ (cs : List Cell). Under cs (cells_of B.registers B.marks)) (sym is)
          (subst (Under (spread N (take (length k.body) own.body))) own-cells (spread-under 0 N own.body (length k.body) (image-out (image_in B) own own-accepted).fits))

      lent-size : length registers ≡ length (cells_in left)
      unfolding left
      lent-size =
          f.0 ∙ ap (λ (m : Machine). register_bytes m.mlen) (sym machine-is)
          ∙ sym (length-spread 0 (all_register_bytes k.header.mlen) k.body (kept-fits (place_in cut) own k (keeps k e) (image_in B) own-accepted))

      fewer-marks : FewerMarks B (read_image fresh registers marks)
      unfolding left fresh
      fewer-marks =
          subst (FewerMarks B) (sym reads)
          (record {
            nought = refl;
            same-machine = machine-is;
            same-seals = ap (λ (h : Header). h.seals) (keeps k e).same-header;
            same_bytes = under_same (cells_in left) B.registers B.marks registers own-size lent-size left-under;
          })

pub cut-keeps-bytes : CutKeepsBytes
unfolding fresh
cut-keeps-bytes B c room registers marks sb b f h =
    let w = wrote (take c (image_in B)) room h in
    subst (λ (z : List ℕ). FewerMarks B (read_image z registers marks)) (sym w.is-written) (fewer-marks B sb b c registers marks f w.kept w.is-kept)

pub cut-place : CutPlace
cut-place B c room sb b = place_out (take c (image_in B)) room ∙ cut-place-is B sb b c
