-- The report of a call that is done, read back.
use Rattle.numbers.proofs.Kit.{◌≡◌, refl, ap, ◌∙◌, subst, Bool, true, false, cond, List, [], ◌∷◌, ◌++◌, Option, none, some, ℕ, ◌*◌, ◌%◌, ◌^◌, ◌≤◌, ◌<◌}
use Rattle.numbers.proofs.Kit.{mod-eq_of_lt, arith, eqb, leb, ltb, length, get_or, take, drop, length-append, length-take, eqb-true, ltb-true, ltb-false}
use Rattle.numbers.specs.Tile.{get_le, put_row}
use Rattle.numbers.proofs.WordLaws.{le-put_row}
use Rattle.numbers_format.specs.Numbers.{ByteString, encode}
use Rattle.numbers_format.specs.Formats.{Accepts}
use Rattle.numbers_format.proofs.NumberLaws.{encode-last, encode-more}
use Rattle.image.specs.Cells.{Run}
use Rattle.image.specs.Cells.Run.{run}
use Rattle.image.specs.Images.{runs_bytes, spelled}
use Rattle.image.specs.ImageFormat.{Described, image_format}
use Rattle.image.specs.declared.ImageError.TheVariants.{NoRoom}
use Rattle.image.proofs.Images.{format-is-images}
use Rattle.image.proofs.ImageLaws.{image-out}
use Rattle.c_image.specs.ImageCalls.{packed_reply}
use Rattle.c_image.proofs.Bounds.{most}
use Rattle.c_blocks.specs.Blocks.{put_numbers}
use Rattle.image_salvage.specs.Salvage.{place_in, KeptPart, kept_in, SalvageOutcome, salvaged, salvage_of, salvage}
use Rattle.image_salvage.proofs.FreshLaws.{before, spelled-split}
use Rattle.image_salvage.proofs.Keeps.{place-ends, KeepsRuns, KeepsOf, keeps-every-run}
use Rattle.c_salvage.specs.SalvageCalls.{report_bytes, packed_salvage, HostSalvaged, salvaged_out, shown_salvage, host_salvage}
use Rattle.c_salvage.specs.Theorems.{reported, ReportIsReadBack}
use Rattle.image.specs.Answers.{image_done, image_reply}
use Rattle.c_salvage.proofs.Packing.{image-small, place-small}

-- ---- how many runs there can be

number-long : (n : ℕ) → 1 ≤ length (encode n)
number-long n = go (ltb n 128) refl
  where
    go : (t : Bool) → ltb n 128 ≡ t → 1 ≤ length (encode n)
    go true e = omega (arith, ap length (encode-last n (ltb-true n 128 e)))
    go false e = omega (arith, ap length (encode-more n (ltb-false n 128 e)))

runs-many : (rs : List Run) → length rs ≤ length (runs_bytes rs)
runs-many [] = omega arith
runs-many (run g b ∷ rs) =
    omega (
      arith,
      runs-many rs,
      number-long g,
      length-append (encode g) (encode (length b) ++ (b ++ runs_bytes rs)),
      length-append (encode (length b)) (b ++ runs_bytes rs),
      length-append b (runs_bytes rs),
    )

-- as many as an image has bytes, at most
body-small : (s : List ℕ) (d : Described) → Accepts image_format s d → length d.body ≤ most
body-small s d a =
    let e : s ≡ spelled d.header d.body = (image-out s d a).are in
    omega (
      arith,
      image-small s ((format-is-images s).1 (d, a)),
      runs-many d.body,
      ap length (e ∙ spelled-split d.header d.body),
      length-append (before d.header) (encode (length d.body) ++ runs_bytes d.body),
      length-append (encode (length d.body)) (runs_bytes d.body),
    )

module _ (s : List ℕ) (b : ByteString s) (k : KeptPart) (e : kept_in s ≡ some k) where
  runs-small : (length k.body ≤ most) × (k.announced ≤ most)
  runs-small =
      let g = (place-ends s b).goes_on in
      let d : Described = g.1.0 in
      let h : KeepsRuns (place_in s) d k = subst (KeepsOf (place_in s) d) e (keeps-every-run s b g.0 d g.1.1) in
      let n = body-small (take (place_in s) s ++ g.0) d g.1.1 in
      (omega (arith, n, ap length h.first_runs, length-take (length k.body) d.body), omega (arith, n, h.all-announced))

-- ---- the report

put-number : (ns report : List ℕ) → length report ≡ length ns * 8 → (j : ℕ) → j < length ns → get_or ns j 0 ≤ most → reported (put_numbers ns report) j ≡ get_or ns j 0
unfolding put_numbers
put-number ns report l j h m =
    ap (λ (p : ℕ). get_le (put_row 0 (length ns) 8 (λ i. get_or ns i 0) report) p 8) (omega arith)
    ∙ le-put_row 0 (length ns) 8 (λ i. get_or ns i 0) report (omega (arith, l)) j h
    ∙ mod-eq_of_lt (omega (arith, m))

pub report-is-read-back : ReportIsReadBack
unfolding host_salvage salvage packed_reply
report-is-read-back image room report b = go (eqb (length report) report_bytes) refl (kept_in image) refl
  where
    Reads : List ℕ → SalvageOutcome → Type 0
    Reads r o = (reported r 0 ≡ o.kept) × (reported r 1 ≡ o.announced) × (reported r 2 ≡ o.place)

    out : Bool → Option KeptPart → HostSalvaged
    out t q = cond t (shown_salvage report (salvage_of (place_in image) q room)) (salvaged_out (packed_salvage 8 0 0) room report)

    -- three numbers that are written
    three : length report ≡ report_bytes → (k : KeptPart) → kept_in image ≡ some k → (size : ℕ) (left : List ℕ)
        → Reads (put_numbers (length k.body ∷ k.announced ∷ place_in image ∷ []) report) (salvaged image_done (length k.body) k.announced (place_in image) size left)
    three l k e size left =
        let n = runs-small image b k e in
        let ns : List ℕ = length k.body ∷ k.announced ∷ place_in image ∷ [] in
        (put-number ns report l 0 (omega arith) n.0, put-number ns report l 1 (omega arith) n.1, put-number ns report l 2 (omega arith) (place-small image b))

    go : (t : Bool) → eqb (length report) report_bytes ≡ t → (q : Option KeptPart) → kept_in image ≡ q → (out t q).result % 2 ^ 16 ≡ 0
        → Reads (out t q).report (salvage_of (place_in image) q room)
    go false e q f h = absurd (omega (arith, h))
    go true e none f h = absurd (omega (arith, h))
    go true e (some k) f h = by (leb (length fresh) (length room)) h
      where
        fresh : List ℕ
        fresh = spelled k.header k.body

        left : Bool → SalvageOutcome
        left t = cond t (salvaged image_done (length k.body) k.announced (place_in image) (length fresh) (fresh ++ drop (length fresh) room)) (salvaged (image_reply NoRoom) 0 0 (place_in image) 0 room)

        by : (t : Bool) → (shown_salvage report (left t)).result % 2 ^ 16 ≡ 0 → Reads (shown_salvage report (left t)).report (left t)
        by true h = three (eqb-true (length report) report_bytes e) k f (length fresh) (fresh ++ drop (length fresh) room)
        by false h = absurd (omega (arith, h))
