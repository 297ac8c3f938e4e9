-- The code's loop over the runs: one run that is there whole, then the others.
use Rattle.std.specs.Prelude.{Err}
use mathlib.Core.Path.{◌≡◌, refl, sym, ap, ap₂, ◌∙◌, subst}
use mathlib.Core.Bool.{Bool, true, false, cond}
use mathlib.Core.List.{List, [], ◌∷◌, ◌++◌}
use Prim.Native.Nat.{ℕ, zero, suc, ◌+◌, ◌-◌, ◌*◌, ◌^◌, ◌≤◌, ◌<◌, min}
use native.Mathlib.Omega.{arith}
use lib.Dec.{leb, ltb}
use lib.ListN.{length, take, drop, get_or, length-append, length-drop}
use lib.Seq.{length-take-le, drop-drop}
use borrow.Author.Tests.{leb-true, leb-false, le-leb, lt-leb, lt-ltb, le-ltb, ltb-true, ltb-false}
use Rattle.numbers_format.specs.Numbers.{Interval, span, encode, ByteString}
use Rattle.numbers_format.specs.Formats.{Format}
use Rattle.numbers_format.specs.Formats.Format.{done, number, bytes}
use Rattle.numbers_format.specs.Parser.{Got, read_number, Parsed, from}
use Rattle.numbers_format.specs.Parser.Got.{value, fault}
use Rattle.numbers_format.specs.Parser.Parsed.{whole, stopped}
use Rattle.numbers_coded.specs.At.{Number, found, number_at}
use Rattle.numbers_coded.specs.At.Number.{Value, Fault}
use Rattle.numbers_coded.proofs.FromLaws.{from_end, from_more, took}
use Rattle.image.specs.declared.ImageError.TheVariants.{Damaged}
use Rattle.image.specs.Cells.{Run}
use Rattle.image.specs.Cells.Run.{run}
use Rattle.image.specs.Images.{runs_bytes}
use Rattle.image.specs.ImageFormat.{Described, runs_format}
use Rattle.image.specs.Reading.{verdict_of}
use Rattle.image_check.specs.declared.runs.Runs.{Runs}
use Rattle.image_check.specs.declared.scan.Scanned.{Scanned}
use Rattle.image_header.specs.Fields.{onward, runs_from}
use Rattle.image_check.specs.Parts.{Next, next_at, runs_verdict, runs_of, past_run, run_from, runs_all, scan_in}
use Rattle.image_check.specs.Parts.Next.{NextRun, NextBad}
use Rattle.image_header.proofs.BodyLaws.{mapped}
use Rattle.image_check.proofs.RunsLaws.{plain, cons, RunOk, next-bad, next_known}
use Rattle.image_header.proofs.HeadLaws.{head-sizes}
use Rattle.image_check.proofs.ScanLaws.{Sound, run_ok}
use Rattle.image_check.proofs.CheckLaws.{scan-headed, scan_runs, scan-sound}
use Rattle.image_salvage.specs.Fronts.{Front, behind, front}
use Rattle.image_salvage.specs.Fronts.Front.{ahead, stuck}
use Rattle.image_salvage.specs.Salvage.{fault_place, one_run, runs_kept}
use Rattle.image_salvage.specs.Parts.{place_at, kept_at, Tally, tally_at}
use Rattle.image_salvage.proofs.FrontLaws.{bytes_drop}
use Rattle.image_salvage.proofs.KeepLaws.{run-bytes, kept-ahead, kept-stuck}

-- ---- a number at a place

found-value : (at : ℕ) (g : Got) (n a : ℕ) → found at g ≡ Value n a → (k : ℕ) × (g ≡ value n k) × (a ≡ at + k)
found-value at (value m k) n a e = (k, ap (λ (x : ℕ). value x k) (cc), (cc))
found-value at (fault p) n a e = let z : ◌≡◌ {A = ℕ} 0 1 = cc in absurd (omega arith)

found-fault : (at : ℕ) (g : Got) (p : ℕ) → found at g ≡ Fault p → (k : ℕ) × (g ≡ fault k)
found-fault at (value m k) p e = let z : ◌≡◌ {A = ℕ} 0 1 = cc in absurd (omega arith)
found-fault at (fault k) p e = (k, refl)

module _ {X : Type 0} (rs : List Interval) (j : ℕ → Format X) (s : List ℕ) where
  front-number : (n k : ℕ) → read_number rs s ≡ value n k → front (number rs j) s ≡ behind k (front (j n) (drop k s))
  unfolding front
  front-number n k e = rw (e, front)

  front-wrong : (p : ℕ) → read_number rs s ≡ fault p → front (number rs j) s ≡ stuck p
  unfolding front
  front-wrong p e = rw (e, front)

module _ {X : Type 0} (s : List ℕ) (at low high : ℕ) (j : ℕ → Format X) where
  front-value : (n a : ℕ) → number_at s at low high ≡ Value n a → (k : ℕ) × (a ≡ at + k) × (front (number (span low high) j) (drop at s) ≡ behind k (front (j n) (drop a s)))
  unfolding number_at
  front-value n a e =
      let w = found-value at (read_number (span low high) (drop at s)) n a e in
      (w.0, w.2, front-number (span low high) j (drop at s) n w.0 w.1 ∙ ap (λ (t : List ℕ). behind w.0 (front (j n) t)) (drop-drop w.0 at s ∙ ap (λ (x : ℕ). drop x s) (sym w.2)))

  front-fault : (p : ℕ) → number_at s at low high ≡ Fault p → (k : ℕ) × (front (number (span low high) j) (drop at s) ≡ stuck k)
  unfolding number_at
  front-fault p e = let w = found-fault at (read_number (span low high) (drop at s)) p e in (w.0, front-wrong (span low high) j (drop at s) w.0 w.1)

-- ---- the next run

module _ (s : List ℕ) (at more least room : ℕ) where
  abbrev front_here : Front Run
  front_here = front (one_run more least room) (drop at s)

  abbrev NextIs : Next → Type 0
  NextIs (NextRun gap size a) = (k : ℕ) × (a + size ≡ at + k) × (front_here ≡ ahead (run gap (take size (drop a s))) k)
  NextIs (NextBad p) = (k : ℕ) × (front_here ≡ stuck k)

  abbrev after_gap : ℕ → Format Run
  after_gap g = number (span 1 (room - (g + 2 * more))) λ n. bytes n λ b. done (run g b)

  module _ (there : at ≤ length s) where
    next-is : NextIs (
        onward (number_at s at least (room - (1 + 2 * more))) NextBad λ gap a.
        onward (number_at s a 1 (room - (gap + 2 * more))) NextBad λ size b.
        cond (leb (b + size) (length s)) (NextRun gap size b) (NextBad (length s))
        )
    unfolding front
    next-is = go (number_at s at least (room - (1 + 2 * more))) refl
      where
        last : (g a : ℕ) → number_at s at least (room - (1 + 2 * more)) ≡ Value g a → (n b : ℕ) → number_at s a 1 (room - (g + 2 * more)) ≡ Value n b → (t : Bool) → leb (b + n) (length s) ≡ t
            → NextIs (cond t (NextRun g n b) (NextBad (length s)))
        last g a e n b e2 true h =
            let w = front-value s at least (room - (1 + 2 * more)) after_gap g a e in
            let w2 = front-value s a 1 (room - (g + 2 * more)) (λ n. bytes n λ b. done (run g b)) n b e2 in
            let fits : n ≤ length (drop b s) = omega (arith, length-drop b s, leb-true (b + n) (length s) h) in
            (w.0 + (w2.0 + (n + 0)), omega (arith, w.1, w2.1), w.2 ∙ ap (behind w.0) w2.2 ∙ rw (le-leb n (length (drop b s)) fits, front))
        last g a e n b e2 false h =
            let w = front-value s at least (room - (1 + 2 * more)) after_gap g a e in
            let w2 = front-value s a 1 (room - (g + 2 * more)) (λ n. bytes n λ b. done (run g b)) n b e2 in
            let tg = took s at least (room - (1 + 2 * more)) g a e in
            let tn = took s a 1 (room - (g + 2 * more)) n b e2 in
            let there-b : b ≤ length s = tn.behind (tg.behind there) in
            let short : length (drop b s) < n = omega (arith, length-drop b s, leb-false (b + n) (length s) h) in
            (w.0 + (w2.0 + length (drop b s)), w.2 ∙ ap (behind w.0) w2.2 ∙ rw (lt-leb n (length (drop b s)) short, front))

        size : (g a : ℕ) → number_at s at least (room - (1 + 2 * more)) ≡ Value g a → (q : Number) → number_at s a 1 (room - (g + 2 * more)) ≡ q
            → NextIs (onward q NextBad λ n b. cond (leb (b + n) (length s)) (NextRun g n b) (NextBad (length s)))
        size g a e (Value n b) e2 = last g a e n b e2 (leb (b + n) (length s)) refl
        size g a e (Fault p) e2 =
            let w = front-value s at least (room - (1 + 2 * more)) after_gap g a e in
            let w2 = front-fault s a 1 (room - (g + 2 * more)) (λ n. bytes n λ b. done (run g b)) p e2 in
            (w.0 + w2.0, w.2 ∙ ap (behind w.0) w2.1)

        go : (q : Number) → number_at s at least (room - (1 + 2 * more)) ≡ q
            → NextIs (onward q NextBad λ g a. onward (number_at s a 1 (room - (g + 2 * more))) NextBad λ n b. cond (leb (b + n) (length s)) (NextRun g n b) (NextBad (length s)))
        go (Value g a) e = size g a e (number_at s a 1 (room - (g + 2 * more))) refl
        go (Fault p) e = front-fault s at least (room - (1 + 2 * more)) after_gap p e

-- ---- one turn of the loop

-- none is left
pub kept-none : (s : List ℕ) (at left least room : ℕ) → left ≡ 0 → kept_at s at left least room ≡ []
unfolding kept_at runs_kept
kept-none s at left least room e = rw (e, runs_kept)

pub place_none : (s : List ℕ) (at left least room : ℕ) → left ≡ 0 → at ≤ length s → place_at s at left least room ≡ at
unfolding place_at runs_from runs_format
place_none s at left least room e h = rw (e, runs_format) (go (ltb at (length s)) refl)
  where
    go : (t : Bool) → ltb at (length s) ≡ t → fault_place s (from (done (plain [])) s at) ≡ at
    go true q = ap (fault_place s) (from_more s at (plain []) (ltb-true at (length s) q))
    go false q = let w : length s ≤ at = ltb-false at (length s) q in ap (fault_place s) (from_end s at (plain []) w) ∙ omega arith

module _ (s : List ℕ) (at left least room : ℕ) (there : at ≤ length s) (more : 0 < left) (small : least ≤ 1) (room-ok : least + 2 * left ≤ room + 1) where
  is-left : left ≡ suc (left - 1)
  is-left = omega arith

  known : (n : Next) → next_at s at left least room ≡ n → NextIs s at (left - 1) least room n
  unfolding next_at
  known n e = subst (NextIs s at (left - 1) least room) e (next-is s at (left - 1) least room there)

  -- a fault
  module _ (p : ℕ) (e : next_at s at left least room ≡ NextBad p) where
    pub bad-kept : kept_at s at left least room ≡ []
    unfolding kept_at
    bad-kept =
        let w = known (NextBad p) e in
        ap (λ (x : ℕ). runs_kept x least room (drop at s)) is-left ∙ kept-stuck (left - 1) least room (drop at s) w.0 w.1

    pub bad-place : place_at s at left least room ≡ p
    unfolding place_at runs_verdict
    bad-place = go (runs_from s at left least room) (next-bad s at left least room there more small room-ok p e)
      where
        go : (q : Parsed Described) → verdict_of q ≡ Err (Damaged p) → fault_place s q ≡ p
        go (whole d) h = let z : ◌≡◌ {A = ℕ} 0 1 = cc in absurd (omega arith)
        go (stopped x) h = cc

  -- a run
  module _ (gap size a : ℕ) (e : next_at s at left least room ≡ NextRun gap size a) where
    abbrev this : Run
    this = run gap (take size (drop a s))

    ok : RunOk s at left least room gap size a
    ok = next_known s at left least room there more small room-ok gap size a e

    long : length (take size (drop a s)) ≡ size
    long = length-take-le size (drop a s) (omega (arith, length-drop a s, ok.in_image))

    pub good-kept : kept_at s at left least room ≡ this ∷ kept_at s (a + size) (left - 1) 1 (room - (gap + size))
    unfolding kept_at
    good-kept =
        let w = known (NextRun gap size a) e in
        ap (λ (x : ℕ). runs_kept x least room (drop at s)) is-left ∙ kept-ahead (left - 1) least room (drop at s) this w.0 w.2
        ∙ ap₂ (λ (x : ℕ) (t : List ℕ). this ∷ runs_kept (left - 1) 1 (room - (gap + x)) t) long (drop-drop w.0 at s ∙ ap (λ (x : ℕ). drop x s) (sym w.1))

    pub good-place : place_at s at left least room ≡ place_at s (a + size) (left - 1) 1 (room - (gap + size))
    unfolding place_at
    good-place = ap (fault_place s) ok.step ∙ go (runs_from s (a + size) (left - 1) 1 (room - (gap + size)))
      where
        go : (q : Parsed Described) → fault_place s (mapped (cons gap (take size (drop a s))) q) ≡ fault_place s q
        go (whole d) = refl
        go (stopped p) = refl

    -- it takes the bytes up to where the others start
    pub good-end : ByteString s → (t : List Run) → at + length (runs_bytes (this ∷ t)) ≡ a + size + length (runs_bytes t)
    good-end b t =
        let w = known (NextRun gap size a) e in
        let g : List ℕ = encode gap in
        let n : List ℕ = encode (length (take size (drop a s))) in
        let z : List ℕ = take size (drop a s) in
        let rb : drop at s ≡ g ++ (n ++ (z ++ drop w.0 (drop at s))) = run-bytes (left - 1) least room (drop at s) (bytes_drop at s b) this w.0 w.2 in
        let many : (u : List ℕ) → length (g ++ (n ++ (z ++ u))) ≡ length g + (length n + (length z + length u)) =
        λ u. length-append g (n ++ (z ++ u)) ∙ ap (λ (x : ℕ). length g + x) (length-append n (z ++ u) ∙ ap (λ (x : ℕ). length n + x) (length-append z u)) in
        let all : length (drop at s) ≡ length (g ++ (n ++ (z ++ drop w.0 (drop at s)))) = ap length rb in
        omega (arith, many (runs_bytes t), many (drop w.0 (drop at s)), w.1, length-drop at s, length-drop w.0 (drop at s), ok.in_image)

-- ---- for the code

pub bytes-all : (s : List ℕ) → ((q : ℕ) → get_or s q 0 < 256) → ByteString s
bytes-all [] h = tt
bytes-all (b ∷ s) h = (h 0, bytes-all s (λ q. h (suc q)))

tally-is : (a b c x y z : ℕ) → a ≡ x → b ≡ y → c ≡ z → ◌≡◌ {A = Tally} (record { runs = a; end = b; place = c }) (record { runs = x; end = y; place = z })
tally-is a b c x y z p q r = cc

-- ---- all runs that a scan reads

module _ (s : List ℕ) (bytes_ok : ByteString s) where
  none_more : (n : ℕ) (u : Runs) → u.left ≡ 0 → runs_all s n u ≡ u
  unfolding runs_all
  none_more zero u e = refl
  none_more (suc n) u e = rw (le-ltb 0 u.left (omega (arith, e)))

  -- what is kept of those that are left
  abbrev kept_for : Runs → List Run
  kept_for t = kept_at s t.at t.left (min t.kept 1) t.room

  record Tallied (t r : Runs) : Type 0 where
    kept-is : r.kept ≡ t.kept + length (kept_for t)
    end_is : r.at ≡ t.at + length (runs_bytes (kept_for t))
    place_is : r.place ≡ place_at s t.at t.left (min t.kept 1) t.room

  tally-all : (n : ℕ) (t : Runs) → t.left ≡ n → t.at ≤ length s → Sound s t → t.place ≡ t.at → Tallied t (runs_all s n t)
  unfolding runs_all run_from
  tally-all zero t e there ok same =
      let none : kept_for t ≡ [] = kept-none s t.at t.left (min t.kept 1) t.room e in
      record {
        kept-is = omega (arith, ap length none);
        end_is = omega (arith, ap (λ (rs : List Run). length (runs_bytes rs)) none);
        place_is = same ∙ sym (place_none s t.at t.left (min t.kept 1) t.room e there);
      }
  tally-all (suc n) t e there ok same =
      let some : 0 < t.left = omega (arith, e) in
      rw (lt-ltb 0 t.left some) (go (next_at s t.at t.left (min t.kept 1) t.room) refl (λ u. tally-all n u))
    where
      go : (q : Next) → next_at s t.at t.left (min t.kept 1) t.room ≡ q
          → ((u : Runs) → u.left ≡ n → u.at ≤ length s → Sound s u → u.place ≡ u.at → Tallied u (runs_all s n u)) → Tallied t (runs_all s n (run_from s t.at t))
      go (NextRun gap size a) i ih =
          let some : 0 < t.left = omega (arith, e) in
          let k = ok some in
          let least = min t.kept 1 in
          let r = next_known s t.at t.left least t.room k.0 some (omega arith) k.1 gap size a i in
          let u : Runs = runs_of (t.left - 1) (t.kept + 1) (t.room - (gap + size)) (a + size) (a + size) in
          let w : Tallied u (runs_all s n u) = ih u (omega (arith, e)) r.in_image (subst (λ (x : Next). Sound s (past_run t t.at x)) i (run_ok s t.at t some k)) refl in
          let one : min (t.kept + 1) 1 ≡ 1 = omega arith in
          let rest : List Run = kept_at s (a + size) (t.left - 1) 1 (t.room - (gap + size)) in
          let same_rest : kept_for u ≡ rest = ap (λ (x : ℕ). kept_at s (a + size) (t.left - 1) x (t.room - (gap + size))) one in
          let kept = good-kept s t.at t.left least t.room k.0 some (omega arith) k.1 gap size a i in
          let end = good-end s t.at t.left least t.room k.0 some (omega arith) k.1 gap size a i bytes_ok rest in
          let z : Tallied t (runs_all s n u) = record {
            kept-is = omega (arith, w.kept-is, ap length same_rest, ap length kept);
            end_is = w.end_is ∙ ap (λ (rs : List Run). a + size + length (runs_bytes rs)) same_rest ∙ sym end ∙ ap (λ (rs : List Run). t.at + length (runs_bytes rs)) (sym kept);
            place_is = w.place_is ∙ ap (λ (x : ℕ). place_at s (a + size) (t.left - 1) x (t.room - (gap + size))) one ∙ sym (good-place s t.at t.left least t.room k.0 some (omega arith) k.1 gap size a i);
          } in
          subst (λ (x : Next). Tallied t (runs_all s n (past_run t t.at x))) (sym i) z
      go (NextBad p) i ih =
          let some : 0 < t.left = omega (arith, e) in
          let k = ok some in
          let least = min t.kept 1 in
          let u : Runs = runs_of 0 t.kept t.room t.at p in
          let none : kept_for t ≡ [] = bad-kept s t.at t.left least t.room k.0 some (omega arith) k.1 p i in
          let z : Tallied t u = record {
            kept-is = omega (arith, ap length none);
            end_is = omega (arith, ap (λ (rs : List Run). length (runs_bytes rs)) none);
            place_is = sym (bad-place s t.at t.left least t.room k.0 some (omega arith) k.1 p i);
          } in
          subst (λ (x : Next). Tallied t (runs_all s n (past_run t t.at x))) (sym i) (subst (Tallied t) (sym (none_more n u refl)) z)

  pub tally-scan : (t : Scanned) (is : t ≡ scan_in s) (e : t.fields.next ≡ 12)
      → record { runs = t.runs.kept; end = t.runs.at; place = t.runs.place } ≡ tally_at s t.fields.at t.fields.runs (2 * 2 ^ t.fields.mlen)
  tally-scan t is e =
      let first : Runs = runs_of t.fields.runs 0 (2 * 2 ^ t.fields.mlen) t.fields.at t.fields.at in
      let w : Tallied first t.runs =
      subst (Tallied first) (sym (scan_runs s t is e)) (tally-all t.fields.runs first refl (head-sizes s _ _ _ _ _ (scan-headed s t is e)).2 (scan-sound s t is e) refl) in
      let none : min 0 1 ≡ 0 = omega arith in
      let kept : kept_for first ≡ kept_at s t.fields.at t.fields.runs 0 (2 * 2 ^ t.fields.mlen) = ap (λ (x : ℕ). kept_at s t.fields.at t.fields.runs x (2 * 2 ^ t.fields.mlen)) none in
      tally-is _ _ _ _ _ _
      (omega (arith, w.kept-is, ap length kept))
      (w.end_is ∙ ap (λ (rs : List Run). t.fields.at + length (runs_bytes rs)) kept)
      (w.place_is ∙ ap (λ (x : ℕ). place_at s t.fields.at t.fields.runs x (2 * 2 ^ t.fields.mlen)) none)
