-- What the entry point's parts have to show: the bytes of the fresh image stand in the input.
use mathlib.Core.Path.{◌≡◌, refl, sym, ap, ap₂, ◌∙◌, subst}
use mathlib.Core.Bool.{Bool, true, false, cond}
use mathlib.Core.List.{List, [], ◌∷◌, ◌++◌, append_assoc}
use mathlib.Core.Option.{Option, none, some}
use Prim.Native.Nat.{ℕ, zero, suc, ◌+◌, ◌-◌, ◌*◌, ◌^◌, ◌≤◌, ◌<◌}
use native.Mathlib.Omega.{arith}
use lib.Dec.{leb}
use lib.ListN.{length, take, drop, set, replicate, length-append, length-drop, length-take, length-replicate, drop_of_length-le}
use lib.Seq.{sets, sets-eq, length-take-le, take_at, take-take}
use borrow.Author.Tests.{leb-true, le-leb, lt-leb}
use Rattle.numbers_format.specs.Numbers.{encode, encode_all, ByteString}
use Rattle.numbers_format.specs.Formats.{Format}
use Rattle.numbers_format.specs.Formats.Format.{done, bytes}
use Rattle.numbers_format.specs.Parser.{Parsed, later, parse}
use Rattle.numbers_format.specs.Parser.Parsed.{whole, stopped}
use Rattle.numbers_format.proofs.FormatLaws.{accepts-parse}
use Rattle.machine.specs.declared.Machine.{Machine}
use Rattle.numbers_coded.proofs.FromLaws.{from_start, from_bytes, from_end}
use Rattle.numbers_coded.proofs.SizeLaws.{size-bound}
use Rattle.image.specs.declared.ImageError.TheVariants.{NoRoom, Damaged}
use Rattle.image.specs.Cells.{Run}
use Rattle.image.specs.Cells.Run.{run}
use Rattle.image.specs.Images.{Header, version, fields, runs_bytes, spelled}
use Rattle.image.specs.ImageFormat.{Described, all_register_bytes, head_format, image_format}
use Rattle.image.proofs.ImageLaws.{image-out}
use Rattle.image_header.specs.declared.Fields.{Fields}
use Rattle.image_header.specs.Fields.{fields_in, describe, runs_from}
use Rattle.image_header.proofs.BodyLaws.{mapped}
use Rattle.image_header.proofs.HeadLaws.{HeadedOk}
use Rattle.image_header.proofs.HeadLaws.{head-parse}
use Rattle.image_header.proofs.FieldLaws.{head-stops, head-bad}
use Rattle.image_salvage.specs.Fronts.{Front, front}
use Rattle.image_salvage.specs.Fronts.Front.{ahead, stuck}
use Rattle.image_salvage.specs.Salvage.{fault_place, place_in, Announced, announced_format, one_run, runs_kept, KeptPart, kept_from, kept_in, SalvageOutcome, salvaged, salvage_of, salvage}
use Rattle.image_salvage.specs.Parts.{Tally, place_at, kept_at, tally_at, fresh_at, rescued}
use Rattle.image_salvage.proofs.FrontLaws.{bytes_drop, take-before, front-ahead, onto}
use Rattle.image_salvage.proofs.KeepLaws.{run-bytes, kept-ahead, kept-stuck, follows, head-then, stopped-never, whole-one, runs_of_lem, unlater, place-later}
use Rattle.image.specs.Answers.{image_done, image_reply}
use Rattle.image_salvage.proofs.Keeps.{accepts-bytes, behind_head, head-parses, place-ends}

-- ---- the bytes of the runs that are kept

pub record Stands (t : List ℕ) (rs : List Run) : Type 0 where
  pub rest : List ℕ
  pub is : t ≡ runs_bytes rs ++ rest

kept-stands : (count least room : ℕ) (t : List ℕ) → ByteString t → Stands t (runs_kept count least room t)
unfolding runs_kept
kept-stands zero least room t b = record { rest = t; is = refl }
kept-stands (suc more) least room t b = go (front (one_run more least room) t) refl (λ g z k. kept-stands more 1 (room - (g + length z)) (drop k t) (bytes_drop k t b))
  where
    go : (q : Front Run) → front (one_run more least room) t ≡ q
        → ((g : ℕ) (z : List ℕ) (k : ℕ) → Stands (drop k t) (runs_kept more 1 (room - (g + length z)) (drop k t))) → Stands t (runs_kept (suc more) least room t)
    go (stuck p) e ih = subst (Stands t) (sym (kept-stuck more least room t p e)) (record { rest = t; is = refl })
    go (ahead (run g z) k) e ih =
        let w = ih g z k in
        let rs : List Run = runs_kept more 1 (room - (g + length z)) (drop k t) in
        subst (Stands t) (sym (kept-ahead more least room t (run g z) k e))
        (record {
          rest = w.rest;
          is =
              run-bytes more least room t b (run g z) k e
              ∙ ap (λ (x : List ℕ). encode g ++ (encode (length z) ++ (z ++ x))) w.is
              ∙ ap (λ (x : List ℕ). encode g ++ (encode (length z) ++ x)) (sym (append_assoc z (runs_bytes rs) w.rest))
              ∙ ap (λ (x : List ℕ). encode g ++ x) (sym (append_assoc (encode (length z)) (z ++ runs_bytes rs) w.rest))
              ∙ sym (append_assoc (encode g) (encode (length z) ++ (z ++ runs_bytes rs)) w.rest);
        })

kept-few : (count least room : ℕ) (t : List ℕ) → length (runs_kept count least room t) ≤ count
unfolding runs_kept
kept-few zero least room t = omega arith
kept-few (suc more) least room t = go (front (one_run more least room) t) refl (λ g z k. kept-few more 1 (room - (g + length z)) (drop k t))
  where
    go : (q : Front Run) → front (one_run more least room) t ≡ q → ((g : ℕ) (z : List ℕ) (k : ℕ) → length (runs_kept more 1 (room - (g + length z)) (drop k t)) ≤ more)
        → length (runs_kept (suc more) least room t) ≤ suc more
    go (stuck p) e ih = omega (arith, ap length (kept-stuck more least room t p e))
    go (ahead (run g z) k) e ih = omega (arith, ih g z k, ap length (kept-ahead more least room t (run g z) k e))

module _ (s : List ℕ) (at count all_register_bytes : ℕ) (b : ByteString s) (there : at ≤ length s) where
  stands : Stands (drop at s) (kept_at s at count 0 all_register_bytes)
  unfolding kept_at
  stands = kept-stands count 0 all_register_bytes (drop at s) (bytes_drop at s b)

  pub kept_there : at + length (runs_bytes (kept_at s at count 0 all_register_bytes)) ≤ length s
  kept_there =
      let w = stands in
      let l : length (drop at s) ≡ length (runs_bytes (kept_at s at count 0 all_register_bytes)) + length w.rest = ap length w.is ∙ length-append (runs_bytes (kept_at s at count 0 all_register_bytes)) w.rest in
      omega (arith, length-drop at s)

  pub kept-bytes : (n : ℕ) → n ≡ length (runs_bytes (kept_at s at count 0 all_register_bytes)) → take n (drop at s) ≡ runs_bytes (kept_at s at count 0 all_register_bytes)
  kept-bytes n e =
      let w = stands in
      ap (take n) w.is ∙ take_at (runs_bytes (kept_at s at count 0 all_register_bytes)) w.rest n (sym e)

  -- what the code found of them
  pub tally-sizes : count < 2 ^ 64 → (r : Tally) → r ≡ tally_at s at count all_register_bytes → (at ≤ r.end) × (r.end ≤ length s) × (length (encode r.runs) ≤ 10)
  unfolding kept_at
  tally-sizes small r e =
      let end : r.end ≡ at + length (runs_bytes (kept_at s at count 0 all_register_bytes)) = ap (λ (x : Tally). x.end) e in
      let few : r.runs ≤ count = subst (λ (x : ℕ). x ≤ count) (sym (ap (λ (x : Tally). x.runs) e)) (kept-few count 0 all_register_bytes (drop at s)) in
      (omega arith, omega (arith, kept_there), size-bound r.runs (omega arith))

  -- ---- what `rescue` returns and leaves

  abbrev runs_of : List Run
  runs_of = kept_at s at count 0 all_register_bytes

  pub fresh-size : (k : ℕ) → k ≡ length (encode count) → k ≤ at → (n : ℕ) → n ≡ length (encode (length runs_of))
      → at - k + n + (at + length (runs_bytes runs_of) - at) ≡ length (fresh_at s at count all_register_bytes)
  fresh-size k ek h n en =
      let l₁ : length (take (at - length (encode count)) s) ≡ at - length (encode count) = length-take-le (at - length (encode count)) s (omega arith) in
      let l₂ : length (fresh_at s at count all_register_bytes) ≡ length (take (at - length (encode count)) s) + (length (encode (length runs_of)) + length (runs_bytes runs_of)) =
      length-append (take (at - length (encode count)) s) (encode (length runs_of) ++ runs_bytes runs_of) ∙ ap (λ (x : ℕ). length (take (at - length (encode count)) s) + x) (length-append (encode (length runs_of)) (runs_bytes runs_of)) in
      omega (arith, ek, en)

  module _ (room : List ℕ) where
    pub rescue-short : (size : ℕ) → size ≡ length (fresh_at s at count all_register_bytes) → length room < size
        → salvaged (image_reply NoRoom) 0 0 (place_at s at count 0 all_register_bytes) 0 room ≡ rescued s at count all_register_bytes room
    unfolding rescued
    rescue-short size e h = rw (lt-leb (length (fresh_at s at count all_register_bytes)) (length room) (omega (arith, e)))

    pub rescue-done : (size : ℕ) → size ≡ length (fresh_at s at count all_register_bytes) → size ≤ length room → (left : List ℕ) → left ≡ sets room 0 (fresh_at s at count all_register_bytes)
        → salvaged image_done (length runs_of) count (place_at s at count 0 all_register_bytes) size left ≡ rescued s at count all_register_bytes room
    unfolding rescued
    rescue-done size e h left r =
        let fresh : List ℕ = fresh_at s at count all_register_bytes in
        let fits : length fresh ≤ length room = omega (arith, e) in
        let z : 0 + length fresh ≡ length fresh = omega arith in
        rw (le-leb (length fresh) (length room) fits)
        (ap₂ (λ (x : ℕ) (y : List ℕ). salvaged image_done (length runs_of) count (place_at s at count 0 all_register_bytes) x y) e
        (r ∙ sets-eq fresh room 0 (omega arith) ∙ ap (λ (x : ℕ). fresh ++ drop x room) z))

-- the same, by what the code found
module _ (s : List ℕ) (at count all_register_bytes : ℕ) (b : ByteString s) (there : at ≤ length s) (r : Tally) (e : r ≡ tally_at s at count all_register_bytes) (k n : ℕ) (ek : k ≡ length (encode count)) (first : k ≤ at) (en : n ≡ length (encode r.runs)) where
  size_is : at - k + n + (r.end - at) ≡ length (fresh_at s at count all_register_bytes)
  size_is =
      let runs : r.runs ≡ length (kept_at s at count 0 all_register_bytes) = ap (λ (x : Tally). x.runs) e in
      let end : r.end ≡ at + length (runs_bytes (kept_at s at count 0 all_register_bytes)) = ap (λ (x : Tally). x.end) e in
      ap (λ (x : ℕ). at - k + n + (x - at)) end ∙ fresh-size s at count all_register_bytes b there k ek first n (en ∙ ap (λ (x : ℕ). length (encode x)) runs)

  module _ (room : List ℕ) where
    pub tally-short : length room < at - k + n + (r.end - at) → salvaged (image_reply NoRoom) 0 0 r.place 0 room ≡ rescued s at count all_register_bytes room
    tally-short h =
        ap (λ (x : Tally). salvaged (image_reply NoRoom) 0 0 x.place 0 room) e
        ∙ rescue-short s at count all_register_bytes b there room (at - k + n + (r.end - at)) size_is h

    pub tally-done : at - k + n + (r.end - at) ≤ length room → (left : List ℕ) → left ≡ sets room 0 (take (at - k) s ++ (encode r.runs ++ take (r.end - at) (drop at s)))
        → salvaged image_done r.runs count r.place (at - k + n + (r.end - at)) left ≡ rescued s at count all_register_bytes room
    tally-done h left is =
        let rs : List Run = kept_at s at count 0 all_register_bytes in
        let runs : r.runs ≡ length rs = ap (λ (x : Tally). x.runs) e in
        let end : r.end ≡ at + length (runs_bytes rs) = ap (λ (x : Tally). x.end) e in
        let fresh : take (at - k) s ++ (encode r.runs ++ take (r.end - at) (drop at s)) ≡ fresh_at s at count all_register_bytes =
        ap₂ (λ (x y : ℕ). take (at - x) s ++ (encode y ++ take (r.end - at) (drop at s))) ek runs
        ∙ ap (λ (z : List ℕ). take (at - length (encode count)) s ++ (encode (length rs) ++ z)) (kept-bytes s at count all_register_bytes b there (r.end - at) (omega arith)) in
        ap (λ (x : Tally). salvaged image_done x.runs count x.place (at - k + n + (r.end - at)) left) e
        ∙ rescue-done s at count all_register_bytes b there room (at - k + n + (r.end - at)) size_is h left (is ∙ ap (sets room 0) fresh)

pub sets-append : (a t room : List ℕ) (at : ℕ) → sets room at (a ++ t) ≡ sets (sets room at a) (at + length a) t
sets-append [] t room at = ap (λ (x : ℕ). sets room x t) (omega arith)
sets-append (b ∷ a) t room at = sets-append a t (set room at b) (suc at) ∙ ap (λ (x : ℕ). sets (sets (set room at b) (suc at) a) x t) (omega arith)

-- three parts
pub put_three : (room a b d room₁ room₂ room₃ : List ℕ) (at₁ at₂ : ℕ)
    → room₁ ≡ sets room 0 a → at₁ ≡ length a → room₂ ≡ sets room₁ at₁ b → at₂ ≡ at₁ + length b → room₃ ≡ sets room₂ at₂ d
    → room₃ ≡ sets room 0 (a ++ (b ++ d))
put_three room a b d room₁ room₂ room₃ at₁ at₂ r₁ e₁ r₂ e₂ r₃ =
    let first : at₁ ≡ 0 + length a = omega (arith, e₁) in
    sym (sets-append a (b ++ d) room 0 ∙ ap₂ (λ (x : List ℕ) (y : ℕ). sets x y (b ++ d)) (sym r₁) (sym first)
    ∙ sets-append b d room₁ at₁ ∙ ap₂ (λ (x : List ℕ) (y : ℕ). sets x y d) (sym r₂) (sym e₂) ∙ sym r₃)

-- ---- the header, by the numbers that the code found

-- a format that takes all that is left, and tells the header and the number of runs
abbrev telling : ℕ → Header → ℕ → Format Described
telling r h c = bytes r λ _. done (describe h (replicate c (run 0 [])))

-- what it tells
told : (r : ℕ) (h : Header) (c : ℕ) (t : List ℕ) (d : Described) → parse (telling r h c) t ≡ whole d → (length t ≡ r) × (describe h (replicate c (run 0 [])) ≡ d)
unfolding parse
told r h c t d e = go (leb r (length t)) refl e
  where
    x : Described
    x = describe h (replicate c (run 0 []))

    done-of : (u : List ℕ) → later r (parse (done x) u) ≡ whole d → (u ≡ []) × (x ≡ d)
    done-of [] e = (refl, whole-one x d e)
    done-of (b ∷ u) e = absurd (stopped-never d (r + 0) e)

    go : (q : Bool) → leb r (length t) ≡ q → elim q [ true ↦ later r (parse (done x) (drop r t)) | false ↦ stopped (length t) ] ≡ whole d → (length t ≡ r) × (describe h (replicate c (run 0 [])) ≡ d)
    go true q e =
        let w = done-of (drop r t) e in
        let l : length (drop r t) ≡ 0 = ap length w.0 in
        (omega (arith, length-drop r t, leb-true r (length t) q), w.1)
    go false q e = absurd (stopped-never d (length t) e)

-- and where it does
tells : (r : ℕ) (h : Header) (c : ℕ) (t : List ℕ) → length t ≡ r → parse (telling r h c) t ≡ whole (describe h (replicate c (run 0 [])))
unfolding parse
tells r h c t e = rw (le-leb r (length t) (omega (arith, e)), parse, drop_of_length-le t {i = r} (omega (arith, e)))

abbrev announced : Header → ℕ → Announced
announced h c = record { header = h; count = c }

module _ (s : List ℕ) (b : ByteString s) where
  -- a header at fault
  front-bad : (H : Fields) → H ≡ fields_in s → ¬ (H.next ≡ 12) → kept_in s ≡ none
  unfolding kept_in
  front-bad H is e = go (front announced_format s) refl
    where
      go : (q : Front Announced) → front announced_format s ≡ q → kept_from s q ≡ none
      go (stuck q) h = refl
      go (ahead a k) h =
          let A = front-ahead announced_format s b a k h in
          let r : ℕ = length s - k in
          let one : parse (head_format (telling r)) s ≡ stopped H.at = sym (from_start s (head_format (telling r))) ∙ head-stops s H is e (telling r) in
          let two : parse (head_format (telling r)) s ≡ later k (parse (telling r a.header a.count) (drop k s)) = head-then (telling r) s ∙ ap (onto (follows (telling r)) s) h in
          let three : later k (parse (telling r a.header a.count) (drop k s)) ≡ whole (describe a.header (replicate a.count (run 0 []))) =
          ap (later k) (tells r a.header a.count (drop k s) (length-drop k s)) in
          absurd (stopped-never (describe a.header (replicate a.count (run 0 []))) H.at (sym one ∙ two ∙ three))

  pub salvage-bad : (H : Fields) → H ≡ fields_in s → (room : List ℕ) → ¬ (H.next ≡ 12) → salvaged (image_reply (Damaged H.at)) 0 0 H.at 0 room ≡ salvage s room
  unfolding salvage place_in
  salvage-bad H is room e =
      sym (ap₂ (λ (x : ℕ) (y : Option KeptPart). salvage_of x y room) (ap (fault_place s) (head-bad s H is e)) (front-bad H is e))

  module _ (m : Machine) (n f c at : ℕ) (h : HeadedOk s m n f c at) where
    pub front-good : front announced_format s ≡ ahead (announced h.header c) at
    front-good = go (front announced_format s) refl
      where
        r : ℕ
        r = length s - at

        d : Described
        d = describe h.header (replicate c (run 0 []))

        parsed : parse (head_format (telling r)) s ≡ whole d
        parsed =
            sym (from_start s (head_format (telling r))) ∙ h.goes_on (telling r)
            ∙ from_bytes s at r (λ _. done d) (omega (arith, h.there)) ∙ from_end s (at + r) d (omega (arith, h.there))

        go : (q : Front Announced) → front announced_format s ≡ q → q ≡ ahead (announced h.header c) at
        go (stuck q) e = absurd (stopped-never d q (sym (head-then (telling r) s ∙ ap (onto (follows (telling r)) s) e) ∙ parsed))
        go (ahead a k) e =
            let A = front-ahead announced_format s b a k e in
            let w = told r a.header a.count (drop k s) d (unlater k (parse (telling r a.header a.count) (drop k s)) d (sym (head-then (telling r) s ∙ ap (onto (follows (telling r)) s) e) ∙ parsed)) in
            let same-header : a.header ≡ h.header = ap (λ (x : Described). x.header) w.1 in
            let same_count : a.count ≡ c = sym (length-replicate a.count (run 0 [])) ∙ ap (λ (x : Described). length x.body) w.1 ∙ length-replicate c (run 0 []) in
            let same_place : k ≡ at = omega (arith, w.0, length-drop k s, A.there, h.there) in
            ap₂ (λ (x : Announced) (y : ℕ). ahead x y) (ap₂ announced same-header same_count) same_place

-- ---- the bytes of the header

abbrev pub before : Header → List ℕ
before h = encode_all (version h) (encode_all (fields h) [])

all_append : (ns : List ℕ) (t u : List ℕ) → encode_all ns (t ++ u) ≡ encode_all ns t ++ u
all_append [] t u = refl
all_append (n ∷ ns) t u = ap (λ (l : List ℕ). encode n ++ l) (all_append ns t u) ∙ sym (append_assoc (encode n) (encode_all ns t) u)

pub spelled-split : (h : Header) (rs : List Run) → spelled h rs ≡ before h ++ (encode (length rs) ++ runs_bytes rs)
spelled-split h rs =
    let t : List ℕ = encode (length rs) ++ runs_bytes rs in
    ap (encode_all (version h)) (all_append (fields h) [] t) ∙ all_append (version h) (encode_all (fields h) []) t

-- the numbers of an image, up to the number of runs, at the front of an input
head_bytes : (s : List ℕ) → ByteString s → (a : Announced) (k : ℕ) → front announced_format s ≡ ahead a k → take k s ≡ before a.header ++ encode a.count
unfolding place_in
head_bytes s b a k e =
    let p : ℕ = place_in s in
    let A = front-ahead announced_format s b a k e in
    let g = place-ends s b in
    let (u, (d, acc)) = g.goes_on in
    let w : List ℕ = take p s ++ u in
    let same : take p w ≡ take p s = take_at (take p s) u p (length-take-le p s g.there) in
    let p' : ℕ = fault_place (drop k s) (parse (follows behind_head a) (drop k s)) in
    let place : p ≡ k + p' = ap (fault_place s) (head-parses s ∙ ap (onto (follows behind_head) s) e) ∙ place-later s k (parse (follows behind_head a) (drop k s)) A.there in
    let near : take k w ≡ take k s = take-before k p s w (omega arith) same in
    let ew : front announced_format w ≡ ahead a k = A.again w near in
    let hw : ByteString w = accepts-bytes image_format w d acc in
    let r = runs_of_lem (λ rs. record { header = a.header; body = rs }) a.count 0 (all_register_bytes a.header.mlen) (drop k w) (bytes_drop k w hw) d
    (unlater k (parse (behind_head a.header a.count) (drop k w)) d (sym (head-parses w ∙ ap (onto (follows behind_head) w) ew) ∙ accepts-parse image_format w d acc)) in
    let is : w ≡ spelled a.header r.body = (image-out w d acc).are ∙ ap (λ (y : Described). spelled y.header y.body) (sym r.is) in
    let front-is : List ℕ = before a.header ++ encode (length r.body) in
    let split : w ≡ front-is ++ runs_bytes r.body = is ∙ spelled-split a.header r.body ∙ sym (append_assoc (before a.header) (encode (length r.body)) (runs_bytes r.body)) in
    let lw : length w ≡ length front-is + length (runs_bytes r.body) = ap length split ∙ length-append front-is (runs_bytes r.body) in
    let ld : length (drop k w) ≡ length (runs_bytes r.body) = ap length r.bytes-are in
    let kw : k ≤ length w = (front-ahead announced_format w hw a k ew).there in
    let long : length front-is ≡ k = omega (arith, length-drop k w) in
    sym near ∙ ap (take k) split ∙ take_at front-is (runs_bytes r.body) k long ∙ ap (λ (x : ℕ). before a.header ++ encode x) r.many

-- ---- what the entry point returns and leaves

module _ (s : List ℕ) (b : ByteString s) (m : Machine) (n f c at : ℕ) (h : HeadedOk s m n f c at) where
  here : take at s ≡ before h.header ++ encode c
  here = head_bytes s b (announced h.header c) at (front-good s b m n f c at h)

  at-is : at ≡ length (before h.header) + length (encode c)
  at-is = let l : length (take at s) ≡ length (before h.header) + length (encode c) = ap length here ∙ length-append (before h.header) (encode c) in omega (arith, length-take at s, h.there)

  pub count-before : length (encode c) ≤ at
  count-before = omega (arith, at-is)

  total-is : 2 * m.mlen ≡ all_register_bytes h.header.mlen
  total-is = ap (λ (x : Machine). 2 * x.mlen) h.machine-is

  runs : List Run
  runs = runs_kept c 0 (all_register_bytes h.header.mlen) (drop at s)

  kept-is : kept_in s ≡ some (record { header = h.header; announced = c; body = runs })
  unfolding kept_in runs
  kept-is = ap (kept_from s) (front-good s b m n f c at h)

  fresh-is : fresh_at s at c (2 * m.mlen) ≡ spelled h.header runs
  unfolding kept_at runs
  fresh-is =
      let first : take (at - length (encode c)) s ≡ before h.header =
      sym (take-take (at - length (encode c)) at s (omega arith)) ∙ ap (take (at - length (encode c))) here ∙ take_at (before h.header) (encode c) (at - length (encode c)) (omega (arith, at-is)) in
      ap₂ (λ (x : List ℕ) (y : ℕ). x ++ (encode (length (runs_kept c 0 y (drop at s))) ++ runs_bytes (runs_kept c 0 y (drop at s)))) first total-is
      ∙ sym (spelled-split h.header runs)

  place_is : place_at s at c 0 (2 * m.mlen) ≡ place_in s
  unfolding place_at place_in
  place_is = go (runs_from s at c 0 (2 * m.mlen)) ∙ ap (fault_place s) (sym (head-parse s m n f c at h))
    where
      go : (q : Parsed Described) → fault_place s q ≡ fault_place s (mapped (λ d. describe h.header d.body) q)
      go (whole d) = refl
      go (stopped p) = refl

  pub salvage-good : (room : List ℕ) → rescued s at c (2 * m.mlen) room ≡ salvage s room
  unfolding rescued salvage kept_at runs
  salvage-good room =
      let n-is : runs_kept c 0 (2 * m.mlen) (drop at s) ≡ runs = ap (λ (x : ℕ). runs_kept c 0 x (drop at s)) total-is in
      out-is (fresh_at s at c (2 * m.mlen)) (spelled h.header runs) fresh-is (length (runs_kept c 0 (2 * m.mlen) (drop at s))) (length runs) (ap length n-is) (place_at s at c 0 (2 * m.mlen)) (place_in s) place_is
      ∙ sym (ap (λ (x : Option KeptPart). salvage_of (place_in s) x room) kept-is)
    where
      out : List ℕ → ℕ → ℕ → SalvageOutcome
      out fresh n place =
          cond (leb (length fresh) (length room)) (salvaged image_done n c place (length fresh) (fresh ++ drop (length fresh) room)) (salvaged (image_reply NoRoom) 0 0 place 0 room)

      out-is : (f g : List ℕ) → f ≡ g → (n k : ℕ) → n ≡ k → (p q : ℕ) → p ≡ q → out f n p ≡ out g k q
      out-is f g e n k i p q j = ap₂ (λ (x : List ℕ) (y : ℕ). out x y p) e i ∙ ap (out g k) j
