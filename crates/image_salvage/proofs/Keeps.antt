-- The theorems of specs/Theorems.antt on what is kept.
use mathlib.Core.Path.{◌≡◌, refl, sym, ap, ap₂, ◌∙◌, subst}
use mathlib.Core.Bool.{Bool, true, false, cond}
use mathlib.Core.List.{List, [], ◌∷◌, ◌++◌, append-nil}
use mathlib.Core.Logic.{◌⊎◌, inl, inr}
use mathlib.Core.Option.{Option, none, some}
use Prim.Native.Nat.{ℕ, zero, suc, ◌+◌, ◌-◌, ◌/◌, ◌≤◌, ◌<◌}
use native.Mathlib.Omega.{arith}
use lib.Dec.{leb, ltb}
use lib.ListN.{length, take, drop, length-append, length-take, length-drop}
use lib.Seq.{length-take-le, take_all, take-length, take_at, drop_at}
use borrow.Author.Tests.{leb-true, leb-false, le-leb, lt-leb, ltb-true, ltb-false}
use Rattle.numbers_format.specs.Numbers.{encode, ByteString}
use Rattle.numbers_format.specs.Formats.{Ends, Format, Accepts, Accepted}
use Rattle.numbers_format.specs.Formats.Format.{done, number, bytes}
use Rattle.numbers_format.specs.Parser.{Parsed, parse}
use Rattle.numbers_format.specs.Parser.Parsed.{whole, stopped}
use Rattle.numbers_format.proofs.NumberLaws.{encode-last, encode-more}
use Rattle.numbers_format.proofs.FormatLaws.{ParseRight, accepts-parse, parse-right}
use Rattle.image.specs.Cells.{Run, cells_of, runs, Fit}
use Rattle.image.specs.Cells.Run.{run}
use Rattle.image.specs.Images.{Header, header_of, runs_bytes, spelled, IsImage}
use Rattle.image.specs.ImageFormat.{Described, runs_format, all_register_bytes, image_format}
use Rattle.image.specs.declared.ImageError.TheVariants.{NoRoom, Damaged}
use Rattle.image.proofs.ImageLaws.{Held, AllBytes, Spelling, image-live, image-out, image-in}
use Rattle.image.proofs.Images.{image-accepts, format-is-images}
use Rattle.image_salvage.specs.Fronts.{Front, front}
use Rattle.image_salvage.specs.Fronts.Front.{ahead, stuck}
use Rattle.image_salvage.specs.Salvage.{fault_place, place_in, Announced, announced_format, runs_kept, KeptPart, kept_from, kept_in, SalvageOutcome, salvaged, salvage_of, salvage}
use Rattle.image_salvage.specs.Theorems.{PlaceAsInSix, end_of, fresh_of, KeepsFirst, SalvageIsExact, FreshIsImage, SoundUnchanged, SalvageRefusalChangesNothing}
use Rattle.image_salvage.proofs.FrontLaws.{bytes_drop, take_behind, take-before, as_long, Ahead, ahead-one, stuck-never, front-ahead, onto}
use Rattle.image.specs.Answers.{image_done, image_reply}
use Rattle.image_salvage.proofs.KeepLaws.{follows, head-then, KeptOf, stopped-never, runs_of_lem, unlater, place-later}

-- ---- what is accepted are bytes

bytes-append : (s t : List ℕ) → ByteString s → ByteString t → ByteString (s ++ t)
bytes-append [] t hs ht = ht
bytes-append (b ∷ s) t hs ht = (hs.0, bytes-append s t hs.1 ht)

bytes-encode : (f n : ℕ) → n ≤ f → ByteString (encode n)
bytes-encode zero n h = subst ByteString (sym (encode-last n (omega arith))) (omega arith, tt)
bytes-encode (suc f) n h = go (λ q. bytes-encode f (n / 128) (omega arith)) (ltb n 128) refl
  where
    go : (128 ≤ n → ByteString (encode (n / 128))) → (b : Bool) → ltb n 128 ≡ b → ByteString (encode n)
    go ih true e = subst ByteString (sym (encode-last n (ltb-true n 128 e))) (omega (arith, ltb-true n 128 e), tt)
    go ih false e = subst ByteString (sym (encode-more n (ltb-false n 128 e))) (omega arith, ih (ltb-false n 128 e))

pub accepts-bytes : {X : Type 0} (f : Format X) (s : List ℕ) (x : X) → Accepts f s x → ByteString s
accepts-bytes (done y) s x a = subst ByteString (sym a.0) tt
accepts-bytes (number rs k) s x (n, t, i, e, a) = subst ByteString (sym e) (bytes-append (encode n) t (bytes-encode n n (omega arith)) (accepts-bytes (k n) t x a))
accepts-bytes (bytes m k) s x (b, t, i, e, a) = subst ByteString (sym e) (bytes-append b t i.1 (accepts-bytes (k b) t x a))

-- ---- the place

pub place-ends : (s : List ℕ) → ByteString s → Ends (Accepted image_format) s (place_in s)
unfolding place_in
place-ends s b = go (parse image_format s) (parse-right image_format s image-live b)
  where
    go : (q : Parsed Described) → ParseRight image_format s q → Ends (Accepted image_format) s (fault_place s q)
    go (stopped p) r = r
    go (whole d) a = record {
      there = omega arith;
      goes_on = ([], (d, subst (λ (z : List ℕ). Accepts image_format z d) (sym (append-nil (take (length s) s) ∙ take-length s)) a));
      stops = λ h. absurd (omega arith);
    }

pub place-image : (s : List ℕ) → ByteString s → Ends IsImage s (place_in s)
place-image s b =
    let e = place-ends s b in
    record { there = e.there; goes_on = (e.goes_on.0, (format-is-images _).1 e.goes_on.1); stops = λ h u i. e.stops h u ((format-is-images _).0 i) }

-- by whether there is room
either : (P : SalvageOutcome → Type 0) (t : Bool) (a b : SalvageOutcome) → P a → P b → P (cond t a b)
either P true a b x y = x
either P false a b x y = y

pub place_out : (s room : List ℕ) → (salvage s room).place ≡ place_in s
unfolding salvage
place_out s room = go (kept_in s)
  where
    go : (q : Option KeptPart) → (salvage_of (place_in s) q room).place ≡ place_in s
    go none = refl
    go (some k) = either (λ o. o.place ≡ place_in s) (leb (length (spelled k.header k.body)) (length room)) _ _ refl refl

pub place-as-in-six : PlaceAsInSix
place-as-in-six s room b = subst (Ends IsImage s) (sym (place_out s room)) (place-image s b)

-- ---- every run that ends before it

-- Of an image d: its header, how many runs it has, and its first runs, which are those that end before the place p.
pub record KeepsRuns (p : ℕ) (d : Described) (k : KeptPart) : Type 0 where
  pub same-header : k.header ≡ d.header
  pub all-announced : k.announced ≡ length d.body
  pub first_runs : k.body ≡ take (length k.body) d.body
  pub end_before : end_of d (length k.body) ≤ p
  pub no_other : length k.body < length d.body → p < end_of d (suc (length k.body))

-- nothing, if the header ends behind it
abbrev pub KeepsOf : (p : ℕ) → Described → Option KeptPart → Type 0
KeepsOf p d none = p < end_of d 0
KeepsOf p d (some k) = KeepsRuns p d k

pub runs-split : (n : ℕ) (rs : List Run) → length (runs_bytes rs) ≡ length (runs_bytes (take n rs)) + length (runs_bytes (drop n rs))
runs-split zero rs = omega arith
runs-split (suc n) [] = refl
runs-split (suc n) (run g b ∷ rs) =
    let long : (t : List ℕ) → length (encode g ++ (encode (length b) ++ (b ++ t))) ≡ length (encode g) + (length (encode (length b)) + (length b + length t)) =
    λ t. length-append (encode g) (encode (length b) ++ (b ++ t)) ∙ ap (λ (x : ℕ). length (encode g) + x) (length-append (encode (length b)) (b ++ t) ∙ ap (λ (x : ℕ). length (encode (length b)) + x) (length-append b t)) in
    omega (arith, long (runs_bytes rs), long (runs_bytes (take n rs)), runs-split n rs)

-- the runs behind a machine's numbers
abbrev pub behind_head : Header → ℕ → Format Described
behind_head h c = runs_format (λ rs. record { header = h; body = rs }) c 0 (all_register_bytes h.mlen)

pub head-parses : (s : List ℕ) → parse image_format s ≡ onto (follows behind_head) s (front announced_format s)
unfolding image_format
head-parses s = head-then behind_head s

fourteen-not : ◌≡◌ {A = ℕ} 14 0 → ⊥
fourteen-not e = omega arith

-- an input s, and an image w that is the same up to the place p of s
module _ (s w : List ℕ) (hs : ByteString s) (hw : ByteString w) (p : ℕ) (ep : p ≡ place_in s) (same : take p w ≡ take p s) where
  -- the image's header h, of k bytes, and its runs
  module _ (a : Announced) (k : ℕ) (e : front announced_format w ≡ ahead a k) (r : List Run) (are : drop k w ≡ runs_bytes r) (many : length r ≡ a.count) (is : w ≡ spelled a.header r)
      (keeps : (t : List ℕ) → ByteString t → (q : ℕ) → q ≡ fault_place t (parse (behind_head a.header a.count) t) → take q (drop k w) ≡ take q t → KeptOf q (runs_kept a.count 0 (all_register_bytes a.header.mlen) t) r) where
    d : Described
    d = record { header = a.header; body = r }

    here : Ahead announced_format w a k
    here = front-ahead announced_format w hw a k e

    end_is : (n : ℕ) → end_of d n ≡ k + length (runs_bytes (take n r))
    unfolding d
    end_is n =
        let l : length (drop k w) ≡ length (runs_bytes r) = ap length are in
        let m : length w ≡ length (spelled a.header r) = ap length is in
        omega (arith, length-drop k w, here.there, runs-split n r)

    kept_of : (q : Front Announced) → front announced_format s ≡ q → KeepsOf p d (kept_from s q)
    unfolding d place_in
    kept_of (stuck q) i = go (leb k p) refl
      where
        go : (t : Bool) → leb k p ≡ t → p < end_of d 0
        go false j = omega (arith, leb-false k p j, end_is 0)
        go true j = absurd (stuck-never a k q (sym i ∙ here.again s (sym (take-before k p s w (leb-true k p j) same))))
    kept_of (ahead b l) i =
        let A = front-ahead announced_format s hs b l i in
        let p' : ℕ = fault_place (drop l s) (parse (follows behind_head b) (drop l s)) in
        let place : p ≡ l + p' = ep ∙ ap (fault_place s) (head-parses s ∙ ap (onto (follows behind_head) s) i) ∙ place-later s l (parse (follows behind_head b) (drop l s)) A.there in
        let z = ahead-one a b k l (sym e ∙ A.again w (take-before l p s w (omega arith) same)) in
        let same' : take p' (drop l w) ≡ take p' (drop l s) = take_behind l p' s w A.there (as_long l s w A.there (take-before l p s w (omega arith) same)) (subst (λ (x : ℕ). take x w ≡ take x s) place same) in
        let same'' : take p' (drop k w) ≡ take p' (drop l s) = subst (λ (x : ℕ). take p' (drop x w) ≡ take p' (drop l s)) (sym z.1) same' in
        let ko : KeptOf p' (runs_kept a.count 0 (all_register_bytes a.header.mlen) (drop l s)) r =
        keeps (drop l s) (bytes_drop l s hs) p' (ap (λ (x : Announced). fault_place (drop l s) (parse (follows behind_head x) (drop l s))) (sym z.0)) same'' in
        subst (λ (x : Announced). KeepsOf p d (kept_from s (ahead x l))) z.0
        (record {
          same-header = refl;
          all-announced = sym many;
          first_runs = ko.first;
          end_before = omega (arith, ko.before, end_is (length (runs_kept a.count 0 (all_register_bytes a.header.mlen) (drop l s))), z.1);
          no_other = λ less. omega (arith, ko.next less, end_is (suc (length (runs_kept a.count 0 (all_register_bytes a.header.mlen) (drop l s)))), z.1);
        })

  keeps-of : (x : Described) → Accepts image_format w x → KeepsOf p x (kept_in s)
  unfolding kept_in d
  keeps-of x acc = go (front announced_format w) refl (sym (head-parses w) ∙ accepts-parse image_format w x acc)
    where
      sp : Spelling w x
      sp = image-out w x acc

      go : (q : Front Announced) → front announced_format w ≡ q → onto (follows behind_head) w q ≡ whole x → KeepsOf p x (kept_from s (front announced_format s))
      go (stuck q) e j = absurd (stopped-never x q j)
      go (ahead a k) e j =
          let r = runs_of_lem (λ rs. record { header = a.header; body = rs }) a.count 0 (all_register_bytes a.header.mlen) (drop k w) (bytes_drop k w hw) x
          (unlater k (parse (behind_head a.header a.count) (drop k w)) x j) in
          let is : w ≡ spelled a.header r.body = sp.are ∙ ap (λ (y : Described). spelled y.header y.body) (sym r.is) in
          subst (λ (y : Described). KeepsOf p y (kept_from s (front announced_format s))) r.is
          (kept_of a k e r.body r.bytes-are r.many is r.keeps (front announced_format s) refl)

pub keeps-every-run : (s : List ℕ) → ByteString s → (u : List ℕ) (d : Described) → Accepts image_format (take (place_in s) s ++ u) d → KeepsOf (place_in s) d (kept_in s)
keeps-every-run s b u d a =
    let p : ℕ = place_in s in
    let there : p ≤ length s = (place-ends s b).there in
    keeps-of s (take p s ++ u) b (accepts-bytes image_format (take p s ++ u) d a) p refl (take_at (take p s) u p (length-take-le p s there)) d a

-- a salvage by what is kept
module _ (s room : List ℕ) (k : KeptPart) (e : kept_in s ≡ some k) where
  abbrev fresh : List ℕ
  fresh = spelled k.header k.body

  pub out-done : length fresh ≤ length room → salvage s room ≡ salvaged image_done (length k.body) k.announced (place_in s) (length fresh) (fresh ++ drop (length fresh) room)
  unfolding salvage
  out-done h = rw (e, le-leb (length fresh) (length room) h)

  pub out-short : length room < length fresh → salvage s room ≡ salvaged (image_reply NoRoom) 0 0 (place_in s) 0 room
  unfolding salvage
  out-short h = rw (e, lt-leb (length fresh) (length room) h)

module _ (s room : List ℕ) (d : Described) where
  abbrev pub Exact : ℕ → Type 0
  Exact p = ((p < end_of d 0) × (salvage s room ≡ salvaged (image_reply (Damaged p)) 0 0 p 0 room)) ⊎ ((n : ℕ) × KeepsFirst s room p d n)

  exact-some : (k : KeptPart) → kept_in s ≡ some k → KeepsRuns (place_in s) d k → KeepsFirst s room (place_in s) d (length k.body)
  exact-some k e h =
      let fresh-is : spelled k.header k.body ≡ fresh_of d (length k.body) = ap₂ (λ (x : Header) (y : List Run). spelled x y) h.same-header h.first_runs in
      let short : length k.body ≡ length (take (length k.body) d.body) = ap length h.first_runs in
      record {
        there = omega (arith, short, length-take (length k.body) d.body);
        end_before = h.end_before;
        no_other = h.no_other;
        nought = λ fits.
            out-done s room k e (subst (λ (z : List ℕ). length z ≤ length room) (sym fresh-is) fits)
            ∙ ap₂ (λ (x : ℕ) (z : List ℕ). salvaged image_done (length k.body) x (place_in s) (length z) (z ++ drop (length z) room)) h.all-announced fresh-is;
        fourteen = λ less. out-short s room k e (subst (λ (z : List ℕ). length room < length z) (sym fresh-is) less);
      }

  pub exact-of : (q : Option KeptPart) → kept_in s ≡ q → KeepsOf (place_in s) d q → Exact (place_in s)
  unfolding salvage
  exact-of none e h = inl (h, ap (λ (q : Option KeptPart). salvage_of (place_in s) q room) e)
  exact-of (some k) e h = inr (length k.body, exact-some k e h)

pub salvage-is-exact : SalvageIsExact
salvage-is-exact s room b =
    subst (λ (p : ℕ). (u : List ℕ) (d : Described) → Accepts image_format (take p s ++ u) d → Exact s room d p) (sym (place_out s room))
    (λ u d a. exact-of s room d (kept_in s) refl (keeps-every-run s b u d a))

-- ---- what is kept is an image

fit-take : (least n : ℕ) (rs : List Run) (k : ℕ) → Fit least n rs → Fit least n (take k rs)
fit-take least n rs zero h = tt
fit-take least n [] (suc k) h = tt
fit-take least n (run g b ∷ rs) (suc k) h = (h.0, fit-take 1 (n - (g + length b)) rs k h.1)

bytes_take : (rs : List Run) (k : ℕ) → AllBytes rs → AllBytes (take k rs)
bytes_take rs zero h = tt
bytes_take [] (suc k) h = tt
bytes_take (run g b ∷ rs) (suc k) h = (h.0, bytes_take rs k h.1)

-- what is kept of an image d
module _ (p : ℕ) (d : Described) (k : KeptPart) (h : KeepsRuns p d k) (s : List ℕ) (a : Accepts image_format s d) where
  sp : Spelling s d
  sp = image-out s d a

  pub kept-fits : Fit 0 (all_register_bytes k.header.mlen) k.body
  kept-fits =
      subst (λ (x : Header). Fit 0 (all_register_bytes x.mlen) k.body) (sym h.same-header)
      (subst (Fit 0 (all_register_bytes d.header.mlen)) (sym h.first_runs) (fit-take 0 (all_register_bytes d.header.mlen) d.body (length k.body) sp.fits))

  pub kept-accepted : Accepts image_format (spelled k.header k.body) (record { header = k.header; body = k.body })
  kept-accepted =
      image-in k.header k.body (subst Held (sym h.same-header) sp.sound) kept-fits
      (subst AllBytes (sym h.first_runs) (bytes_take d.body (length k.body) sp.all-bytes))

pub kept-image : (s : List ℕ) → ByteString s → (k : KeptPart) → kept_in s ≡ some k → IsImage (spelled k.header k.body)
kept-image s b k e =
    let g = (place-ends s b).goes_on in
    let h : KeepsRuns (place_in s) g.1.0 k = subst (KeepsOf (place_in s) g.1.0) e (keeps-every-run s b g.0 g.1.0 g.1.1) in
    (format-is-images (spelled k.header k.body)).1 (record { header = k.header; body = k.body }, kept-accepted (place_in s) g.1.0 k h (take (place_in s) s ++ g.0) g.1.1)

-- what was written, where it was done
pub record Wrote (s room : List ℕ) : Type 0 where
  pub kept : KeptPart
  pub is-kept : kept_in s ≡ some kept
  pub is-written : take (salvage s room).size (salvage s room).room ≡ spelled kept.header kept.body
  pub stays : drop (salvage s room).size (salvage s room).room ≡ drop (salvage s room).size room

pub wrote : (s room : List ℕ) → (salvage s room).answer.number ≡ 0 → Wrote s room
unfolding salvage
wrote s room h = go (kept_in s) refl h
  where
    go : (q : Option KeptPart) → kept_in s ≡ q → (salvage_of (place_in s) q room).answer.number ≡ 0 → Wrote s room
    go none e h = absurd (omega (arith, h))
    go (some k) e h = by (leb (length (spelled k.header k.body)) (length room)) refl
      where
        fresh : List ℕ
        fresh = spelled k.header k.body

        by : (t : Bool) → leb (length fresh) (length room) ≡ t → Wrote s room
        by true j =
            let o = out-done s room k e (leb-true (length fresh) (length room) j) in
            record {
              kept = k;
              is-kept = e;
              is-written = ap (λ (x : SalvageOutcome). take x.size x.room) o ∙ take_at fresh (drop (length fresh) room) (length fresh) refl;
              stays = ap (λ (x : SalvageOutcome). drop x.size x.room) o ∙ drop_at fresh (drop (length fresh) room) (length fresh) refl ∙ ap (λ (x : SalvageOutcome). drop x.size room) (sym o);
            }
        by false j =
            let o : (salvage s room).answer.number ≡ 14 = ap (λ (x : SalvageOutcome). x.answer.number) (out-short s room k e (leb-false (length fresh) (length room) j)) in
            absurd (fourteen-not (sym o ∙ ap (λ (q : Option KeptPart). (salvage_of (place_in s) q room).answer.number) e ∙ h))

pub fresh-is-image : FreshIsImage
fresh-is-image s room b h =
    let w = wrote s room h in
    (subst IsImage (sym w.is-written) (kept-image s b w.kept w.is-kept), w.stays)

-- ---- a sound image

module _ (s room : List ℕ) (i : IsImage s) (fits : length s ≤ length room) where
  abbrev own : Described
  own = record { header = header_of i.machine i.seals; body = runs (cells_of i.registers i.marks) }

  own-accepted : Accepts image_format s own
  own-accepted = subst (λ (z : List ℕ). Accepts image_format z own) (sym i.is-its-image) (image-accepts i.machine i.seals i.registers i.marks i.not-at-fault i.are-bytes)

  same_size : length s ≡ length (spelled own.header own.body)
  same_size = ap length (image-out s own own-accepted).are

  -- its place is its length
  whole-place : place_in s ≡ length s
  unfolding place_in
  whole-place = ap (fault_place s) (accepts-parse image_format s own own-accepted)

  own-exact : Exact s room own (place_in s)
  own-exact =
      let all : take (place_in s) s ++ [] ≡ s = append-nil (take (place_in s) s) ∙ take_all (place_in s) s (omega (arith, whole-place)) in
      exact-of s room own (kept_in s) refl (keeps-every-run s (accepts-bytes image_format s own own-accepted) [] own (subst (λ (z : List ℕ). Accepts image_format z own) (sym all) own-accepted))

  abbrev many : ℕ
  many = length (runs (cells_of i.registers i.marks))

  unchanged : Exact s room own (place_in s) → salvage s room ≡ salvaged image_done many many (length s) (length s) (s ++ drop (length s) room)
  unchanged (inl h) = absurd (omega (arith, h.0, whole-place, same_size))
  unchanged (inr (n, k)) = go (ltb n many) refl
    where
      go : (t : Bool) → ltb n many ≡ t → salvage s room ≡ salvaged image_done many many (length s) (length s) (s ++ drop (length s) room)
      go true j = absurd (omega (arith, k.no_other (ltb-true n many j), whole-place, same_size))
      go false j =
          let all : n ≡ many = omega (arith, k.there, ltb-false n many j) in
          let fresh-is : fresh_of own n ≡ s = ap (spelled own.header) (take_all n own.body (ltb-false n many j)) ∙ sym (image-out s own own-accepted).are in
          k.nought (subst (λ (z : List ℕ). length z ≤ length room) (sym fresh-is) fits)
          ∙ ap₂ (λ (x : ℕ) (z : List ℕ). salvaged image_done x many (place_in s) (length z) (z ++ drop (length z) room)) all fresh-is
          ∙ ap (λ (x : ℕ). salvaged image_done many many x (length s) (s ++ drop (length s) room)) whole-place

pub sound-unchanged : SoundUnchanged
sound-unchanged s room i fits = unchanged s room i fits (own-exact s room i fits)

-- ---- refusals

pub salvage-refusal : SalvageRefusalChangesNothing
unfolding salvage
salvage-refusal s room = go (kept_in s)
  where
    Left : SalvageOutcome → Type 0
    Left o = ¬ (o.answer.number ≡ 0) → (o.kept ≡ 0) × (o.announced ≡ 0) × (o.size ≡ 0) × (o.room ≡ room)

    go : (q : Option KeptPart) → Left (salvage_of (place_in s) q room)
    go none = λ h. (refl, refl, refl, refl)
    go (some k) = either Left (leb (length (spelled k.header k.body)) (length room)) _ _ (λ h. absurd (h refl)) (λ h. (refl, refl, refl, refl))
