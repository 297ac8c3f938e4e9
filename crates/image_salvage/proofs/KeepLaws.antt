-- What is kept of an input, beside an image that goes on from its place.
use mathlib.Core.Path.{◌≡◌, refl, sym, ap, ap₂, ◌∙◌, subst}
use mathlib.Core.Bool.{Bool, true, false, cond}
use mathlib.Core.List.{List, [], ◌∷◌, ◌++◌}
use Prim.Native.Nat.{ℕ, zero, suc, ◌+◌, ◌-◌, ◌*◌, ◌^◌, ◌≤◌, ◌<◌, min}
use native.Mathlib.Omega.{arith}
use lib.Dec.{leb, eqb}
use lib.ListN.{length, take, drop, length-append, length-drop, take-append-drop}
use lib.Seq.{length-take-le, drop-drop}
use borrow.Author.Tests.{leb-true, leb-false}
use Rattle.numbers_format.specs.Numbers.{span, encode, ByteString}
use Rattle.numbers_format.specs.Formats.{Format}
use Rattle.numbers_format.specs.Formats.Format.{done, number, bytes}
use Rattle.numbers_format.specs.Parser.{Parsed, later, parse}
use Rattle.numbers_format.specs.Parser.Parsed.{whole, stopped}
use Rattle.image.specs.Cells.{Run}
use Rattle.image.specs.Cells.Run.{run}
use Rattle.machine.specs.Geometry.{range}
use Rattle.image.specs.Images.{Seals, Header, runs_bytes}
use Rattle.image.specs.ImageFormat.{Described, top_rlen, top_mlen, least_mlen, mtypes, version_format, shape_format, tiles_format, ranges_format, counts, seals_format, runs_format, head_format}
use Rattle.image_header.specs.Fields.{numbers_of}
use Rattle.image_header.proofs.HeadLaws.{runs_part, count_part, seals_part, tiles_part}
use Rattle.image_salvage.specs.Fronts.{Front, front}
use Rattle.image_salvage.specs.Fronts.Front.{ahead, stuck}
use Rattle.image_salvage.specs.Salvage.{fault_place, Announced, announced_format, one_run, taken, runs_kept}
use Rattle.image_salvage.proofs.FrontLaws.{bytes_drop, take_behind, take-before, as_long, read_is, Ahead, ahead-one, stuck-never, front-ahead, number-ahead, bytes-ahead, onto, Then, then-done, then-number, then-bytes}

-- ---- the header, then what follows it: part by part, as the format has them

module _ (K : Announced → Format Described) where
  version-then : (f : ℕ → ℕ → ℕ → Format Announced) (g : ℕ → ℕ → ℕ → Format Described) → ((v rule elen : ℕ) → Then K (f v rule elen) (g v rule elen)) → Then K (version_format f) (version_format g)
  version-then f g h = then-number K (span 1 4) (λ v. behind_it f v (eqb v 1) (eqb v 2)) (λ v. behind_it g v (eqb v 1) (eqb v 2)) (λ v. by v (eqb v 1) (eqb v 2))
    where
      behind_it : {X : Type 0} → (ℕ → ℕ → ℕ → Format X) → ℕ → Bool → Bool → Format X
      behind_it K v t u = cond t (K v 0 5) (cond u (number (span 1 1) λ rule. K v rule 5) (number (span 0 1) λ rule. number (span 5 6) λ elen. K v rule elen))

      by : (v : ℕ) (t u : Bool) → Then K (behind_it f v t u) (behind_it g v t u)
      by v true u = h v 0 5
      by v false true = then-number K (span 1 1) (λ rule. f v rule 5) (λ rule. g v rule 5) (λ rule. h v rule 5)
      by v false false =
          then-number K (span 0 1) (λ rule. number (span 5 6) (f v rule)) (λ rule. number (span 5 6) (g v rule)) λ rule.
          then-number K (span 5 6) (f v rule) (g v rule) (h v rule)

  shape-then : (f : ℕ → ℕ → ℕ → ℕ → ℕ → Format Announced) (g : ℕ → ℕ → ℕ → ℕ → ℕ → Format Described)
      → ((v rule elen r m : ℕ) → Then K (f v rule elen r m) (g v rule elen r m)) → Then K (shape_format f) (shape_format g)
  shape-then f g h =
      version-then (λ v rule elen. rlen_then v elen (f v rule elen)) (λ v rule elen. rlen_then v elen (g v rule elen)) λ v rule elen.
      then-number K (span (suc elen) (top_rlen v)) (λ r. mlen_then v elen r (f v rule elen r)) (λ r. mlen_then v elen r (g v rule elen r)) λ r.
      then-number K (span (least_mlen v elen r) (top_mlen v)) (f v rule elen r) (g v rule elen r) (h v rule elen r)
    where
      mlen_then : {X : Type 0} → (v elen r : ℕ) → (ℕ → Format X) → Format X
      mlen_then v elen r k = number (span (least_mlen v elen r) (top_mlen v)) k

      rlen_then : {X : Type 0} → (v elen : ℕ) → (ℕ → ℕ → Format X) → Format X
      rlen_then v elen k = number (span (suc elen) (top_rlen v)) λ r. mlen_then v elen r (k r)

  tiles-then : (elen rows columns : ℕ) (f : ℕ → ℕ → ℕ → ℕ → Format Announced) (g : ℕ → ℕ → ℕ → ℕ → Format Described)
      → ((t tm tk tn : ℕ) → Then K (f t tm tk tn) (g t tm tk tn)) → Then K (tiles_format elen rows columns f) (tiles_format elen rows columns g)
  tiles-then elen rows columns f g h =
      then-number K (mtypes elen)
      (λ t. number (span 0 rows) λ tm. number (span 0 (min rows columns)) λ tk. number (span 0 columns) (f t tm tk))
      (λ t. number (span 0 rows) λ tm. number (span 0 (min rows columns)) λ tk. number (span 0 columns) (g t tm tk)) λ t.
      then-number K (span 0 rows)
      (λ tm. number (span 0 (min rows columns)) λ tk. number (span 0 columns) (f t tm tk))
      (λ tm. number (span 0 (min rows columns)) λ tk. number (span 0 columns) (g t tm tk)) λ tm.
      then-number K (span 0 (min rows columns)) (λ tk. number (span 0 columns) (f t tm tk)) (λ tk. number (span 0 columns) (g t tm tk)) λ tk.
      then-number K (span 0 columns) (f t tm tk) (g t tm tk) (h t tm tk)

  ranges-then : (n : ℕ) (f : Seals → Format Announced) (g : Seals → Format Described) → ((rs : Seals) → Then K (f rs) (g rs)) → Then K (ranges_format n f) (ranges_format n g)
  unfolding ranges_format
  ranges-then zero f g h = h []
  ranges-then (suc n) f g h =
      then-number K (span 0 (2 ^ 64 - 1))
      (λ st. number (span 0 (2 ^ 64 - 1 - st)) λ ln. ranges_format n λ rs. f (range st ln ∷ rs))
      (λ st. number (span 0 (2 ^ 64 - 1 - st)) λ ln. ranges_format n λ rs. g (range st ln ∷ rs)) λ st.
      then-number K (span 0 (2 ^ 64 - 1 - st)) (λ ln. ranges_format n λ rs. f (range st ln ∷ rs)) (λ ln. ranges_format n λ rs. g (range st ln ∷ rs)) λ ln.
      ranges-then n (λ rs. f (range st ln ∷ rs)) (λ rs. g (range st ln ∷ rs)) (λ rs. h (range st ln ∷ rs))

  seals-then : (v : ℕ) (f : Seals → Format Announced) (g : Seals → Format Described) → ((rs : Seals) → Then K (f rs) (g rs)) → Then K (seals_format v f) (seals_format v g)
  seals-then v f g h = by (eqb v 4)
    where
      by : (t : Bool) → Then K (cond t (number counts λ n. ranges_format n f) (ranges_format 1 f)) (cond t (number counts λ n. ranges_format n g) (ranges_format 1 g))
      by true = then-number K counts (λ n. ranges_format n f) (λ n. ranges_format n g) (λ n. ranges-then n f g h)
      by false = ranges-then 1 f g h

-- what follows the number of runs
abbrev pub follows : (Header → ℕ → Format Described) → Announced → Format Described
follows K a = K a.header a.count

pub head-then : (K : Header → ℕ → Format Described) → Then (follows K) announced_format (head_format K)
unfolding announced_format
head-then K =
    shape-then F (tiles_part D) (tiles_part K) λ v rule elen r m.
    tiles-then F elen (2 ^ (m - r)) (2 ^ (r - 3)) (seals_part D v rule elen r m) (seals_part K v rule elen r m) λ t tm tk tn.
    seals-then F v (count_part D rule elen r m t tm tk tn) (count_part K rule elen r m t tm tk tn) λ rs.
    then-number F (span 0 (2 ^ m)) (runs_part D rule elen r m t tm tk tn rs) (runs_part K rule elen r m t tm tk tn rs) λ c.
    then-done F (record { header = numbers_of rule elen r m t tm tk tn rs; count = c })
  where
    F : Announced → Format Described
    F = follows K

    D : Header → ℕ → Format Announced
    D h c = done (record { header = h; count = c })

-- ---- one run, then the others

-- what follows a run
abbrev pub others : (List Run → Described) → (more room : ℕ) → Run → Format Described
others f more room (run g b) = runs_format (λ rs. f (run g b ∷ rs)) more 1 (room - (g + length b))

pub run-then : (f : List Run → Described) (more least room : ℕ) → Then (others f more room) (one_run more least room) (runs_format f (suc more) least room)
unfolding runs_format
run-then f more least room =
    then-number K (span least (room - (1 + 2 * more)))
    (λ g. number (span 1 (room - (g + 2 * more))) λ n. bytes n λ b. done (run g b))
    (λ g. number (span 1 (room - (g + 2 * more))) λ n. bytes n λ b. runs_format (λ rs. f (run g b ∷ rs)) more 1 (room - (g + n))) λ g.
    then-number K (span 1 (room - (g + 2 * more)))
    (λ n. bytes n λ b. done (run g b))
    (λ n. bytes n λ b. runs_format (λ rs. f (run g b ∷ rs)) more 1 (room - (g + n))) λ n.
    then-bytes K n (λ b. done (run g b)) (λ b. runs_format (λ rs. f (run g b ∷ rs)) more 1 (room - (g + n))) λ b e.
    subst (λ (x : ℕ). Then K (done (run g b)) (runs_format (λ rs. f (run g b ∷ rs)) more 1 (room - (g + x)))) e (then-done K (run g b))
  where
    K : Run → Format Described
    K = others f more room

-- its bytes
abbrev pub RunBytes : List ℕ → Run → ℕ → Type 0
RunBytes s (run g b) k = s ≡ encode g ++ (encode (length b) ++ (b ++ drop k s))

pub run-bytes : (more least room : ℕ) (s : List ℕ) → ByteString s → (r : Run) (k : ℕ) → front (one_run more least room) s ≡ ahead r k → RunBytes s r k
unfolding front
run-bytes more least room s hs r k e =
    let (g, l, m, eg, e2, ek) = number-ahead (span least (room - (1 + 2 * more))) (λ g. number (span 1 (room - (g + 2 * more))) λ n. bytes n λ b. done (run g b)) s r k e in
    let (n, l2, m2, en, e3, ek2) = number-ahead (span 1 (room - (g + 2 * more))) (λ n. bytes n λ b. done (run g b)) (drop l s) r m e2 in
    let (m3, fits, e4, ek3) = bytes-ahead n (λ b. done (run g b)) (drop l2 (drop l s)) r m2 e3 in
    let z = ahead-one (run g (take n (drop l2 (drop l s)))) r 0 m3 e4 in
    let b : List ℕ = take n (drop l2 (drop l s)) in
    let r1 = read_is (span least (room - (1 + 2 * more))) s g l hs eg in
    let r2 = read_is (span 1 (room - (g + 2 * more))) (drop l s) n l2 (bytes_drop l s hs) en in
    let long : length b ≡ n = length-take-le n (drop l2 (drop l s)) fits in
    let all : l + l2 + n ≡ k = omega (arith, z.1) in
    let rest : drop n (drop l2 (drop l s)) ≡ drop k s = ap (drop n) (drop-drop l2 l s) ∙ drop-drop n (l + l2) s ∙ ap (λ (x : ℕ). drop x s) all in
    subst (λ (q : Run). RunBytes s q k) z.0
    (r1.starts ∙ ap (λ (t : List ℕ). encode g ++ t)
    (r2.starts ∙ ap₂ (λ (x : ℕ) (t : List ℕ). encode x ++ t) (sym long)
    (sym (take-append-drop n (drop l2 (drop l s))) ∙ ap (λ (t : List ℕ). b ++ t) rest)))

-- ---- the runs of an image, and those that are kept of an input that goes along with it up to p

pub record KeptOf (p : ℕ) (kept body : List Run) : Type 0 where
  pub first : kept ≡ take (length kept) body
  pub before : length (runs_bytes (take (length kept) body)) ≤ p
  pub next : length kept < length body → p < length (runs_bytes (take (suc (length kept)) body))

pub record RunsOf (f : List Run → Described) (count least room : ℕ) (w : List ℕ) (d : Described) : Type 0 where
  pub body : List Run
  pub many : length body ≡ count
  pub is : f body ≡ d
  pub bytes-are : w ≡ runs_bytes body
  pub keeps : (s : List ℕ) → ByteString s → (p : ℕ) → p ≡ fault_place s (parse (runs_format f count least room) s) → take p w ≡ take p s
      → KeptOf p (runs_kept count least room s) body

pub stopped-never : (d : Described) (p : ℕ) → stopped p ≡ whole d → ⊥
stopped-never d p e = let z : ◌≡◌ {A = ℕ} 0 1 = cc in absurd (omega arith)

pub whole-one : (d y : Described) → whole d ≡ whole y → d ≡ y
whole-one d y e = cc

pub unlater : (k : ℕ) (q : Parsed Described) (d : Described) → later k q ≡ whole d → q ≡ whole d
unlater k (whole y) d e = e
unlater k (stopped p) d e = absurd (stopped-never d (k + p) e)

pub place-later : (s : List ℕ) (k : ℕ) (q : Parsed Described) → k ≤ length s → fault_place s (later k q) ≡ k + fault_place (drop k s) q
place-later s k (whole d) h = omega (arith, length-drop k s)
place-later s k (stopped p) h = refl

pub kept-ahead : (more least room : ℕ) (s : List ℕ) (r : Run) (k : ℕ) → front (one_run more least room) s ≡ ahead r k
    → runs_kept (suc more) least room s ≡ r ∷ runs_kept more 1 (room - taken r) (drop k s)
unfolding runs_kept
kept-ahead more least room s r k e = rw (e, runs_kept)

pub kept-stuck : (more least room : ℕ) (s : List ℕ) (p : ℕ) → front (one_run more least room) s ≡ stuck p → runs_kept (suc more) least room s ≡ []
unfolding runs_kept
kept-stuck more least room s p e = rw (e, runs_kept)

pub runs_of_lem : (f : List Run → Described) (count least room : ℕ) (w : List ℕ) → ByteString w → (d : Described) → parse (runs_format f count least room) w ≡ whole d
    → RunsOf f count least room w d
unfolding runs_format parse runs_kept
runs_of_lem f zero least room [] hw d e = record {
  body = [];
  many = refl;
  is = whole-one (f []) d e;
  bytes-are = refl;
  keeps = λ s hs p ep same. record { first = refl; before = omega arith; next = λ h. absurd (omega arith) };
}
runs_of_lem f zero least room (b ∷ w) hw d e = absurd (stopped-never d 0 e)
runs_of_lem f (suc more) least room w hw d e = by (front (one_run more least room) w) refl (sym (run-then f more least room w) ∙ e) (λ g b k. runs_of_lem (λ rs. f (run g b ∷ rs)) more 1 (room - (g + length b)) (drop k w) (bytes_drop k w hw) d)
  where
    by : (q : Front Run) → front (one_run more least room) w ≡ q → onto (others f more room) w q ≡ whole d
        → ((g : ℕ) (b : List ℕ) (k : ℕ) → parse (runs_format (λ rs. f (run g b ∷ rs)) more 1 (room - (g + length b))) (drop k w) ≡ whole d → RunsOf (λ rs. f (run g b ∷ rs)) more 1 (room - (g + length b)) (drop k w) d)
        → RunsOf f (suc more) least room w d
    by (stuck p) h e ih = absurd (stopped-never d p e)
    by (ahead (run g b) k) h e ih = record {
      body = run g b ∷ rest.body;
      many = ap suc rest.many;
      is = rest.is;
      bytes-are = bytes-w ∙ ap (λ (t : List ℕ). encode g ++ (encode (length b) ++ (b ++ t))) rest.bytes-are;
      keeps = λ s hs p ep same. kept s hs p ep same (front (one_run more least room) s) refl;
    }
      where
        rest : RunsOf (λ rs. f (run g b ∷ rs)) more 1 (room - (g + length b)) (drop k w) d
        rest = ih g b k (unlater k (parse (runs_format (λ rs. f (run g b ∷ rs)) more 1 (room - (g + length b))) (drop k w)) d e)

        here : Ahead (one_run more least room) w (run g b) k
        here = front-ahead (one_run more least room) w hw (run g b) k h

        bytes-w : w ≡ encode g ++ (encode (length b) ++ (b ++ drop k w))
        bytes-w = run-bytes more least room w hw (run g b) k h

        -- how many bytes the run takes
        long : (rs : List Run) → length (runs_bytes (run g b ∷ rs)) ≡ k + length (runs_bytes rs)
        long rs =
            let t : List ℕ = drop k w in
            let a : length w ≡ length (encode g) + (length (encode (length b)) + (length b + length t)) =
            ap length bytes-w ∙ length-append (encode g) (encode (length b) ++ (b ++ t)) ∙ ap (λ (x : ℕ). length (encode g) + x) (length-append (encode (length b)) (b ++ t) ∙ ap (λ (x : ℕ). length (encode (length b)) + x) (length-append b t)) in
            let c : length (runs_bytes (run g b ∷ rs)) ≡ length (encode g) + (length (encode (length b)) + (length b + length (runs_bytes rs))) =
            length-append (encode g) (encode (length b) ++ (b ++ runs_bytes rs)) ∙ ap (λ (x : ℕ). length (encode g) + x) (length-append (encode (length b)) (b ++ runs_bytes rs) ∙ ap (λ (x : ℕ). length (encode (length b)) + x) (length-append b (runs_bytes rs))) in
            omega (arith, here.there, length-drop k w)

        kept : (s : List ℕ) → ByteString s → (p : ℕ) → p ≡ fault_place s (parse (runs_format f (suc more) least room) s) → take p w ≡ take p s → (q : Front Run) → front (one_run more least room) s ≡ q
            → KeptOf p (runs_kept (suc more) least room s) (run g b ∷ rest.body)
        kept s hs p ep same (stuck q) i =
            let place : p ≡ q = ep ∙ ap (fault_place s) (run-then f more least room s ∙ ap (onto (others f more room) s) i) in
            subst (λ (z : List Run). KeptOf p z (run g b ∷ rest.body)) (sym (kept-stuck more least room s q i))
            (record { first = refl; before = omega arith; next = λ _. behind-it (leb k p) refl })
          where
            behind-it : (t : Bool) → leb k p ≡ t → p < length (runs_bytes (run g b ∷ []))
            behind-it false j = omega (arith, long [], leb-false k p j)
            behind-it true j = absurd (stuck-never (run g b) k q (sym i ∙ here.again s (sym (take-before k p s w (leb-true k p j) same))))
        kept s hs p ep same (ahead r l) i =
            let a = front-ahead (one_run more least room) s hs r l i in
            let p' : ℕ = fault_place (drop l s) (parse (others f more room r) (drop l s)) in
            let place : p ≡ l + p' = ep ∙ ap (fault_place s) (run-then f more least room s ∙ ap (onto (others f more room) s) i) ∙ place-later s l (parse (others f more room r) (drop l s)) a.there in
            let z = ahead-one (run g b) r k l (sym h ∙ a.again w (take-before l p s w (omega arith) same)) in
            subst (λ (x : Run). ((p' : ℕ) → p ≡ l + p' → p' ≡ fault_place (drop l s) (parse (others f more room x) (drop l s)) → runs_kept (suc more) least room s ≡ x ∷ runs_kept more 1 (room - taken x) (drop l s) → KeptOf p (runs_kept (suc more) least room s) (run g b ∷ rest.body))) z.0
            (λ p' place is-place is-kept.
            let same' : take p' (drop l w) ≡ take p' (drop l s) = take_behind l p' s w a.there (as_long l s w a.there (take-before l p s w (omega arith) same)) (subst (λ (x : ℕ). take x w ≡ take x s) place same) in
            let ko : KeptOf p' (runs_kept more 1 (room - (g + length b)) (drop l s)) rest.body = rest.keeps (drop l s) (bytes_drop l s hs) p' is-place (subst (λ (x : ℕ). take p' (drop x w) ≡ take p' (drop l s)) (sym z.1) same') in
            let n : ℕ = length (runs_kept more 1 (room - (g + length b)) (drop l s)) in
            subst (λ (y : List Run). KeptOf p y (run g b ∷ rest.body)) (sym is-kept)
            (record {
              first = ap (λ (y : List Run). run g b ∷ y) ko.first;
              before = omega (arith, long (take n rest.body), ko.before, z.1);
              next = λ less. let after = ko.next (omega arith) in omega (arith, long (take (suc n) rest.body), z.1);
            }))
            p' place refl (kept-ahead more least room s r l i)
