-- The format accepts the bytes of a header that a machine can hold and of runs that fit, and nothing else.
use Rattle.numbers.proofs.Kit.{◌≡◌, refl, sym, ap, ap₂, ◌∙◌, subst, ◌⊎◌, inl, inr, Bool, true, false, cond, not, ◌&&◌, ◌||◌, List, [], ◌∷◌, ◌++◌, map, none}
use Rattle.numbers.proofs.Kit.{some, ℕ, zero, suc, ◌+◌, ◌-◌, ◌*◌, ◌^◌, ◌≤◌, ◌<◌, min, arith, eqb, ltb, length, replicate, eqb-true, eqb-false, eq-eqb}
use Rattle.numbers.proofs.Kit.{ne_eqb, ltb-true, ltb-false, lt-ltb, le-ltb}
use Rattle.numbers.proofs.BlockLaws.{le-or-lt}
use Rattle.machine.proofs.TestLaws.{false-true}
use Rattle.numbers_format.specs.Numbers.{span, Among, encode, encode_all, ByteString}
use Rattle.numbers_format.specs.Formats.{Format, Accepts}
use Rattle.numbers_format.specs.Formats.Format.{number}
use Rattle.numbers_format.specs.Parser.{Live}
use Rattle.numbers_format.proofs.NumberLaws.{among-nonempty}
use Rattle.image.specs.Cells.{Cell, widen, join, Run, runs, spread, Fit}
use Rattle.image.specs.Cells.Run.{run}
use Rattle.machine.specs.Geometry.{range}
use Rattle.image.specs.Images.{Seals, Header, beyond, single, version, bounds, seal_fields, fields, runs_bytes, spelled}
use Rattle.image.specs.ImageFormat.{Described, top_rlen, top_mlen, least_mlen, mtypes, tiles_format, ranges_format, counts, seals_format, all_register_bytes, runs_format, image_format}
use Rattle.image.proofs.RunLaws.{fit-many}

-- ranges that end where they may
abbrev pub Ending : Seals → Type 0
Ending [] = Unit {0}
Ending (r ∷ rs) = (r.start + r.size < 2 ^ 64) × Ending rs

-- numbers that a machine can hold
pub record Held (h : Header) : Type 0 where
  pub elen-ok : (5 ≤ h.elen) × (h.elen ≤ 6)
  pub rlen-ok : (h.elen < h.rlen) × (h.rlen ≤ 12)
  pub mlen-ok : (h.rlen < h.mlen) × (h.mlen ≤ 16)
  pub mtype-ok : Among h.mtype (mtypes h.elen)
  pub tile-m-ok : h.tile_m ≤ 2 ^ (h.mlen - h.rlen)
  pub tile-k-ok : h.tile_k ≤ min (2 ^ (h.mlen - h.rlen)) (2 ^ (h.rlen - 3))
  pub tile-n-ok : h.tile_n ≤ 2 ^ (h.rlen - 3)
  pub seals-few : length h.seals ≤ 8
  pub seals-ok : Ending h.seals
  pub rule-ok : h.rule ≤ 1

-- there is room for l more runs
abbrev pub Room : ℕ → ℕ → ℕ → Type 0
Room zero least room = Unit {0}
Room (suc l) least room = least + (1 + 2 * l) ≤ room

pub room_next : (l room : ℕ) → 2 * l ≤ room → Room l 1 room
room_next zero room h = tt
room_next (suc l) room h = omega arith

abbrev pub AllBytes : List Run → Type 0
AllBytes [] = Unit {0}
AllBytes (run g b ∷ rs) = ByteString b × AllBytes rs

pub among-span : {n a b : ℕ} → Among n (span a b) → (a ≤ n) × (n ≤ b)
among-span (inl h) = h
among-span (inr h) = absurd h

runs-live : (f : List Run → Described) (l least room : ℕ) → Room l least room → Live (runs_format f l least room)
unfolding runs_format
runs-live f zero least room h = tt
runs-live f (suc l) least room h = (
  among-nonempty least (span least (room - (1 + 2 * l))) (inl (omega arith)),
  λ g hg.
      let kg = among-span hg in (
        among-nonempty 1 (span 1 (room - (g + 2 * l))) (inl (omega arith)),
        λ n hn.
            let kn = among-span hn in
            λ b hb. runs-live (λ rs. f (run g b ∷ rs)) l 1 (room - (g + n)) (room_next l (room - (g + n)) (omega arith)),
      ),
)

-- runs that fit, written
record Spelled (f : List Run → Described) (l least room : ℕ) (s : List ℕ) (y : Described) : Type 0 where
  body : List Run
  many : length body ≡ l
  fits : Fit least room body
  all-bytes : AllBytes body
  bytes-are : s ≡ runs_bytes body
  is : f body ≡ y

runs-out : (f : List Run → Described) (l least room : ℕ) → Room l least room → (s : List ℕ) (y : Described)
    → Accepts (runs_format f l least room) s y → Spelled f l least room s y
unfolding runs_format
runs-out f zero least room h s y a = record { body = []; many = refl; fits = tt; all-bytes = tt; bytes-are = a.0; is = a.1 }
runs-out f (suc l) least room h s y (g, t, hg, e, (n, t2, hn, e2, (b, t3, hb, e3, a))) =
    let kg = among-span hg in
    let kn = among-span hn in
    let room-left : room - (g + n) ≡ room - (g + length b) = ap (λ (x : ℕ). room - (g + x)) (sym hb.0) in
    let r = runs-out (λ rs. f (run g b ∷ rs)) l 1 (room - (g + n)) (room_next l (room - (g + n)) (omega arith)) t3 y a in
    record {
      body = run g b ∷ r.body;
      many = ap suc r.many;
      fits = (omega (arith, hb.0), subst (λ (x : ℕ). Fit 1 x r.body) room-left r.fits);
      all-bytes = (hb.1, r.all-bytes);
      bytes-are = e ∙ ap (λ (z : List ℕ). encode g ++ z) (e2 ∙ ap₂ (λ (x : ℕ) (z : List ℕ). encode x ++ z) (sym hb.0) (e3 ∙ ap (λ (z : List ℕ). b ++ z) r.bytes-are));
      is = r.is;
    }

runs-in : (f : List Run → Described) (least room : ℕ) (rs : List Run) → Fit least room rs → AllBytes rs
    → Accepts (runs_format f (length rs) least room) (runs_bytes rs) (f rs)
unfolding runs_format
runs-in f least room [] h k = (refl, refl)
runs-in f least room (run g b ∷ rs) h k =
    let many : 2 * length rs ≤ room - (g + length b) = fit-many (room - (g + length b)) rs h.1 in (
      g,
      encode (length b) ++ (b ++ runs_bytes rs),
      inl (omega (arith, h.0)),
      refl,
      (
        length b,
        b ++ runs_bytes rs,
        inl (omega (arith, h.0)),
        refl,
        (
          b,
          runs_bytes rs,
          (refl, k.0),
          refl,
          runs-in (λ qs. f (run g b ∷ qs)) 1 (room - (g + length b)) rs h.1 k.1,
        ),
      ),
    )

pub room-first : (c half : ℕ) → c ≤ half → Room c 0 (2 * half)
room-first zero half h = tt
room-first (suc c) half h = omega arith

pub fit-first : (n : ℕ) (rs : List Run) → Fit 0 n rs → 2 * length rs ≤ n + 1
fit-first n [] h = omega arith
fit-first n (run g b ∷ rs) h = omega (arith, h.0, fit-many (n - (g + length b)) rs h.1)

-- ---- the ranges

ranges-live : (n : ℕ) (K : Seals → Format Described) → ((rs : Seals) → Live (K rs)) → Live (ranges_format n K)
unfolding ranges_format
ranges-live zero K h = h []
ranges-live (suc n) K h = (
  among-nonempty 0 (span 0 (2 ^ 64 - 1)) (inl (omega arith)),
  λ st hst. (
    among-nonempty 0 (span 0 (2 ^ 64 - 1 - st)) (inl (omega arith)),
    λ ln hln. ranges-live n (λ rs. K (range st ln ∷ rs)) (λ rs. h (range st ln ∷ rs)),
  ),
)

-- so many ranges, written, and what follows them
record Ranged (n : ℕ) (K : Seals → Format Described) (s : List ℕ) (y : Described) : Type 0 where
  them : Seals
  rest : List ℕ
  many : length them ≡ n
  ending : Ending them
  bytes-are : s ≡ encode_all (bounds them) rest
  follows : Accepts (K them) rest y

ranges-out : (n : ℕ) (K : Seals → Format Described) (s : List ℕ) (y : Described) → Accepts (ranges_format n K) s y → Ranged n K s y
unfolding ranges_format
ranges-out zero K s y a = record { them = []; rest = s; many = refl; ending = tt; bytes-are = refl; follows = a }
ranges-out (suc n) K s y (st, t, hst, e, (ln, u, hln, e₁, a)) =
    let ks = among-span hst in
    let kl = among-span hln in
    let r = ranges-out n (λ rs. K (range st ln ∷ rs)) u y a in
    record {
      them = range st ln ∷ r.them;
      rest = r.rest;
      many = ap suc r.many;
      ending = (omega arith, r.ending);
      bytes-are = e ∙ ap (λ (z : List ℕ). encode st ++ z) (e₁ ∙ ap (λ (z : List ℕ). encode ln ++ z) r.bytes-are);
      follows = r.follows;
    }

ranges_in : (rs : Seals) (K : Seals → Format Described) (t : List ℕ) (y : Described) → Ending rs → Accepts (K rs) t y
    → Accepts (ranges_format (length rs) K) (encode_all (bounds rs) t) y
unfolding ranges_format
ranges_in [] K t y h a = a
ranges_in (r ∷ rs) K t y h a = (
  r.start,
  _,
  inl (omega (arith, h.0)),
  refl,
  (r.size, _, inl (omega (arith, h.0)), refl, ranges_in rs (λ qs. K (range r.start r.size ∷ qs)) t y h.1 a),
)

-- the number of ranges of version 4
counts-among : (n : ℕ) → n ≤ 8 → ¬ (n ≡ 1) → Among n counts
counts-among n few other = elim (le-or-lt 2 n) [
  | inl l ↦ inr (inl (l, few))
  | inr l ↦ elim (le-or-lt 1 n) [ inl g ↦ absurd (other (omega arith)) | inr g ↦ inl (omega arith) ]
]

among-counts : (n : ℕ) → Among n counts → (n ≤ 8) × ¬ (n ≡ 1)
among-counts n (inl h) = (omega (arith, h), λ e. omega (arith, h, e))
among-counts n (inr (inl h)) = (omega (arith, h), λ e. omega (arith, h, e))
among-counts n (inr (inr h)) = absurd h

seals-live : (v : ℕ) (K : Seals → Format Described) → ((rs : Seals) → Live (K rs)) → Live (seals_format v K)
seals-live v K h = go (eqb v 4)
  where
    go : (t : Bool) → Live (cond t (number counts λ count. ranges_format count K) (ranges_format 1 K))
    go true = (among-nonempty 0 counts (inl (omega arith)), λ n hn. ranges-live n K h)
    go false = ranges-live 1 K h

-- the ranges that a version has: version 4 any number but one, the others one
record Sealing (v : ℕ) (K : Seals → Format Described) (s : List ℕ) (y : Described) : Type 0 where
  them : Seals
  rest : List ℕ
  few : length them ≤ 8
  one : single them ≡ not (eqb v 4)
  ending : Ending them
  bytes-are : s ≡ encode_all (seal_fields them) rest
  follows : Accepts (K them) rest y

seals-out : (v : ℕ) (K : Seals → Format Described) (s : List ℕ) (y : Described) → Accepts (seals_format v K) s y → Sealing v K s y
seals-out v K s y = go (eqb v 4) refl
  where
    go : (t : Bool) → eqb v 4 ≡ t → Accepts (cond t (number counts λ count. ranges_format count K) (ranges_format 1 K)) s y → Sealing v K s y
    go true q (n, t, hn, e, a) =
        let r = ranges-out n K t y a in
        let k = among-counts n hn in
        let other : single r.them ≡ false = ne_eqb (length r.them) 1 (λ l. k.1 (sym r.many ∙ l)) in
        record {
          them = r.them;
          rest = r.rest;
          few = omega (arith, r.many, k.0);
          one = other ∙ ap not (sym q);
          ending = r.ending;
          bytes-are = e ∙ ap₂ (λ (x : ℕ) (z : List ℕ). encode x ++ z) (sym r.many) r.bytes-are
              ∙ ap (λ (b : Bool). encode_all (cond b (bounds r.them) (length r.them ∷ bounds r.them)) r.rest) (sym other);
          follows = r.follows;
        }
    go false q a =
        let r = ranges-out 1 K s y a in
        let one : single r.them ≡ true = eq-eqb (length r.them) 1 r.many in
        record {
          them = r.them;
          rest = r.rest;
          few = omega (arith, r.many);
          one = one ∙ ap not (sym q);
          ending = r.ending;
          bytes-are = r.bytes-are ∙ ap (λ (b : Bool). encode_all (cond b (bounds r.them) (length r.them ∷ bounds r.them)) r.rest) (sym one);
          follows = r.follows;
        }

seals-in : (v : ℕ) (rs : Seals) (K : Seals → Format Described) (t : List ℕ) (y : Described) → length rs ≤ 8 → Ending rs → single rs ≡ not (eqb v 4)
    → Accepts (K rs) t y → Accepts (seals_format v K) (encode_all (seal_fields rs) t) y
seals-in v rs K t y few h one a = go (eqb v 4) one (single rs) refl
  where
    go : (u : Bool) → single rs ≡ not u → (o : Bool) → single rs ≡ o
        → Accepts (cond u (number counts λ count. ranges_format count K) (ranges_format 1 K)) (encode_all (cond o (bounds rs) (length rs ∷ bounds rs)) t) y
    go true e true q = absurd (false-true (sym e ∙ q))
    go true e false q = (length rs, _, counts-among (length rs) few (eqb-false (length rs) 1 q), refl, ranges_in rs K t y h a)
    go false e true q = subst (λ (n : ℕ). Accepts (ranges_format n K) (encode_all (bounds rs) t) y) (eqb-true (length rs) 1 q) (ranges_in rs K t y h a)
    go false e false q = absurd (false-true (sym q ∙ e))

-- ---- the bounds by the version

pub top-rlen : (v : ℕ) → top_rlen v ≤ 12
unfolding top_rlen
top-rlen v = go (ltb v 3)
  where
    go : (t : Bool) → cond t 9 12 ≤ 12
    go true = omega arith
    go false = omega arith

pub top-mlen : (v : ℕ) → top_mlen v ≤ 16
unfolding top_mlen
top-mlen v = go (ltb v 3)
  where
    go : (t : Bool) → cond t 12 16 ≤ 16
    go true = omega arith
    go false = omega arith

pub least_above : (v e r : ℕ) → r ≤ 12 → r < least_mlen v e r
unfolding least_mlen
least_above v e r h = go (eqb v 3 && (eqb e 5 && ltb r 10))
  where
    go : (t : Bool) → r < cond t 13 (suc r)
    go true = omega arith
    go false = omega arith

-- a machine of the old bounds has ELEN 32
within-old : (e r m : ℕ) → (5 ≤ e) × (e ≤ 6) → beyond e r m ≡ false → (e ≡ 5) × (r ≤ 9) × (m ≤ 12)
unfolding beyond
within-old e r m few = go (eqb e 6) refl (ltb 9 r) refl (ltb 12 m) refl
  where
    five : eqb e 6 ≡ false → e ≡ 5
    five t = elim (le-or-lt 6 e) [ inl l ↦ absurd (eqb-false e 6 t (omega (arith, few))) | inr l ↦ omega (arith, few) ]

    go : (t : Bool) → eqb e 6 ≡ t → (u : Bool) → ltb 9 r ≡ u → (v : Bool) → ltb 12 m ≡ v → t || (u || v) ≡ false → (e ≡ 5) × (r ≤ 9) × (m ≤ 12)
    go true et u eu v ev h = absurd (false-true (sym h))
    go false et true eu v ev h = absurd (false-true (sym h))
    go false et false eu true ev h = absurd (false-true (sym h))
    go false et false eu false ev h = (five et, ltb-false 9 r eu, ltb-false 12 m ev)

old-within : (e r m : ℕ) → e ≡ 5 → r ≤ 9 → m ≤ 12 → beyond e r m ≡ false
unfolding beyond
old-within e r m he hr hm = rw (ne_eqb e 6 (omega arith), le-ltb 9 r hr, le-ltb 12 m hm)

-- one beyond them has an MLEN above 4,096, if not by its ELEN or RLEN
beyond-old : (e r m : ℕ) → e ≡ 5 → r < 10 → beyond e r m ≡ true → 13 ≤ m
unfolding beyond
beyond-old e r m he hr h = ltb-true 12 m (rw (ne_eqb e 6 (omega arith), le-ltb 9 r (omega arith)) at h)

old-beyond : (e r m : ℕ) → (5 ≤ e) × (e ≤ 6) → least_mlen 3 e r ≤ m → beyond e r m ≡ true
unfolding least_mlen beyond
old-beyond e r m few = go (eqb e 5) refl (ltb r 10) refl
  where
    six : ¬ (e ≡ 5) → e ≡ 6
    six d = elim (le-or-lt 6 e) [ inl l ↦ omega (arith, few) | inr l ↦ absurd (d (omega (arith, few))) ]

    go : (t : Bool) → eqb e 5 ≡ t → (u : Bool) → ltb r 10 ≡ u → cond (t && u) 13 (suc r) ≤ m → beyond e r m ≡ true
    go true et true eu l = rw (ne_eqb e 6 (omega (arith, eqb-true e 5 et)), le-ltb 9 r (omega (arith, ltb-true r 10 eu)), lt-ltb 12 m (omega arith))
    go true et false eu l = rw (ne_eqb e 6 (omega (arith, eqb-true e 5 et)), lt-ltb 9 r (omega (arith, ltb-false r 10 eu)))
    go false et u eu l = rw (eq-eqb e 6 (six (eqb-false e 5 et)))

-- a machine is beyond the old bounds where an image of version 3 has it, and not where one of a lower version has
record ByVersion (v e r m : ℕ) : Type 0 where
  old : v < 3 → beyond e r m ≡ false
  large : v ≡ 3 → beyond e r m ≡ true

bounds-are : (v e r m : ℕ) → (5 ≤ e) × (e ≤ 6) → (v < 3 → e ≡ 5) → r ≤ top_rlen v → least_mlen v e r ≤ m → m ≤ top_mlen v → ByVersion v e r m
unfolding top_rlen top_mlen
bounds-are v e r m few five mr lm mm = record {
  old = λ k. old-within e r m (five k) (rw (lt-ltb v 3 k) at mr) (rw (lt-ltb v 3 k) at mm);
  large = λ k. old-beyond e r m few (subst (λ (x : ℕ). least_mlen x e r ≤ m) k lm);
}

-- and each of them fits its version
are-bounds : (v e r m : ℕ) → (5 ≤ e) × (e ≤ 6) → r ≤ 12 → (r < m) × (m ≤ 16) → ByVersion v e r m → (r ≤ top_rlen v) × (least_mlen v e r ≤ m) × (m ≤ top_mlen v)
unfolding top_rlen least_mlen top_mlen
are-bounds v e r m few mr hm b = (rlen (ltb v 3) refl, least (eqb v 3) refl (eqb e 5) refl (ltb r 10) refl, mlen (ltb v 3) refl)
  where
    rlen : (t : Bool) → ltb v 3 ≡ t → r ≤ cond t 9 12
    rlen true q = (within-old e r m few (b.old (ltb-true v 3 q))).1
    rlen false q = mr

    mlen : (t : Bool) → ltb v 3 ≡ t → m ≤ cond t 12 16
    mlen true q = (within-old e r m few (b.old (ltb-true v 3 q))).2
    mlen false q = hm.1

    least : (t : Bool) → eqb v 3 ≡ t → (u : Bool) → eqb e 5 ≡ u → (w : Bool) → ltb r 10 ≡ w → cond (t && (u && w)) 13 (suc r) ≤ m
    least true q true p true z = beyond-old e r m (eqb-true e 5 p) (ltb-true r 10 z) (b.large (eqb-true v 3 q))
    least true q true p false z = hm.0
    least true q false p w z = hm.0
    least false q u p w z = hm.0

-- what follows the version, the rule and the exponent of ELEN
abbrev pub after_rule : (version rule elen : ℕ) → Format Described
after_rule version rule elen =
    number (span (suc elen) (top_rlen version)) λ r.
    number (span (least_mlen version elen r) (top_mlen version)) λ m.
    tiles_format elen (2 ^ (m - r)) (2 ^ (r - 3)) λ t tm tk tn.
    seals_format version λ seals.
    number (span 0 (2 ^ m)) λ c.
    runs_format (λ rs. record { header = record { rlen = r; mlen = m; mtype = t; tile_m = tm; tile_k = tk; tile_n = tn; seals = seals; rule = rule; elen = elen }; body = rs }) c 0 (all_register_bytes m)

some-rlen : (v e : ℕ) → e ≤ 6 → suc e ≤ top_rlen v
unfolding top_rlen
some-rlen v e h = go (ltb v 3)
  where
    go : (t : Bool) → suc e ≤ cond t 9 12
    go true = omega arith
    go false = omega arith

some-mlen : (v e r : ℕ) → r ≤ top_rlen v → least_mlen v e r ≤ top_mlen v
unfolding top_rlen least_mlen top_mlen
some-mlen v e r = go (ltb v 3) refl (eqb v 3) refl (eqb e 5 && ltb r 10)
  where
    go : (t : Bool) → ltb v 3 ≡ t → (u : Bool) → eqb v 3 ≡ u → (w : Bool) → r ≤ cond t 9 12 → cond (u && w) 13 (suc r) ≤ cond t 12 16
    go true q true p w h = absurd (omega (arith, ltb-true v 3 q, eqb-true v 3 p))
    go true q false p w h = omega arith
    go false q true p true h = omega arith
    go false q true p false h = omega arith
    go false q false p w h = omega arith

after-live : (v rule elen : ℕ) → elen ≤ 6 → Live (after_rule v rule elen)
unfolding mtypes
after-live v rule elen few = (
  among-nonempty (suc elen) (span (suc elen) (top_rlen v)) (inl (omega arith, some-rlen v elen few)),
  λ r hr. let kr = among-span hr in (
    among-nonempty (top_mlen v) (span (least_mlen v elen r) (top_mlen v)) (inl (some-mlen v elen r kr.1, omega arith)),
    λ m hm. (
      among-nonempty 0 (mtypes elen) (inl (omega arith)),
      λ t ht. (
        among-nonempty 0 (span 0 (2 ^ (m - r))) (inl (omega arith)),
        λ tm htm. (
          among-nonempty 0 (span 0 (min (2 ^ (m - r)) (2 ^ (r - 3)))) (inl (omega arith)),
          λ tk htk. (
            among-nonempty 0 (span 0 (2 ^ (r - 3))) (inl (omega arith)),
            λ tn htn. seals-live v _ (λ rs. (
              among-nonempty 0 (span 0 (2 ^ m)) (inl (omega arith)),
              λ c hc. let kc = among-span hc in
                  runs-live _ c 0 (all_register_bytes m) (room-first c (2 ^ m) kc.1),
            )),
          ),
        ),
      ),
    ),
  ),
)

pub image-live : Live image_format
unfolding image_format
image-live = (among-nonempty 1 (span 1 4) (inl (omega arith)), λ v hv. by v (eqb v 1) (eqb v 2))
  where
    by : (v : ℕ) (t u : Bool) → Live (cond t (after_rule v 0 5) (cond u (number (span 1 1) λ rule. after_rule v rule 5) (number (span 0 1) λ rule. number (span 5 6) λ elen. after_rule v rule elen)))
    by v true u = after-live v 0 5 (omega arith)
    by v false true = (among-nonempty 1 (span 1 1) (inl (omega arith)), λ r hr. after-live v r 5 (omega arith))
    by v false false = (among-nonempty 0 (span 0 1) (inl (omega arith)), λ r hr. (among-nonempty 5 (span 5 6) (inl (omega arith)), λ e he. after-live v r e (among-span he).1))

-- s is the spelled form of d, a machine's numbers and runs
pub record Spelling (s : List ℕ) (d : Described) : Type 0 where
  pub sound : Held d.header
  pub fits : Fit 0 (all_register_bytes d.header.mlen) d.body
  pub all-bytes : AllBytes d.body
  pub are : s ≡ spelled d.header d.body

-- the bytes behind the version, the rule and the exponent of ELEN
abbrev bytes_after : Header → List Run → List ℕ
bytes_after h rs = encode_all (fields h) (encode (length rs) ++ runs_bytes rs)

-- s is what follows them in the spelled form of d
record SpellingAfter (version rule elen : ℕ) (s : List ℕ) (d : Described) : Type 0 where
  sound : Held d.header
  by-version : ByVersion version d.header.elen d.header.rlen d.header.mlen
  seals-are : single d.header.seals ≡ not (eqb version 4)
  elen-is : d.header.elen ≡ elen
  fits : Fit 0 (all_register_bytes d.header.mlen) d.body
  all-bytes : AllBytes d.body
  rule-is : d.header.rule ≡ rule
  are : s ≡ bytes_after d.header d.body

after-out : (v rule elen : ℕ) → rule ≤ 1 → (5 ≤ elen) × (elen ≤ 6) → (v < 3 → elen ≡ 5) → (s : List ℕ) (d : Described)
    → Accepts (after_rule v rule elen) s d → SpellingAfter v rule elen s d
after-out v rule elen u few five s d (r, t1, hr, e1, (m, t2, hm, e2, (ty, t3, hty, e3, (tm, t4, htm, e4, (tk, t5, htk, e5, (tn, t6, htn, e6, a₀)))))) =
    let g : Seals → Header = λ seals. record { rlen = r; mlen = m; mtype = ty; tile_m = tm; tile_k = tk; tile_n = tn; seals = seals; rule = rule; elen = elen } in
    let z = seals-out v (λ seals. number (span 0 (2 ^ m)) λ c. runs_format (λ rs. record { header = g seals; body = rs }) c 0 (all_register_bytes m)) t6 d a₀ in
    let h : Header = g z.them in
    let y = z.follows in
    let kr = among-span hr in
    let km = among-span hm in
    let ktm = among-span htm in
    let ktk = among-span htk in
    let ktn = among-span htn in
    let kc = among-span y.2 in
    let low : r ≤ 12 = omega (arith, top-rlen v) in
    let w = runs-out (λ rs. record { header = h; body = rs }) y.0 0 (all_register_bytes m) (room-first y.0 (2 ^ m) kc.1) y.1 d y.4 in
    subst (SpellingAfter v rule elen s) w.is
    (record {
      sound = record {
        elen-ok = few;
        rlen-ok = (kr.0, low);
        mlen-ok = (omega (arith, least_above v elen r low), omega (arith, top-mlen v));
        mtype-ok = hty;
        tile-m-ok = ktm.1;
        tile-k-ok = ktk.1;
        tile-n-ok = ktn.1;
        seals-few = z.few;
        seals-ok = z.ending;
        rule-ok = u;
      };
      fits = w.fits;
      all-bytes = w.all-bytes;
      by-version = bounds-are v elen r m few five kr.1 km.0 km.1;
      seals-are = z.one;
      elen-is = refl;
      rule-is = refl;
      are =
          e1 ∙ ap (λ (z : List ℕ). encode r ++ z)
          (e2 ∙ ap (λ (z : List ℕ). encode m ++ z)
          (e3 ∙ ap (λ (z : List ℕ). encode ty ++ z)
          (e4 ∙ ap (λ (z : List ℕ). encode tm ++ z)
          (e5 ∙ ap (λ (z : List ℕ). encode tk ++ z)
          (e6 ∙ ap (λ (z : List ℕ). encode tn ++ z)
          (z.bytes-are ∙ ap (encode_all (seal_fields z.them))
          (y.3 ∙ ap₂ (λ (x : ℕ) (z : List ℕ). encode x ++ z) (sym w.many) w.bytes-are)))))));
    })

-- the version that a machine has, by its numbers
spelled_version : (one large : Bool) (rule elen : ℕ) → List ℕ
spelled_version one large rule elen = cond one (cond large (3 ∷ rule ∷ elen ∷ []) (cond (eqb rule 1) (2 ∷ 1 ∷ []) (1 ∷ []))) (4 ∷ rule ∷ elen ∷ [])

spelling-behind : (one large : Bool) (v rule elen : ℕ) (s t : List ℕ) (d : Described) → s ≡ encode_all (spelled_version one large rule elen) t
    → SpellingAfter v rule elen t d → single d.header.seals ≡ one → beyond d.header.elen d.header.rlen d.header.mlen ≡ large → Spelling s d
unfolding spelled_version
spelling-behind one large v rule elen s t d e k o b = record {
  sound = k.sound;
  fits = k.fits;
  all-bytes = k.all-bytes;
  are = e ∙ ap₂ (λ (o b : Bool). encode_all (spelled_version o b rule elen) t) (sym o) (sym b)
      ∙ ap₂ (λ (x y : ℕ). encode_all (spelled_version (single d.header.seals) (beyond d.header.elen d.header.rlen d.header.mlen) x y) t) (sym k.rule-is) (sym k.elen-is)
      ∙ ap (encode_all (version d.header)) k.are;
}

pub image-out : (s : List ℕ) (d : Described) → Accepts image_format s d → Spelling s d
unfolding image_format spelled_version
image-out s d (v, t, hv, e, a) = by (eqb v 1) refl (eqb v 2) refl a
  where
    start : (x : ℕ) → v ≡ x → s ≡ encode x ++ t
    start x q = e ∙ ap (λ (y : ℕ). encode y ++ t) q

    -- one range, but for version 4
    ranges : (x : ℕ) → v ≡ x → {rule elen : ℕ} {t : List ℕ} → SpellingAfter v rule elen t d → single d.header.seals ≡ not (eqb x 4)
    ranges x q k = k.seals-are ∙ ap (λ (y : ℕ). not (eqb y 4)) q

    third : (1 ≤ v) × (v ≤ 4) → ¬ (v ≡ 1) → ¬ (v ≡ 2) → (v ≡ 3) ⊎ (v ≡ 4)
    third k one two = elim (le-or-lt 3 v) [
      | inl g ↦ elim (le-or-lt 4 v) [ inl l ↦ inr (omega (arith, k)) | inr l ↦ inl (omega (arith, k)) ]
      | inr g ↦ elim (le-or-lt 2 v) [ inl l ↦ absurd (two (omega (arith, k))) | inr l ↦ absurd (one (omega (arith, k))) ]
    ]

    by : (b : Bool) → eqb v 1 ≡ b → (c : Bool) → eqb v 2 ≡ c
        → Accepts (cond b (after_rule v 0 5) (cond c (number (span 1 1) λ rule. after_rule v rule 5) (number (span 0 1) λ rule. number (span 5 6) λ elen. after_rule v rule elen))) t d → Spelling s d
    by true q c z a =
        let is = eqb-true v 1 q in
        let k = after-out v 0 5 (omega arith) (omega arith, omega arith) (λ l. refl) t d a in
        spelling-behind true false v 0 5 s t d (start 1 is) k (ranges 1 is k) (k.by-version.old (omega arith))
    by false q true z (r, t', hr, e', a) =
        let kr = among-span hr in
        let one : r ≡ 1 = omega arith in
        let is = eqb-true v 2 z in
        let k = subst (λ (x : ℕ). SpellingAfter v x 5 t' d) one (after-out v r 5 (omega arith) (omega arith, omega arith) (λ l. refl) t' d a) in
        spelling-behind true false v 1 5 s t' d (start 2 is ∙ ap (λ (z : List ℕ). encode 2 ++ z) (e' ∙ ap (λ (x : ℕ). encode x ++ t') one)) k (ranges 2 is k) (k.by-version.old (omega arith))
    by false q false z (r, t', hr, e', (el, t'', he, e'', a)) = last (third (among-span hv) (eqb-false v 1 q) (eqb-false v 2 z))
      where
        behind : (x : ℕ) → v ≡ x → s ≡ encode x ++ (encode r ++ (encode el ++ t''))
        behind x is = start x is ∙ ap (λ (z : List ℕ). encode x ++ z) (e' ∙ ap (λ (z : List ℕ). encode r ++ z) e'')

        last : (v ≡ 3) ⊎ (v ≡ 4) → Spelling s d
        last (inl is) =
            let k = after-out v r el (among-span hr).1 (among-span he) (λ l. absurd (omega arith)) t'' d a in
            spelling-behind true true v r el s t'' d (behind 3 is) k (ranges 3 is k) (k.by-version.large is)
        last (inr is) =
            let k = after-out v r el (among-span hr).1 (among-span he) (λ l. absurd (omega arith)) t'' d a in
            spelling-behind false (beyond d.header.elen d.header.rlen d.header.mlen) v r el s t'' d (behind 4 is) k (ranges 4 is k) refl

after-in : (v : ℕ) (h : Header) (rs : List Run) → ByVersion v h.elen h.rlen h.mlen → single h.seals ≡ not (eqb v 4) → Held h → Fit 0 (all_register_bytes h.mlen) rs → AllBytes rs
    → Accepts (after_rule v h.rule h.elen) (bytes_after h rs) (record { header = h; body = rs })
after-in v h rs u o k f b =
    let n = are-bounds v h.elen h.rlen h.mlen k.elen-ok k.rlen-ok.1 k.mlen-ok u in
    let many = fit-first (all_register_bytes h.mlen) rs f in (
      h.rlen,
      _,
      inl (k.rlen-ok.0, n.0),
      refl,
      (
        h.mlen,
        _,
        inl (n.1, n.2),
        refl,
        (
          h.mtype,
          _,
          k.mtype-ok,
          refl,
          (
            h.tile_m,
            _,
            inl (omega arith, k.tile-m-ok),
            refl,
            (
              h.tile_k,
              _,
              inl (omega arith, k.tile-k-ok),
              refl,
              (
                h.tile_n,
                _,
                inl (omega arith, k.tile-n-ok),
                refl,
                seals-in v h.seals _ _ _ k.seals-few k.seals-ok o
                    (length rs, _, inl (omega arith), refl, runs-in (λ qs. record { header = h; body = qs }) 0 (all_register_bytes h.mlen) rs f b),
              ),
            ),
          ),
        ),
      ),
    )

pub image-in : (h : Header) (rs : List Run) → Held h → Fit 0 (all_register_bytes h.mlen) rs → AllBytes rs
    → Accepts image_format (spelled h rs) (record { header = h; body = rs })
unfolding image_format
image-in h rs k f b = by (single h.seals) refl (beyond h.elen h.rlen h.mlen) refl (eqb h.rule 1) refl
  where
    d : Described
    d = record { header = h; body = rs }

    rest : (v x : ℕ) → v < 3 → single h.seals ≡ not (eqb v 4) → beyond h.elen h.rlen h.mlen ≡ false → h.rule ≡ x → Accepts (after_rule v x 5) (bytes_after h rs) d
    rest v x l o u q =
        let five = (within-old h.elen h.rlen h.mlen k.elen-ok u).0 in
        let is = after-in v h rs (record { old = λ z. u; large = λ z. absurd (omega arith) }) o k f b in
        subst (λ (e : ℕ). Accepts (after_rule v x e) (bytes_after h rs) d) five (subst (λ (x : ℕ). Accepts (after_rule v x h.elen) (bytes_after h rs) d) q is)

    by : (o : Bool) → single h.seals ≡ o → (u : Bool) → beyond h.elen h.rlen h.mlen ≡ u → (t : Bool) → eqb h.rule 1 ≡ t
        → Accepts image_format (encode_all (cond o (cond u (3 ∷ h.rule ∷ h.elen ∷ []) (cond t (2 ∷ 1 ∷ []) (1 ∷ []))) (4 ∷ h.rule ∷ h.elen ∷ [])) (bytes_after h rs)) d
    by true o true p t q = (3, _, inl (omega arith), refl, (h.rule, _, inl (omega (arith, k.rule-ok)), refl, (h.elen, _, inl k.elen-ok, refl, after-in 3 h rs (record { old = λ z. absurd (omega arith); large = λ z. p }) o k f b)))
    by true o false p true q = (2, _, inl (omega arith), refl, (1, _, inl (omega arith), refl, rest 2 1 (omega arith) o p (eqb-true h.rule 1 q)))
    by true o false p false q = (1, _, inl (omega arith), refl, rest 1 0 (omega arith) o p (omega (arith, k.rule-ok, eqb-false h.rule 1 q)))
    by false o u p t q = (4, _, inl (omega arith), refl, (h.rule, _, inl (omega (arith, k.rule-ok)), refl, (h.elen, _, inl k.elen-ok, refl, after-in 4 h rs (record { old = λ z. absurd (omega arith); large = λ z. absurd (omega arith) }) o k f b)))

-- ---- the bytes of runs and of cells

-- the cells' bytes are bytes
abbrev pub CellsOk : List Cell → Type 0
CellsOk [] = Unit {0}
CellsOk (none ∷ cs) = CellsOk cs
CellsOk (some b ∷ cs) = (b < 256) × CellsOk cs

all-widen : (rs : List Run) → AllBytes rs → AllBytes (widen rs)
all-widen [] h = tt
all-widen (run g b ∷ rs) h = h

all_join : (c : ℕ) (rs : List Run) → c < 256 → AllBytes rs → AllBytes (join c rs)
all_join c [] hc h = ((hc, tt), tt)
all_join c (run zero b ∷ rs) hc h = ((hc, h.0), h.1)
all_join c (run (suc g) b ∷ rs) hc h = ((hc, tt), h)

pub all_runs : (cs : List Cell) → CellsOk cs → AllBytes (runs cs)
unfolding runs
all_runs [] h = tt
all_runs (none ∷ cs) h = all-widen (runs cs) (all_runs cs h)
all_runs (some b ∷ cs) h = all_join b (runs cs) h.0 (all_runs cs h.1)

ok-none : (n : ℕ) (cs : List Cell) → CellsOk cs → CellsOk (replicate n none ++ cs)
ok-none zero cs h = h
ok-none (suc n) cs h = ok-none n cs h

ok-blank : (n : ℕ) → CellsOk (replicate n none)
ok-blank zero = tt
ok-blank (suc n) = ok-blank n

ok-body : (b : List ℕ) (cs : List Cell) → ByteString b → CellsOk cs → CellsOk (map some b ++ cs)
ok-body [] cs hb h = h
ok-body (x ∷ b) cs hb h = (hb.0, ok-body b cs hb.1 h)

pub ok-spread : (n : ℕ) (rs : List Run) → AllBytes rs → CellsOk (spread n rs)
unfolding spread
ok-spread n [] h = ok-blank n
ok-spread n (run g b ∷ rs) h = ok-none g _ (ok-body b _ h.0 (ok-spread (n - (g + length b)) rs h.1))
