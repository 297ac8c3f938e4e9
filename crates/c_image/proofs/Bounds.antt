-- How long an image can be, and how far into an input the parser of images can get: both far below 2^48, for any lists.
use mathlib.Core.Path.{◌≡◌, refl, sym, ◌∙◌, subst}
use mathlib.Core.Bool.{Bool, true, false, cond, false≢true}
use mathlib.Core.List.{List, [], ◌∷◌, ◌++◌}
use mathlib.Core.Logic.{inl, inr}
use Prim.Native.Nat.{ℕ, zero, suc, ◌+◌, ◌-◌, ◌*◌, ◌/◌, ◌^◌, ◌≤◌, ◌<◌, max}
use native.Mathlib.Nat.{pow-suc, div-le_self}
use native.Mathlib.Omega.{arith}
use lib.Dec.{ltb, leb, eqb}
use lib.ListN.{length, take, drop, length-append}
use lib.Pow.{pow_mono}
use borrow.Author.Tests.{leb-false, lt-leb}
use Rattle.numbers_format.specs.Numbers.{Interval, span, Among, encode, encode_all}
use Rattle.numbers_format.specs.Formats.{Format}
use Rattle.numbers_format.specs.Formats.Format.{done, number, bytes}
use Rattle.numbers_format.specs.Parser.{is_among, nonempty, afters, Got, grow, read_number, Parsed, later, parse}
use Rattle.numbers_format.specs.Parser.Got.{value, fault}
use Rattle.numbers_format.specs.Parser.Parsed.{whole, stopped}
use Rattle.numbers_format.proofs.NumberLaws.{is_among-among}
use Rattle.numbers_coded.proofs.SizeLaws.{size-bound}
use Rattle.numbers_coded.proofs.FromLaws.{grow-in}
use Rattle.machine.specs.declared.Machine.{Machine}
use Rattle.machine.specs.Geometry.{range}
use Rattle.machine.specs.Faults.{sound, seals_fit}
use Rattle.machine.proofs.TestLaws.{and_left, and_right}
use Rattle.machine.proofs.NoFault.{sound-is}
use Rattle.machine.proofs.StepLaws.{permitted-bounds}
use Rattle.image.specs.Cells.{Cell, Run, runs, cells_of, Fit}
use Rattle.image.specs.Cells.Run.{run}
use Rattle.image.specs.Images.{Seals, Header, header_of, beyond, single, version, bounds, seal_fields, fields, runs_bytes, image_of, sound_with}
use Rattle.image.specs.ImageFormat.{Described, mtypes, counts, ranges_format, seals_format, all_register_bytes, runs_format, image_format}
use Rattle.image.proofs.RunLaws.{fit-runs}
use Rattle.image.proofs.CellLaws.{length-cells}
use Rattle.image.proofs.ImageLaws.{Room, room_next, room-first, among-span, fit-first, top-rlen, top-mlen, after_rule, Ending}
use Rattle.image.proofs.HeaderLaws.{fit-facts, held}

-- more bytes than any image has
abbrev pub most : ℕ
most = 2 ^ 22

-- ---- the length of an image

number_short : (n : ℕ) (t : List ℕ) → n < 2 ^ 64 → length (encode n ++ t) ≤ 10 + length t
number_short n t h = omega (arith, length-append (encode n) t, size-bound n h)

abbrev Small : List ℕ → Type 0
Small [] = Unit {0}
Small (n ∷ ns) = (n < 2 ^ 64) × Small ns

numbers-short : (ns t : List ℕ) → Small ns → length (encode_all ns t) ≤ 10 * length ns + length t
numbers-short [] t h = omega arith
numbers-short (n ∷ ns) t h = omega (arith, number_short n (encode_all ns t) h.0, numbers-short ns t h.1)

-- a run takes at most twenty bytes beside its own, of which it has one
runs-short : (least n : ℕ) (rs : List Run) → n < 2 ^ 64 → Fit least n rs → length (runs_bytes rs) ≤ 21 * n
runs-short least n [] h f = omega arith
runs-short least n (run g b ∷ rs) h f =
    let rest = runs-short 1 (n - (g + length b)) rs (omega arith) f.1 in
    let first = f.0 in
    omega (
      arith,
      number_short g (encode (length b) ++ (b ++ runs_bytes rs)) (omega arith),
      number_short (length b) (b ++ runs_bytes rs) (omega arith),
      length-append b (runs_bytes rs),
      rest,
    )

mtype-small : (e t : ℕ) → e ≤ 6 → Among t (mtypes e) → t < 2 ^ 64
unfolding mtypes
mtype-small e t few (inl h) = omega arith
mtype-small e t few (inr (inl h)) = omega arith
mtype-small e t few (inr (inr (inl h))) = omega arith
mtype-small e t few (inr (inr (inr h))) = absurd h

version-short : (h : Header) (t : List ℕ) → h.rule ≤ 1 → h.elen ≤ 6 → length (encode_all (version h) t) ≤ 30 + length t
version-short h t hr he = go (single h.seals) (beyond h.elen h.rlen h.mlen) (eqb h.rule 1)
  where
    long : (v : ℕ) → v < 2 ^ 64 → length (encode_all (v ∷ h.rule ∷ h.elen ∷ []) t) ≤ 30 + length t
    long v hv = numbers-short (v ∷ h.rule ∷ h.elen ∷ []) t (hv, (omega arith, (omega arith, tt)))

    go : (a b c : Bool)
        → length (encode_all (cond a (cond b (3 ∷ h.rule ∷ h.elen ∷ []) (cond c (2 ∷ 1 ∷ []) (1 ∷ []))) (4 ∷ h.rule ∷ h.elen ∷ [])) t) ≤ 30 + length t
    go true true c = long 3 (omega arith)
    go true false true = omega (arith, numbers-short (2 ∷ 1 ∷ []) t (omega arith, (omega arith, tt)))
    go true false false = omega (arith, numbers-short (1 ∷ []) t (omega arith, tt))
    go false b c = long 4 (omega arith)

-- a range takes at most twenty bytes, and their number ten
bounds-short : (rs : Seals) (t : List ℕ) → Ending rs → length (encode_all (bounds rs) t) ≤ 20 * length rs + length t
bounds-short [] t h = omega arith
bounds-short (r ∷ rs) t h =
    let e = h.0 in
    omega (
      arith,
      number_short r.start (encode r.size ++ encode_all (bounds rs) t) (omega arith),
      number_short r.size (encode_all (bounds rs) t) (omega arith),
      bounds-short rs t h.1,
    )

seals-short : (rs : Seals) (t : List ℕ) → length rs ≤ 8 → Ending rs → length (encode_all (seal_fields rs) t) ≤ 170 + length t
seals-short rs t few h = go (single rs)
  where
    all : length (encode_all (bounds rs) t) ≤ 20 * length rs + length t
    all = bounds-short rs t h

    go : (a : Bool) → length (encode_all (cond a (bounds rs) (length rs ∷ bounds rs)) t) ≤ 170 + length t
    go true = omega (arith, all)
    go false = omega (arith, all, number_short (length rs) (encode_all (bounds rs) t) (omega arith))

pub image-short : (m : Machine) (seals : Seals) (registers marks : List ℕ) → sound_with m seals registers marks ≡ true → length (image_of m seals registers marks) ≤ most
unfolding image_of
image-short m seals registers marks s =
    let f = sound-is m registers marks (and_left (sound m registers marks) (seals_fit seals) s) in
    let b = permitted-bounds m.rlen m.mlen m.elen f.lengths in
    let h = held m seals registers marks s in
    let few = fit-facts seals (and_right (sound m registers marks) (seals_fit seals) s) in
    let k = f.state in
    let rows : m.mlen / m.rlen ≤ m.mlen = div-le_self m.mlen m.rlen in
    let cells : List Cell = cells_of registers marks in
    let n : length cells ≡ length registers = length-cells registers marks (k.regs-length ∙ sym k.marks-length) in
    let size : length cells ≤ 131072 = omega (arith, n, k.regs-length) in
    let runs_fit = fit-runs cells in
    let count = fit-first (length cells) (runs cells) runs_fit in
    let body : List ℕ = encode (length (runs cells)) ++ runs_bytes (runs cells) in
    let H : Header = header_of m seals in
    let ranges : List ℕ = encode_all (seal_fields seals) body in
    omega (
      arith,
      version-short H (encode_all (fields H) body) h.rule-ok h.elen-ok.1,
      numbers-short (H.rlen ∷ H.mlen ∷ m.mtype ∷ m.tile_m ∷ m.tile_k ∷ m.tile_n ∷ []) ranges (
        omega (arith, h.rlen-ok),
        (
          omega (arith, h.mlen-ok),
          (
            mtype-small H.elen m.mtype h.elen-ok.1 h.mtype-ok,
            (omega (arith, k.m-fits), (omega (arith, k.k-fits), (omega (arith, k.n-fits), tt))),
          ),
        ),
      ),
      seals-short seals body few.0 few.1,
      number_short (length (runs cells)) (runs_bytes (runs cells)) (omega arith),
      runs-short 0 (length cells) (runs cells) (omega arith) runs_fit,
    )

-- ---- the place of a fault

abbrev Below : ℕ → List Interval → Type 0
Below k [] = Unit {0}
Below k (r ∷ rs) = (r.high < k) × Below k rs

below-afters : (g k : ℕ) (rs : List Interval) → Below (k * 128) rs → Below k (afters g rs)
below-afters g k [] h = tt
below-afters g k (r ∷ rs) h = let high = h.0 in (omega arith, below-afters g k rs h.1)

none_after : (g : ℕ) (rs : List Interval) → Below 128 rs → nonempty (afters g rs) ≡ false
unfolding nonempty
none_after g [] h = refl
none_after g (r ∷ rs) h =
    let high = h.0 in
    rw (lt-leb (max 1 ((r.low + 127 - g) / 128)) ((r.high - g) / 128) (omega arith), none_after g rs h.1)

-- at most k bytes are read
abbrev Reach : List Interval → ℕ → Got → Type 0
Reach rs k (value n l) = Among n rs × (l ≤ k)
Reach rs k (fault p) = p ≤ k

grown : (g k : ℕ) (rs : List Interval) (r : Got) → Reach (afters g rs) k r → Reach rs (suc k) (grow g r)
grown g k rs (value n l) h = (grow-in g n rs h.0, omega (arith, h.1))
grown g k rs (fault p) h = omega (arith, h)

first_group : (k b : ℕ) (rs : List Interval) (rest : Got) → (nonempty (afters (b - 128) rs) ≡ true → Reach (afters (b - 128) rs) k rest)
    → Reach rs (suc k) (cond (ltb b 128) (cond (is_among b rs) (value b 1) (fault 0)) (cond (nonempty (afters (b - 128) rs)) (grow (b - 128) rest) (fault 0)))
first_group k b rs rest next = go (ltb b 128) (is_among b rs) refl (nonempty (afters (b - 128) rs)) refl
  where
    go : (t u : Bool) → is_among b rs ≡ u → (v : Bool) → nonempty (afters (b - 128) rs) ≡ v
        → Reach rs (suc k) (cond t (cond u (value b 1) (fault 0)) (cond v (grow (b - 128) rest) (fault 0)))
    go true true e v w = (is_among-among b rs e, omega arith)
    go true false e v w = omega arith
    go false u e true w = grown (b - 128) k rs rest (next w)
    go false u e false w = omega arith

reads_short : (k : ℕ) (rs : List Interval) (s : List ℕ) → Below (128 ^ suc k) rs → Reach rs (suc k) (read_number rs s)
unfolding read_number
reads_short k rs [] h = omega arith
reads_short zero rs (b ∷ s) h = first_group 0 b rs (read_number (afters (b - 128) rs) s) (λ e. absurd (false≢true (sym (none_after (b - 128) rs h) ∙ e)))
reads_short (suc k) rs (b ∷ s) h =
    first_group (suc k) b rs (read_number (afters (b - 128) rs) s)
    (λ e. reads_short k (afters (b - 128) rs) s (below-afters (b - 128) (128 ^ suc k) rs (subst (λ (x : ℕ). Below x rs) (pow-suc 128 (suc k)) h)))

module _ {X : Type 0} where
  -- a format whose numbers take at most ten bytes each, and whose fields take at most k in all
  abbrev Short : ℕ → Format X → Type 0
  Short k (done x) = Unit {0}
  Short k (number rs f) = (10 ≤ k) × Below (128 ^ 10) rs × ((n : ℕ) → Among n rs → Short (k - 10) (f n))
  Short k (bytes m f) = (m ≤ k) × ((b : List ℕ) → Short (k - m) (f b))

  short-more : (f : Format X) (j k : ℕ) → j ≤ k → Short j f → Short k f
  short-more (done x) j k l h = tt
  short-more (number rs f) j k l h = (omega (arith, h.0), h.1, λ n i. short-more (f n) (j - 10) (k - 10) (omega arith) (h.2 n i))
  short-more (bytes m f) j k l h = (omega (arith, h.0), λ b. short-more (f b) (j - m) (k - m) (omega arith) (h.1 b))

  -- at a place from 0 to k, if at all
  abbrev pub Stops : ℕ → Parsed X → Type 0
  Stops k (whole x) = Unit {0}
  Stops k (stopped p) = p ≤ k

  stops-later : (k l m : ℕ) (q : Parsed X) → l + m ≤ k → Stops m q → Stops k (later l q)
  stops-later k l m (whole x) h w = tt
  stops-later k l m (stopped p) h w = omega (arith, w)

  parse-short : (f : Format X) (k : ℕ) → Short k f → (s : List ℕ) → Stops k (parse f s)
  unfolding parse
  parse-short (done x) k h [] = tt
  parse-short (done x) k h (b ∷ s) = omega arith
  parse-short (number rs f) k h s = go (read_number rs s) (reads_short 9 rs s h.1) (λ n l i. parse-short (f n) (k - 10) (h.2 n i) (drop l s))
    where
      go : (r : Got) → Reach rs 10 r → ((n l : ℕ) → Among n rs → Stops (k - 10) (parse (f n) (drop l s)))
          → Stops k (elim r [ value n l ↦ later l (parse (f n) (drop l s)) | fault p ↦ stopped p ])
      go (value n l) w ih = stops-later k l (k - 10) (parse (f n) (drop l s)) (omega (arith, w.1, h.0)) (ih n l w.0)
      go (fault p) w ih = omega (arith, w, h.0)
  parse-short (bytes m f) k h s = go (leb m (length s)) refl (parse-short (f (take m s)) (k - m) (h.1 (take m s)) (drop m s))
    where
      go : (t : Bool) → leb m (length s) ≡ t → Stops (k - m) (parse (f (take m s)) (drop m s))
          → Stops k (elim t [ true ↦ later m (parse (f (take m s)) (drop m s)) | false ↦ stopped (length s) ])
      go true e ih = stops-later k m (k - m) (parse (f (take m s)) (drop m s)) (omega (arith, h.0)) ih
      go false e ih = omega (arith, h.0, leb-false m (length s) e)

-- ---- the format of images

power_small : (x : ℕ) → x ≤ 16 → 2 ^ x ≤ 65536
power_small x h = pow_mono h

runs_fit : (f : List Run → Described) (l least room k : ℕ) → room ≤ 131072 → 21 * room ≤ k → Room l least room → Short k (runs_format f l least room)
unfolding runs_format
runs_fit f zero least room k small h w = tt
runs_fit f (suc l) least room k small h w = (
  omega arith,
  (omega arith, tt),
  λ g hg. let kg = among-span hg in (
    omega arith,
    (omega arith, tt),
    λ n hn. let kn = among-span hn in (
      omega arith,
      λ b. runs_fit (λ rs. f (run g b ∷ rs)) l 1 (room - (g + n)) (k - 10 - 10 - n) (omega arith) (omega arith) (room_next l (room - (g + n)) (omega arith)),
    ),
  ),
)

-- so many ranges, of at most twenty bytes each, before what is short
ranges-fit : (n k : ℕ) (K : Seals → Format Described) → ((rs : Seals) → Short k (K rs)) → Short (20 * n + k) (ranges_format n K)
unfolding ranges_format
ranges-fit zero k K h = short-more (K []) k (20 * 0 + k) (omega arith) (h [])
ranges-fit (suc n) k K h = (
  omega arith,
  (omega arith, tt),
  λ st hst. (
    omega arith,
    (omega arith, tt),
    λ ln hln. short-more (ranges_format n (λ rs. K (range st ln ∷ rs))) (20 * n + k) (20 * suc n + k - 10 - 10) (omega arith) (ranges-fit n k (λ rs. K (range st ln ∷ rs)) (λ rs. h (range st ln ∷ rs))),
  ),
)

seals-fit : (v k : ℕ) (K : Seals → Format Described) → ((rs : Seals) → Short k (K rs)) → Short (170 + k) (seals_format v K)
seals-fit v k K h = go (eqb v 4)
  where
    few : (n : ℕ) → Among n counts → n ≤ 8
    few n (inl a) = omega (arith, a.1)
    few n (inr (inl a)) = a.1
    few n (inr (inr a)) = absurd a

    go : (t : Bool) → Short (170 + k) (cond t (number counts λ count. ranges_format count K) (ranges_format 1 K))
    go true = (omega arith, (omega arith, (omega arith, tt)), λ n hn. short-more (ranges_format n K) (20 * n + k) (170 + k - 10) (omega (arith, few n hn)) (ranges-fit n k K h))
    go false = short-more (ranges_format 1 K) (20 * 1 + k) (170 + k) (omega arith) (ranges-fit 1 k K h)

after-fits : (v rule elen : ℕ) → elen ≤ 6 → Short (most - 30) (after_rule v rule elen)
unfolding mtypes
after-fits v rule elen few = (
  omega arith,
  (omega (arith, top-rlen v), tt),
  λ r hr. let kr = among-span hr in (
    omega arith,
    (omega (arith, top-mlen v), tt),
    λ m hm.
        let km = among-span hm in
        let fr = top-rlen v in
        let fm = top-mlen v in
        let rows = power_small (m - r) (omega arith) in
        let columns = power_small (r - 3) (omega arith) in
        let size = power_small m (omega arith) in (
          omega arith,
          (omega arith, (omega arith, (omega arith, tt))),
          λ t ht. (
            omega arith,
            (omega arith, tt),
            λ tm htm. (
              omega arith,
              (omega arith, tt),
              λ tk htk. (
                omega arith,
                (omega arith, tt),
                λ tn htn. seals-fit v (most - 260) _ (λ rs. (
                  omega arith,
                  (omega arith, tt),
                  λ c hc. let kc = among-span hc in runs_fit _ c 0 (all_register_bytes m) (most - 270) (omega arith) (omega arith) (room-first c (2 ^ m) kc.1),
                )),
              ),
            ),
          ),
        ),
  ),
)

image-fits : Short most image_format
unfolding image_format
image-fits = (omega arith, (omega arith, tt), λ v hv. by v (eqb v 1) (eqb v 2))
  where
    by : (v : ℕ) (t u : Bool) → Short (most - 10) (cond t (after_rule v 0 5) (cond u (number (span 1 1) λ rule. after_rule v rule 5) (number (span 0 1) λ rule. number (span 5 6) λ elen. after_rule v rule elen)))
    by v true u = short-more (after_rule v 0 5) (most - 30) (most - 10) (omega arith) (after-fits v 0 5 (omega arith))
    by v false true = (omega arith, (omega arith, tt), λ r hr. short-more (after_rule v r 5) (most - 30) (most - 20) (omega arith) (after-fits v r 5 (omega arith)))
    by v false false = (omega arith, (omega arith, tt), λ r hr. (omega arith, (omega arith, tt), λ e he. after-fits v r e (among-span he).1))

pub place_short : (s : List ℕ) → Stops most (parse image_format s)
place_short = parse-short image_format most image-fits
