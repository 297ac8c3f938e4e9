-- The runs of an image from a place on, one run at a time.
use Rattle.std.specs.Prelude.{Ok, Err}
use Rattle.numbers.proofs.Kit.{◌≡◌, refl, ap, ◌∙◌, subst, Bool, true, false, cond, List, [], ◌∷◌, ℕ, suc, ◌+◌, ◌-◌, ◌*◌, ◌≤◌, ◌<◌, arith, leb, length, take}
use Rattle.numbers.proofs.Kit.{drop, leb-true, leb-false}
use Rattle.numbers_format.specs.Numbers.{span}
use Rattle.numbers_format.specs.Formats.{Format}
use Rattle.numbers_format.specs.Formats.Format.{number, bytes}
use Rattle.numbers_format.specs.Parser.{Parsed, from}
use Rattle.numbers_format.specs.Parser.Parsed.{whole, stopped}
use Rattle.numbers_coded.specs.At.{Number, number_at}
use Rattle.numbers_coded.specs.At.Number.{Value, Fault}
use Rattle.numbers_coded.proofs.FromLaws.{from-number, from-fault, from_bytes, from-short, from_end, from_more, took}
use Rattle.image.specs.declared.ImageError.TheVariants.{Damaged}
use Rattle.image.specs.Cells.{Run}
use Rattle.image.specs.Cells.Run.{run}
use Rattle.image.specs.ImageFormat.{Described, runs_format}
use Rattle.image.specs.Reading.{verdict_of}
use Rattle.image_header.proofs.BodyLaws.{mapped, from-maps}
use Rattle.image_check.specs.Parts.Next.{NextRun, NextBad}
use Rattle.image_header.specs.Fields.{onward, describe, no_header, runs_from}
use Rattle.image_check.specs.Parts.{Next, next_at, runs_verdict}

-- ---- one run

verdict-mapped : (h : Described → Described) (q : Parsed Described) → verdict_of (mapped h q) ≡ verdict_of q
verdict-mapped h (whole d) = refl
verdict-mapped h (stopped p) = refl

abbrev pub cons : ℕ → List ℕ → Described → Described
cons g b d = describe d.header (run g b ∷ d.body)

abbrev pub plain : List Run → Described
plain = describe no_header

-- what follows a gap, and a length
abbrev size_then : ℕ → ℕ → ℕ → ℕ → Format Described
size_then l room g n = bytes n (λ b. runs_format (λ rs. plain (run g b ∷ rs)) l 1 (room - (g + n)))

abbrev gap_then : ℕ → ℕ → ℕ → Format Described
gap_then l room g = number (span 1 (room - (g + 2 * l))) (size_then l room g)

module _ (s : List ℕ) (at least room : ℕ) where
  pub runs-end : (l : ℕ) → l ≡ 0 → length s ≤ at → runs_verdict s at l least room ≡ Ok tt
  unfolding runs_verdict runs_from runs_format
  runs-end l e h = rw (e, runs_format) (ap verdict_of (from_end s at (plain []) h))

  pub runs-trail : (l : ℕ) → l ≡ 0 → at < length s → runs_verdict s at l least room ≡ Err (Damaged at)
  unfolding runs_verdict runs_from runs_format
  runs-trail l e h = rw (e, runs_format) (ap verdict_of (from_more s at (plain []) h))

  module _ (left l : ℕ) (el : left ≡ suc l) where
    first : runs_from s at left least room ≡ from (number (span least (room - (1 + 2 * l))) (gap_then l room)) s at
    unfolding runs_from runs_format
    first = rw (el, runs_format)

    gap-wrong : (p : ℕ) → number_at s at least (room - (1 + 2 * l)) ≡ Fault p → runs_verdict s at left least room ≡ Err (Damaged p)
    unfolding runs_verdict
    gap-wrong p e = ap verdict_of (first ∙ from-fault s at least (room - (1 + 2 * l)) p (gap_then l room) e)

    module _ (g a : ℕ) (e : number_at s at least (room - (1 + 2 * l)) ≡ Value g a) where
      second : runs_from s at left least room ≡ from (gap_then l room g) s a
      second = first ∙ from-number s at least (room - (1 + 2 * l)) g a (gap_then l room) e

      length-wrong : (p : ℕ) → number_at s a 1 (room - (g + 2 * l)) ≡ Fault p → runs_verdict s at left least room ≡ Err (Damaged p)
      unfolding runs_verdict
      length-wrong p e2 = ap verdict_of (second ∙ from-fault s a 1 (room - (g + 2 * l)) p (size_then l room g) e2)

      module _ (n b : ℕ) (e2 : number_at s a 1 (room - (g + 2 * l)) ≡ Value n b) where
        third : runs_from s at left least room ≡ from (size_then l room g n) s b
        third = second ∙ from-number s a 1 (room - (g + 2 * l)) n b (size_then l room g) e2

        bytes-short : b ≤ length s → length s < b + n → runs_verdict s at left least room ≡ Err (Damaged (length s))
        unfolding runs_verdict
        bytes-short h k = ap verdict_of (third ∙ from-short s b n (λ z. runs_format (λ rs. plain (run g z ∷ rs)) l 1 (room - (g + n))) h k)

        -- one run, then the others
        runs-step : b + n ≤ length s → runs_from s at left least room ≡ mapped (cons g (take n (drop b s))) (runs_from s (b + n) l 1 (room - (g + n)))
        unfolding runs_from
        runs-step h =
            third ∙ from_bytes s b n (λ z. runs_format (λ rs. plain (run g z ∷ rs)) l 1 (room - (g + n))) h
            ∙ from-maps (cons g (take n (drop b s))) plain l 1 (room - (g + n)) s (b + n)

-- ---- the next run: what its numbers are known to be, and that the others follow

pub record RunOk (s : List ℕ) (at left least room gap size a : ℕ) : Type 0 where
  pub in-room : gap + size + 2 * (left - 1) ≤ room
  pub some : 1 ≤ size
  pub in_image : a + size ≤ length s
  pub step : runs_from s at left least room ≡ mapped (cons gap (take size (drop a s))) (runs_from s (a + size) (left - 1) 1 (room - (gap + size)))

abbrev NextOk : List ℕ → (at left least room : ℕ) → Next → Type 0
NextOk s at left least room (NextRun gap size a) = RunOk s at left least room gap size a
NextOk s at left least room (NextBad p) = runs_verdict s at left least room ≡ Err (Damaged p)

module _ (s : List ℕ) (at left least room : ℕ) (there : at ≤ length s) (more : 0 < left) (small : least ≤ 1) (room-ok : least + 2 * left ≤ room + 1) where
  abbrev others : ℕ
  others = left - 1

  is-left : left ≡ suc others
  is-left = omega arith

  next-right : NextOk s at left least room (next_at s at left least room)
  unfolding next_at
  next-right = go (number_at s at least (room - (1 + 2 * others))) refl
    where
      at-end : (g a : ℕ) (e : number_at s at least (room - (1 + 2 * others)) ≡ Value g a) (n b : ℕ) (e2 : number_at s a 1 (room - (g + 2 * others)) ≡ Value n b) (t : Bool) → leb (b + n) (length s) ≡ t
          → NextOk s at left least room (cond t (NextRun g n b) (NextBad (length s)))
      at-end g a e n b e2 true h =
          let tg = took s at least (room - (1 + 2 * others)) g a e in
          let tn = took s a 1 (room - (g + 2 * others)) n b e2 in
          let k : b + n ≤ length s = leb-true (b + n) (length s) h in
          record {
            in-room = omega (arith, tg.least, tg.most, tn.least, tn.most);
            some = tn.least;
            in_image = k;
            step = runs-step s at least room left others is-left g a e n b e2 k;
          }
      at-end g a e n b e2 false h =
          let tg = took s at least (room - (1 + 2 * others)) g a e in
          let tn = took s a 1 (room - (g + 2 * others)) n b e2 in
          bytes-short s at least room left others is-left g a e n b e2 (tn.behind (tg.behind there)) (leb-false (b + n) (length s) h)

      at_size : (g a : ℕ) (e : number_at s at least (room - (1 + 2 * others)) ≡ Value g a) (q : Number) → number_at s a 1 (room - (g + 2 * others)) ≡ q
          → NextOk s at left least room (onward q NextBad λ n b. cond (leb (b + n) (length s)) (NextRun g n b) (NextBad (length s)))
      at_size g a e (Value n b) e2 = at-end g a e n b e2 (leb (b + n) (length s)) refl
      at_size g a e (Fault p) e2 = length-wrong s at least room left others is-left g a e p e2

      go : (q : Number) → number_at s at least (room - (1 + 2 * others)) ≡ q
          → NextOk s at left least room (onward q NextBad λ g a. onward (number_at s a 1 (room - (g + 2 * others))) NextBad λ n b. cond (leb (b + n) (length s)) (NextRun g n b) (NextBad (length s)))
      go (Value g a) e = at_size g a e (number_at s a 1 (room - (g + 2 * others))) refl
      go (Fault p) e = gap-wrong s at least room left others is-left p e

  pub next-bad : (p : ℕ) → next_at s at left least room ≡ NextBad p → runs_verdict s at left least room ≡ Err (Damaged p)
  next-bad p e = subst (NextOk s at left least room) e next-right

  pub next_known : (gap size a : ℕ) → next_at s at left least room ≡ NextRun gap size a → RunOk s at left least room gap size a
  next_known gap size a e = subst (NextOk s at left least room) e next-right

pub run-next : (s : List ℕ) (at left least room gap size a : ℕ) → RunOk s at left least room gap size a → runs_verdict s at left least room ≡ runs_verdict s (a + size) (left - 1) 1 (room - (gap + size))
unfolding runs_verdict
run-next s at left least room gap size a r = ap verdict_of r.step ∙ verdict-mapped (cons gap (take size (drop a s))) (runs_from s (a + size) (left - 1) 1 (room - (gap + size)))
