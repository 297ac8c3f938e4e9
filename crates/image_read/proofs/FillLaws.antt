-- Filling runs into lent registers and marks, run by run.
use Rattle.std.specs.Prelude.{Ok, Err}
use Rattle.numbers.proofs.Kit.{◌≡◌, refl, sym, ap, ap₂, ◌∙◌, subst, Bool, true, false, List, [], ◌∷◌, ◌++◌, map, append_assoc, none, some, ℕ, zero, suc}
use Rattle.numbers.proofs.Kit.{◌+◌, ◌-◌, ◌≤◌, arith, ltb, length, take, drop, replicate, length-append, length-drop, length-replicate, take-append-drop}
use Rattle.numbers.proofs.Kit.{sets, sets-eq, length-sets, drop-drop, take-add, take_at, drop_at, length-take-le, ltb-true, ltb-false}
use Rattle.numbers_format.specs.Formats.Format.{done}
use Rattle.numbers_format.specs.Parser.{Parsed, from}
use Rattle.numbers_format.specs.Parser.Parsed.{whole, stopped}
use Rattle.numbers_coded.proofs.FromLaws.{from_end, from_more}
use Rattle.image.specs.Cells.{Cell, Run, spread, Fit, over, marks_of}
use Rattle.image.specs.Cells.Run.{run}
use Rattle.image.specs.declared.ImageError.TheVariants.{Damaged}
use Rattle.image.specs.ImageFormat.{Described, runs_format}
use Rattle.image.specs.Reading.{Verdict, verdict_of}
use Rattle.image_header.specs.Fields.{runs_from}
use Rattle.image_check.specs.Parts.{runs_verdict}
use Rattle.image_header.proofs.BodyLaws.{mapped}
use Rattle.image_check.proofs.RunsLaws.{plain, cons, RunOk, run-next}
use Rattle.image_read.specs.Parts.{body_of, body_at, ones}

-- ---- over, part by part

over_none : (g : ℕ) (cs : List Cell) (lent : List ℕ) → g ≤ length lent → over (replicate g none ++ cs) lent ≡ take g lent ++ over cs (drop g lent)
over_none zero cs lent h = refl
over_none (suc g) cs [] h = absurd (omega arith)
over_none (suc g) cs (x ∷ lent) h = ap (λ (l : List ℕ). x ∷ l) (over_none g cs lent (omega arith))

over-some : (b : List ℕ) (cs : List Cell) (lent : List ℕ) → length b ≤ length lent → over (map some b ++ cs) lent ≡ b ++ over cs (drop (length b) lent)
over-some [] cs lent h = refl
over-some (c ∷ b) cs [] h = absurd (omega arith)
over-some (c ∷ b) cs (x ∷ lent) h = ap (λ (l : List ℕ). c ∷ l) (over-some b cs lent (omega arith))

over-blank : (n : ℕ) (lent : List ℕ) → length lent ≡ n → over (replicate n none) lent ≡ lent
over-blank zero [] h = refl
over-blank zero (x ∷ lent) h = absurd (omega (arith, h))
over-blank (suc n) [] h = absurd (omega (arith, h))
over-blank (suc n) (x ∷ lent) h = ap (λ (l : List ℕ). x ∷ l) (over-blank n lent (omega (arith, h)))

-- what is left to do: the runs that are left go into the bytes from pos on
unfoldable pub filled : ℕ → List Run → List ℕ → List ℕ
unfolding spread
filled pos rs regs = take pos regs ++ over (spread (length regs - pos) rs) (drop pos regs)

pub filled-start : (rs : List Run) (regs : List ℕ) → filled 0 rs regs ≡ over (spread (length regs) rs) regs
unfolding filled
filled-start rs regs = ap (λ (x : ℕ). over (spread x rs) regs) (omega arith)

pub filled-end : (pos : ℕ) (regs : List ℕ) → filled pos [] regs ≡ regs
unfolding filled
filled-end pos regs = ap (λ (l : List ℕ). take pos regs ++ l) (over-blank (length regs - pos) (drop pos regs) (length-drop pos regs)) ∙ take-append-drop pos regs

-- one run
pub filled-run : (pos g : ℕ) (b : List ℕ) (rs : List Run) (regs : List ℕ) → pos + (g + length b) ≤ length regs
    → filled pos (run g b ∷ rs) regs ≡ filled (pos + (g + length b)) rs (sets regs (pos + g) b)
unfolding filled
filled-run pos g b rs regs h =
    let n : ℕ = length regs - pos in
    let tl : List Cell = spread (n - (g + length b)) rs in
    let dl : length (drop pos regs) ≡ length regs - pos = length-drop pos regs in
    let dg : length (drop g (drop pos regs)) ≡ length (drop pos regs) - g = length-drop g (drop pos regs) in
    let left : filled pos (run g b ∷ rs) regs ≡ take pos regs ++ (take g (drop pos regs) ++ (b ++ over tl (drop (length b) (drop g (drop pos regs))))) =
    ap (λ (l : List ℕ). take pos regs ++ l)
    (over_none g (map some b ++ tl) (drop pos regs) (omega arith)
    ∙ ap (λ (l : List ℕ). take g (drop pos regs) ++ l) (over-some b tl (drop g (drop pos regs)) (omega arith))) in
    let fits : (pos + g) + length b ≤ length regs = omega arith in
    let eq : sets regs (pos + g) b ≡ (take (pos + g) regs ++ b) ++ drop ((pos + g) + length b) regs = sets-eq b regs (pos + g) fits in
    let hd : length (take (pos + g) regs ++ b) ≡ pos + (g + length b) =
    length-append (take (pos + g) regs) b ∙ ap (λ (x : ℕ). x + length b) (length-take-le (pos + g) regs (omega arith)) ∙ omega arith in
    let t : take (pos + (g + length b)) (sets regs (pos + g) b) ≡ take (pos + g) regs ++ b = ap (take (pos + (g + length b))) eq ∙ take_at (take (pos + g) regs ++ b) _ (pos + (g + length b)) hd in
    let d : drop (pos + (g + length b)) (sets regs (pos + g) b) ≡ drop ((pos + g) + length b) regs = ap (drop (pos + (g + length b))) eq ∙ drop_at (take (pos + g) regs ++ b) _ (pos + (g + length b)) hd in
    let m : length (sets regs (pos + g) b) - (pos + (g + length b)) ≡ n - (g + length b) = ap (λ (x : ℕ). x - (pos + (g + length b))) (length-sets regs (pos + g) b) ∙ omega arith in
    let dd : drop (length b) (drop g (drop pos regs)) ≡ drop ((pos + g) + length b) regs = ap (drop (length b)) (drop-drop g pos regs) ∙ drop-drop (length b) (pos + g) regs in
    left
    ∙ sym (append_assoc (take pos regs) (take g (drop pos regs)) (b ++ over tl (drop (length b) (drop g (drop pos regs)))))
    ∙ ap₂ (λ (x y : List ℕ). x ++ (b ++ over tl y)) (sym (take-add pos g regs)) dd
    ∙ sym (append_assoc (take (pos + g) regs) b (over tl (drop ((pos + g) + length b) regs)))
    ∙ sym (ap₂ (λ (x y : List ℕ). x ++ y) t (ap₂ (λ (x : ℕ) (y : List ℕ). over (spread x rs) y) m d))

-- ---- the marks are filled in the same way, with ones, over zeros

marks-append : (cs ds : List Cell) → marks_of (cs ++ ds) ≡ marks_of cs ++ marks_of ds
marks-append [] ds = refl
marks-append (none ∷ cs) ds = ap (λ (l : List ℕ). 0 ∷ l) (marks-append cs ds)
marks-append (some x ∷ cs) ds = ap (λ (l : List ℕ). 1 ∷ l) (marks-append cs ds)

marks-none : (n : ℕ) → marks_of (replicate n none) ≡ replicate n 0
marks-none zero = refl
marks-none (suc n) = ap (λ (l : List ℕ). 0 ∷ l) (marks-none n)

marks-some : (b : List ℕ) → marks_of (map some b) ≡ replicate (length b) 1
marks-some [] = refl
marks-some (c ∷ b) = ap (λ (l : List ℕ). 1 ∷ l) (marks-some b)

take-zeros : (g n : ℕ) → g ≤ n → take g (replicate n 0) ≡ replicate {A = ℕ} g 0
take-zeros zero n h = refl
take-zeros (suc g) zero h = absurd (omega arith)
take-zeros (suc g) (suc n) h = ap (λ (l : List ℕ). 0 ∷ l) (take-zeros g n (omega arith))

drop-zeros : (g n : ℕ) → drop g (replicate n 0) ≡ replicate {A = ℕ} (n - g) 0
drop-zeros zero n = let e : n ≡ n - 0 = omega arith in ap (λ (x : ℕ). replicate x 0) e
drop-zeros (suc g) zero = let e : 0 ≡ 0 - suc g = omega arith in ap (λ (x : ℕ). replicate x 0) e
drop-zeros (suc g) (suc n) = let e : n - g ≡ suc n - suc g = omega arith in drop-zeros g n ∙ ap (λ (x : ℕ). replicate x 0) e

pub marks-ones : (least n : ℕ) (rs : List Run) → Fit least n rs → marks_of (spread n rs) ≡ over (spread n (ones rs)) (replicate n 0)
unfolding spread
marks-ones least n [] h = marks-none n ∙ sym (over-blank n (replicate n 0) (length-replicate n 0))
marks-ones least n (run g b ∷ rs) h =
    let k : ℕ = n - (g + length b) in
    let one : List ℕ = replicate (length b) 1 in
    let long : length one ≡ length b = length-replicate {A = ℕ} (length b) 1 in
    let z : List ℕ = replicate n 0 in
    let zl : length z ≡ n = length-replicate {A = ℕ} n 0 in
    let zg : length (drop g z) ≡ length z - g = length-drop g z in
    let rest : drop (length one) (drop g z) ≡ replicate k 0 =
    drop-drop (length one) g z ∙ drop-zeros (g + length one) n ∙ ap (λ (x : ℕ). replicate (n - (g + x)) 0) long in
    marks-append (replicate g none) (map some b ++ spread k rs)
    ∙ ap₂ (λ (x y : List ℕ). x ++ y) (marks-none g) (marks-append (map some b) (spread k rs) ∙ ap₂ (λ (x y : List ℕ). x ++ y) (marks-some b) (marks-ones 1 k rs h.1))
    ∙ sym (over_none g (map some one ++ spread (n - (g + length one)) (ones rs)) z (omega (arith, h.0))
    ∙ ap₂ (λ (x y : List ℕ). x ++ y) (take-zeros g n (omega (arith, h.0)))
    (over-some one (spread (n - (g + length one)) (ones rs)) (drop g z) (omega (arith, h.0))
    ∙ ap₂ (λ (x : ℕ) (y : List ℕ). one ++ over (spread (n - (g + x)) (ones rs)) y) long rest))

-- ---- the runs that are left, where all are there

pub damaged-done : (p : ℕ) → ◌≡◌ {A = Verdict} (Err (Damaged p)) (Ok tt) → ⊥
damaged-done p e = let z : ◌≡◌ {A = ℕ} 0 1 = cc in absurd (omega arith)

-- none
pub body_end : (s : List ℕ) (at least room l : ℕ) → l ≡ 0 → body_at s at l least room ≡ []
unfolding body_at runs_from runs_format
body_end s at least room l e = rw (e, runs_format) (go (ltb at (length s)) refl)
  where
    go : (t : Bool) → ltb at (length s) ≡ t → body_of (from (done (plain [])) s at) ≡ []
    go true h = ap body_of (from_more s at (plain []) (ltb-true at (length s) h))
    go false h = ap body_of (from_end s at (plain []) (ltb-false at (length s) h))

-- the next run, and the others
body-next : (s : List ℕ) (at left least room gap size a : ℕ) → RunOk s at left least room gap size a → runs_verdict s at left least room ≡ Ok tt
    → body_at s at left least room ≡ run gap (take size (drop a s)) ∷ body_at s (a + size) (left - 1) 1 (room - (gap + size))
unfolding body_at runs_verdict
body-next s at left least room gap size a r k = ap body_of r.step ∙ go (runs_from s (a + size) (left - 1) 1 (room - (gap + size))) refl
  where
    go : (q : Parsed Described) → runs_from s (a + size) (left - 1) 1 (room - (gap + size)) ≡ q → body_of (mapped (cons gap (take size (drop a s))) q) ≡ run gap (take size (drop a s)) ∷ body_of q
    go (whole d) e = refl
    go (stopped p) e = absurd (damaged-done p (sym (ap verdict_of e) ∙ sym (run-next s at left least room gap size a r) ∙ k))

-- ---- one turn of the code's loop: the next run is filled in, and the others are left
module _ (s regs marks : List ℕ) (at left least to gap size a : ℕ) (fits : to ≤ length regs) (same : length marks ≡ length regs) (next : RunOk s at left least (length regs - to) gap size a)
    (sound : runs_verdict s at left least (length regs - to) ≡ Ok tt) where
  abbrev bytes_of : List ℕ
  bytes_of = take size (drop a s)

  abbrev rest_of : List Run
  rest_of = body_at s (a + size) (left - 1) 1 (length regs - to - (gap + size))

  body_is : body_at s at left least (length regs - to) ≡ run gap bytes_of ∷ rest_of
  body_is = body-next s at left least (length regs - to) gap size a next sound

  many : length bytes_of ≡ size
  many = length-take-le size (drop a s) (omega (arith, length-drop a s, next.in_image))

  room-is : length regs - to - (gap + size) ≡ length regs - (to + gap + size)
  room-is = omega arith

  module _ (regs' marks' : List ℕ) (er : regs' ≡ sets regs (to + gap) bytes_of) (em : marks' ≡ sets marks (to + gap) (replicate size 1)) where
    pub length-regs : length regs' ≡ length regs
    length-regs = ap length er ∙ length-sets regs (to + gap) bytes_of

    pub length-marks : length marks' ≡ length marks
    length-marks = ap length em ∙ length-sets marks (to + gap) (replicate size 1)

    left_is : length regs - to - (gap + size) ≡ length regs' - (to + gap + size)
    left_is = room-is ∙ ap (λ (x : ℕ). x - (to + gap + size)) (sym length-regs)

    pub still-done : runs_verdict s (a + size) (left - 1) 1 (length regs' - (to + gap + size)) ≡ Ok tt
    still-done = subst (λ (x : ℕ). runs_verdict s (a + size) (left - 1) 1 x ≡ Ok tt) left_is (sym (run-next s at left least (length regs - to) gap size a next) ∙ sound)

    pub regs-filled : filled to (body_at s at left least (length regs - to)) regs ≡ filled (to + gap + size) (body_at s (a + size) (left - 1) 1 (length regs' - (to + gap + size))) regs'
    regs-filled =
        let e : to + (gap + length bytes_of) ≡ to + gap + size = omega (arith, many) in
        ap (λ (rs : List Run). filled to rs regs) body_is
        ∙ filled-run to gap bytes_of rest_of regs (omega (arith, many, next.in-room))
        ∙ ap₂ (λ (x : ℕ) (ys : List ℕ). filled x rest_of ys) e (sym er)
        ∙ ap (λ (x : ℕ). filled (to + gap + size) (body_at s (a + size) (left - 1) 1 x) regs') left_is

    pub marks-filled : filled to (ones (body_at s at left least (length regs - to))) marks ≡ filled (to + gap + size) (ones (body_at s (a + size) (left - 1) 1 (length regs' - (to + gap + size)))) marks'
    marks-filled =
        let one : List ℕ = replicate (length bytes_of) 1 in
        let long : length one ≡ length bytes_of = length-replicate (length bytes_of) 1 in
        let e : to + (gap + length one) ≡ to + gap + size = omega (arith, many, long) in
        let is : sets marks (to + gap) one ≡ marks' = ap (λ (x : ℕ). sets marks (to + gap) (replicate x 1)) many ∙ sym em in
        ap (λ (rs : List Run). filled to (ones rs) marks) body_is
        ∙ filled-run to gap one (ones rest_of) marks (omega (arith, many, long, same, next.in-room))
        ∙ ap₂ (λ (x : ℕ) (ys : List ℕ). filled x (ones rest_of) ys) e is
        ∙ ap (λ (x : ℕ). filled (to + gap + size) (ones (body_at s (a + size) (left - 1) 1 x)) marks') left_is
