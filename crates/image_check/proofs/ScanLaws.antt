-- The loops of a scan: one turn, what they keep, and what the runs that were read say of the image.
use Rattle.std.specs.Prelude.{Ok, Err}
use Rattle.numbers.proofs.Kit.{◌≡◌, refl, sym, ap, ◌∙◌, subst, Bool, true, false, cond, List, ℕ, zero, suc, ◌+◌, ◌-◌, ◌*◌, ◌^◌, ◌≤◌, ◌<◌, min, arith, eqb}
use Rattle.numbers.proofs.Kit.{ltb, length, lt-ltb, le-ltb, ltb-true, ltb-false, eq-eqb, ne_eqb, eqb-true}
use Rattle.image.specs.declared.ImageError.TheVariants.{Damaged}
use Rattle.numbers_coded.specs.declared.Damage.{Damage}
use Rattle.image.specs.Reading.{Verdict}
use Rattle.image_header.specs.declared.Fields.{Fields}
use Rattle.image_check.specs.declared.runs.RunRead.{RunRead}
use Rattle.image_check.specs.declared.runs.Runs.{Runs}
use Rattle.image_header.specs.Fields.{read_in, fields_in}
use Rattle.image_check.specs.Parts.{Next, plain_run, next_at, RunsOk, runs_of, past_run, run_from, runs_all, runs_behind, runs_verdict}
use Rattle.image_check.specs.Parts.Next.{NextRun, NextBad}
use Rattle.image_check.proofs.RunsLaws.{runs-end, runs-trail, next-bad, next_known, run-next}
use Rattle.image_header.proofs.HeadLaws.{head-sizes}
use Rattle.image_header.proofs.FieldLaws.{head-known}

-- ---- the runs

pub behind-at : (f : Fields) → (runs_behind f).at ≡ f.at
unfolding runs_behind
behind-at f = go (eqb f.next 12)
  where
    go : (u : Bool) → (cond u (runs_of f.runs 0 (2 * 2 ^ f.mlen) f.at f.at) (runs_of 0 0 0 f.at f.at)).at ≡ f.at
    go true = refl
    go false = refl

pub least-one : (k : ℕ) → min k 1 ≤ 1
least-one k = omega arith

-- what the code has of a run
pub run-good : (q : Next) {r : RunRead} → Ok r ≡ plain_run q → q ≡ NextRun r.gap r.size r.at
run-good (NextRun g n a) e = cc
run-good (NextBad p) e = let z : ◌≡◌ {A = ℕ} 0 1 = cc in absurd (omega arith)

pub run-bad : (q : Next) {d : Damage} → Err d ≡ plain_run q → q ≡ NextBad d.at
run-bad (NextRun g n a) e = let z : ◌≡◌ {A = ℕ} 0 1 = cc in absurd (omega arith)
run-bad (NextBad p) e = cc

module _ (s : List ℕ) where
  pub run-less : (at : ℕ) (t : Runs) → 0 < t.left → (run_from s at t).left < t.left
  unfolding run_from
  run-less at t h = go (next_at s at t.left (min t.kept 1) t.room)
    where
      go : (n : Next) → (past_run t at n).left < t.left
      go (NextRun gap size a) = omega arith
      go (NextBad p) = h

  runs-enough : (f g : ℕ) (t : Runs) → t.left ≤ f → t.left ≤ g → runs_all s f t ≡ runs_all s g t
  unfolding runs_all
  runs-enough zero zero t h k = refl
  runs-enough zero (suc g) t h k = rw (le-ltb 0 t.left h, runs_all)
  runs-enough (suc f) zero t h k = rw (le-ltb 0 t.left k, runs_all)
  runs-enough (suc f) (suc g) t h k = go (ltb 0 t.left) refl (λ l. runs-enough f g (run_from s t.at t) (omega (arith, run-less t.at t l)) (omega (arith, run-less t.at t l)))
    where
      go : (c : Bool) → ltb 0 t.left ≡ c → (0 < t.left → runs_all s f (run_from s t.at t) ≡ runs_all s g (run_from s t.at t))
          → cond c (runs_all s f (run_from s t.at t)) t ≡ cond c (runs_all s g (run_from s t.at t)) t
      go true e ih = ih (ltb-true 0 t.left e)
      go false e ih = refl

  -- all that are left of the runs
  abbrev pub remaining : Runs → Runs
  remaining t = runs_all s t.left t

  runs-turn : (k : ℕ) (t : Runs) → t.left ≡ suc k → remaining (run_from s t.at t) ≡ runs_all s (suc k) t
  unfolding runs_all
  runs-turn k t e =
      let some : 0 < t.left = omega (arith, e) in
      runs-enough (run_from s t.at t).left k (run_from s t.at t) (omega arith) (omega (arith, run-less t.at t some, e))
      ∙ ap (λ (c : Bool). cond c (runs_all s k (run_from s t.at t)) t) (sym (lt-ltb 0 t.left some))

  pub runs-step : (t : Runs) → 0 < t.left → remaining (run_from s t.at t) ≡ remaining t
  runs-step t h =
      let some : t.left ≡ suc (t.left - 1) = omega arith in
      runs-turn (t.left - 1) t some ∙ ap (λ (n : ℕ). runs_all s n t) (sym some)

  pub runs_done : (t : Runs) → t.left ≤ 0 → t ≡ remaining t
  unfolding runs_all
  runs_done t h = let none : t.left ≡ 0 = omega arith in ap (λ (n : ℕ). runs_all s n t) (sym none)

  -- what the code asks of the next run, where one is left
  abbrev pub Sound : Runs → Type 0
  Sound t = 0 < t.left → RunsOk s t.at t

  pub run_ok : (at : ℕ) (t : Runs) → 0 < t.left → RunsOk s at t → Sound (run_from s at t)
  unfolding run_from
  run_ok at t h ok = go (next_at s at t.left (min t.kept 1) t.room) refl
    where
      go : (n : Next) → next_at s at t.left (min t.kept 1) t.room ≡ n → Sound (past_run t at n)
      go (NextRun gap size a) e l =
          let r = next_known s at t.left (min t.kept 1) t.room ok.0 h (omega arith) ok.1 gap size a e in
          (r.in_image, omega (arith, r.in-room, ok.1), omega (arith, ok.2), omega (arith, ok.3))
      go (NextBad p) e l = absurd (omega (arith, l))

  -- before the first
  pub behind-ok : Sound (runs_behind (fields_in s))
  unfolding runs_behind
  behind-ok = go (eqb (fields_in s).next 12) refl
    where
      go : (u : Bool) → eqb (fields_in s).next 12 ≡ u
          → Sound (cond u (runs_of (fields_in s).runs 0 (2 * 2 ^ (fields_in s).mlen) (fields_in s).at (fields_in s).at) (runs_of 0 0 0 (fields_in s).at (fields_in s).at))
      go true e l =
          let z = head-sizes s _ _ _ _ _ (head-known s (fields_in s) refl (eqb-true (fields_in s).next 12 e)) in
          (z.2, omega (arith, z.1), omega (arith, z.0), omega (arith, z.0, z.1))
      go false e l = absurd (omega (arith, l))

  pub behind-read : Sound (runs_behind (read_in s))
  unfolding runs_behind fields_in
  behind-read = behind-ok

  -- what they say of the image
  abbrev pub run_verdict : ℕ → Runs → Verdict
  run_verdict count t = cond (eqb t.kept count) (cond (eqb t.place (length s)) (Ok tt) (Err (Damaged t.place))) (Err (Damaged t.place))

  none_left : (t : Runs) → t.left ≡ 0 → t.at ≤ length s → t.place ≡ t.at → run_verdict t.kept t ≡ runs_verdict s t.at t.left (min t.kept 1) t.room
  none_left t e there same = rw (eq-eqb t.kept t.kept refl, same) (go (ltb t.at (length s)) refl)
    where
      go : (u : Bool) → ltb t.at (length s) ≡ u → cond (eqb t.at (length s)) (Ok tt) (Err (Damaged t.at)) ≡ runs_verdict s t.at t.left (min t.kept 1) t.room
      go true i =
          let l : t.at < length s = ltb-true t.at (length s) i in
          rw (ne_eqb t.at (length s) (λ x. omega (arith, x, l))) (sym (runs-trail s t.at (min t.kept 1) t.room t.left e l))
      go false i =
          let l : length s ≤ t.at = ltb-false t.at (length s) i in
          rw (eq-eqb t.at (length s) (omega arith)) (sym (runs-end s t.at (min t.kept 1) t.room t.left e l))

  verdict-all : (n : ℕ) (t : Runs) → t.left ≡ n → t.at ≤ length s → Sound t → t.place ≡ t.at → (count : ℕ) → t.kept + t.left ≡ count
      → run_verdict count (runs_all s n t) ≡ runs_verdict s t.at t.left (min t.kept 1) t.room
  unfolding runs_all run_from
  verdict-all zero t e there ok same count many =
      let all : t.kept ≡ count = omega arith in
      subst (λ (x : ℕ). run_verdict x t ≡ runs_verdict s t.at t.left (min t.kept 1) t.room) all (none_left t e there same)
  verdict-all (suc n) t e there ok same count many =
      let some : 0 < t.left = omega (arith, e) in
      rw (lt-ltb 0 t.left some) (go (next_at s t.at t.left (min t.kept 1) t.room) refl (λ u. verdict-all n u))
    where
      go : (q : Next) → next_at s t.at t.left (min t.kept 1) t.room ≡ q
          → ((u : Runs) → u.left ≡ n → u.at ≤ length s → Sound u → u.place ≡ u.at → (count : ℕ) → u.kept + u.left ≡ count → run_verdict count (runs_all s n u) ≡ runs_verdict s u.at u.left (min u.kept 1) u.room)
          → run_verdict count (runs_all s n (run_from s t.at t)) ≡ runs_verdict s t.at t.left (min t.kept 1) t.room
      go (NextRun gap size a) i ih =
          let some : 0 < t.left = omega (arith, e) in
          let k = ok some in
          let r = next_known s t.at t.left (min t.kept 1) t.room k.0 some (omega arith) k.1 gap size a i in
          let u : Runs = past_run t t.at (NextRun gap size a) in
          ap (λ (x : Next). run_verdict count (runs_all s n (past_run t t.at x))) i
          ∙ ih u (omega (arith, e)) r.in_image (subst (λ (x : Next). Sound (past_run t t.at x)) i (run_ok t.at t some k)) refl count (omega arith)
          ∙ ap (λ (x : ℕ). runs_verdict s (a + size) (t.left - 1) x (t.room - (gap + size))) {x = min (t.kept + 1) 1} {y = 1} (omega arith)
          ∙ sym (run-next s t.at t.left (min t.kept 1) t.room gap size a r)
      go (NextBad p) i ih =
          let some : 0 < t.left = omega (arith, e) in
          let k = ok some in
          let u : Runs = runs_of 0 t.kept t.room t.at p in
          ap (λ (x : Next). run_verdict count (runs_all s n (past_run t t.at x))) i
          ∙ ap (run_verdict count) (runs-enough n 0 u (omega arith) (omega arith))
          ∙ few
          ∙ sym (next-bad s t.at t.left (min t.kept 1) t.room k.0 some (omega arith) k.1 p i)
        where
          few : run_verdict count (runs_of 0 t.kept t.room t.at p) ≡ Err (Damaged p)
          few = rw (ne_eqb t.kept count (λ x. omega (arith, x, many, e)))

  pub verdict-runs : (count room at : ℕ) → at ≤ length s → Sound (runs_of count 0 room at at) → run_verdict count (runs_all s count (runs_of count 0 room at at)) ≡ runs_verdict s at count 0 room
  verdict-runs count room at there ok =
      verdict-all count (runs_of count 0 room at at) refl there ok refl count (omega arith)
      ∙ ap (λ (x : ℕ). runs_verdict s at count x room) {x = min 0 1} {y = 0} (omega arith)
