-- What a return of the entry point has to show.
use Rattle.std.specs.Prelude.{Ok, Err}
use Rattle.numbers.proofs.Kit.{◌≡◌, refl, sym, ap, ◌∙◌, subst, Bool, true, false, cond, List, ℕ, ◌*◌, ◌^◌, eqb, arith, length, eqb-true, eqb-false}
use Rattle.numbers.proofs.Kit.{eq-eqb}
use Rattle.numbers_format.specs.Parser.{Parsed}
use Rattle.numbers_format.specs.Parser.Parsed.{whole, stopped}
use Rattle.machine.specs.declared.Machine.{Machine}
use Rattle.image.specs.declared.ImageError.TheVariants.{Damaged}
use Rattle.image.specs.ImageFormat.{Described}
use Rattle.image.specs.Reading.{Verdict, verdict_of, check_image}
use Rattle.image_header.specs.declared.Fields.{Fields}
use Rattle.image_check.specs.declared.runs.Runs.{Runs}
use Rattle.image_check.specs.declared.scan.Scanned.{Scanned}
use Rattle.image_header.specs.Fields.{FieldsOk, fields_in, machine_of, describe, runs_from}
use Rattle.image_check.specs.Parts.{runs_verdict, runs_of, runs_all, runs_behind, scan_in, verdict_in}
use Rattle.image_header.proofs.BodyLaws.{mapped}
use Rattle.image_header.proofs.HeadLaws.{HeadedOk}
use Rattle.image_header.proofs.HeadLaws.{head-parse, head-sizes}
use Rattle.image_header.proofs.FieldLaws.{head-bad, head-known}
use Rattle.image_header.proofs.ReadyLaws.{fields-ok}
use Rattle.image_check.proofs.ScanLaws.{Sound, behind-ok, run_verdict, verdict-runs}

-- the verdict on the runs is that on the image
pub check-runs-is : (s : List ℕ) (m : Machine) (n f c a : ℕ) (h : HeadedOk s m n f c a) (v : Verdict) → v ≡ runs_verdict s a c 0 (2 * m.mlen) → v ≡ check_image s
unfolding check_image runs_verdict
check-runs-is s m n f c a h v is = is ∙ go (runs_from s a c 0 (2 * m.mlen)) ∙ ap verdict_of (sym (head-parse s m n f c a h))
  where
    go : (q : Parsed Described) → verdict_of q ≡ verdict_of (mapped (λ d. describe h.header d.body) q)
    go (whole d) = refl
    go (stopped p) = refl

-- the verdict on a scan
pub verdict-is : (s : List ℕ) → verdict_in (scan_in s) (length s) ≡ check_image s
unfolding verdict_in scan_in runs_behind runs_all check_image
verdict-is s = go (eqb F.next 12) refl (behind-ok s)
  where
    F : Fields
    F = fields_in s

    first : Bool → Runs
    first u = cond u (runs_of F.runs 0 (2 * 2 ^ F.mlen) F.at F.at) (runs_of 0 0 0 F.at F.at)

    go : (u : Bool) → eqb F.next 12 ≡ u → Sound s (first u)
        → cond u (run_verdict s F.runs (runs_all s (first u).left (first u))) (Err (Damaged (runs_all s (first u).left (first u)).place)) ≡ check_image s
    go true e ok =
        let h = head-known s F refl (eqb-true F.next 12 e) in
        check-runs-is s _ _ _ _ _ h _ (verdict-runs s F.runs (2 * 2 ^ F.mlen) F.at (head-sizes s _ _ _ _ _ h).2 ok)
    go false e ok = ap verdict_of (sym (head-bad s F refl (eqb-false F.next 12 e)))

-- ---- for those that go on from a scan

module _ (s : List ℕ) (t : Scanned) (is : t ≡ scan_in s) where
  pub scan-fields : t.fields ≡ fields_in s
  unfolding scan_in
  scan-fields = ap (λ (x : Scanned). x.fields) is

  pub scan-ok : FieldsOk t.fields
  scan-ok = subst FieldsOk (sym scan-fields) (fields-ok s)

  pub scan-verdict : (v : Verdict) → v ≡ verdict_in t (length s) → v ≡ check_image s
  scan-verdict v e = e ∙ ap (λ (x : Scanned). verdict_in x (length s)) is ∙ verdict-is s

  -- where the header is whole
  module _ (e : t.fields.next ≡ 12) where
    pub scan-headed : HeadedOk s (machine_of t.fields) t.fields.seals t.fields.seals_at t.fields.runs t.fields.at
    scan-headed = head-known s t.fields scan-fields e

    pub scan_runs : t.runs ≡ runs_all s t.fields.runs (runs_of t.fields.runs 0 (2 * 2 ^ t.fields.mlen) t.fields.at t.fields.at)
    unfolding scan_in runs_behind
    scan_runs =
        ap (λ (x : Scanned). x.runs) is ∙ ap (λ (f : Fields). runs_all s (runs_behind f).left (runs_behind f)) (sym scan-fields)
        ∙ rw (eq-eqb t.fields.next 12 e)

    pub scan-sound : Sound s (runs_of t.fields.runs 0 (2 * 2 ^ t.fields.mlen) t.fields.at t.fields.at)
    unfolding runs_behind
    scan-sound = rw (eq-eqb t.fields.next 12 e) at (subst (λ (f : Fields). Sound s (runs_behind f)) (sym scan-fields) (behind-ok s))

    pub scan-verdict-runs : (v : Verdict) → v ≡ verdict_in t (length s) → v ≡ runs_verdict s t.fields.at t.fields.runs 0 (2 * 2 ^ t.fields.mlen)
    unfolding verdict_in
    scan-verdict-runs v w =
        w ∙ rw (eq-eqb t.fields.next 12 e, scan_runs)
        (verdict-runs s t.fields.runs (2 * 2 ^ t.fields.mlen) t.fields.at (head-sizes s _ _ _ _ _ scan-headed).2 scan-sound)

pub done-headed : (t : Scanned) (size : ℕ) → verdict_in t size ≡ Ok tt → t.fields.next ≡ 12
unfolding verdict_in
done-headed t size e = go (eqb t.fields.next 12) refl e
  where
    bad : Verdict
    bad = Err (Damaged t.runs.place)

    verdict : Bool → Verdict
    verdict u = cond u (cond (eqb t.runs.kept t.fields.runs) (cond (eqb t.runs.place size) (Ok tt) bad) bad) bad

    go : (u : Bool) → eqb t.fields.next 12 ≡ u → verdict u ≡ Ok tt → t.fields.next ≡ 12
    go true i h = eqb-true t.fields.next 12 i
    go false i h = let z : ◌≡◌ {A = ℕ} 0 1 = cc in absurd (omega arith)
