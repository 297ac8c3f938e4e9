use Rattle.numbers.proofs.Kit.{◌≡◌, sym, ap, ap₂, ◌∙◌, subst, List, ℕ, ◌-◌, ◌<◌}
use Rattle.image_header.specs.declared.Fields.{Fields}
use Rattle.image_check.specs.declared.runs.Runs.{Runs}
use Rattle.image_check.specs.declared.scan.Scanned.{Scanned}
use Rattle.image_header.specs.Fields.{first_field, FieldsOk, fields_all, read_in, fields_in, rested}
use Rattle.image_check.specs.Parts.{RunsOk, runs_all, runs_behind, scan_in}
use Rattle.image_header.proofs.ReadyLaws.{read_ok}
use Rattle.image_check.proofs.ScanLaws.{behind-read, behind-at}
use Rattle.std.proofs.Common.{Bor}
use Rattle.image_check.proofs.scan.scan.Goals as goal
use Rattle.image_check.proofs.scan.scan.Goals.{After-read_fields-fields}

fields-is : (s i : List ℕ) (f t : Fields) → i ≡ s → f ≡ first_field → t ≡ fields_all i (12 - f.next) f → t ≡ read_in s
unfolding read_in
fields-is s i f t ei ef et = et ∙ ap₂ (λ (x : List ℕ) (g : Fields). fields_all x (12 - g.next) g) ei ef

runs-pre : (s i : List ℕ) (t : Fields) (b : Runs) → i ≡ s → t ≡ read_in s → b ≡ runs_behind t → (0 < b.left → RunsOk i b.at b) × (t.at ≡ b.at)
runs-pre s i t b ei et eb = (
  subst (λ (x : List ℕ). 0 < b.left → RunsOk x b.at b) (sym ei) (subst (λ (y : Runs). 0 < y.left → RunsOk s y.at y) (sym (eb ∙ ap runs_behind et)) (behind-read s)),
  sym (ap (λ (y : Runs). y.at) eb ∙ behind-at t),
)

whole_is : (s i : List ℕ) (t : Fields) (b z : Runs) (w : Scanned) → i ≡ s → t ≡ read_in s → b ≡ runs_behind t → z ≡ runs_all i b.left b → w ≡ record { fields = rested t; runs = z } → w ≡ scan_in s
unfolding scan_in fields_in runs_behind
whole_is s i t b z w ei et eb ez ew =
    ew ∙ ap₂ (λ (x : Fields) (y : Runs). record { fields = rested x; runs = y }) et (ez ∙ ap₂ (λ (x : List ℕ) (y : Runs). runs_all x y.left y) ei (eb ∙ ap runs_behind et))

read : (c : After-read_fields-fields) → c.read_fields-fields.result ≡ read_in c.args.image.now
read c = fields-is c.args.image.now c.new-r.result.image.now _ _ (ap (λ (x : Bor (List ℕ)). x.now) c.new-r.ensures.0) c.first_field-first.ensures c.read_fields-fields.ensures.0

same : (c : After-read_fields-fields) → c.read_fields-fields.new.r.image.now ≡ c.args.image.now
same c = ap (λ (x : Bor (List ℕ)). x.now) (c.read_fields-fields.ensures.1 ∙ c.new-r.ensures.0)

pub runs_behind-behind-requires : goal.runs_behind-behind-requires
runs_behind-behind-requires c = subst FieldsOk (sym (read c)) (read_ok c.args.image.now)

pub read_runs-runs-requires : goal.read_runs-runs-requires
read_runs-runs-requires c =
    let at = (goal.at.read_runs-runs-requires c).After-read_fields-fields in
    let pre = runs-pre c.args.image.now _ _ _ (same at) (read at) c.runs_behind-behind.ensures in
    (pre.0, c.read_fields-fields.ensures.2 ∙ pre.1)

pub returns : goal.returns
returns c =
    let at = (goal.at.returns c).After-read_fields-fields in
    whole_is c.args.image.now _ _ _ _ _ (same at) (read at) c.runs_behind-behind.ensures c.read_runs-runs.ensures.0 c.found.ensures
