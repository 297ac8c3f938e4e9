-- `image_read::read_runs` meets its contract.
use Rattle.std.specs.Prelude.{Ok}
use Rattle.std.proofs.lemmas.Result.{err_from_is_err_and}
use Rattle.numbers.proofs.Kit.{◌≡◌, sym, ap, ◌∙◌, subst, ℕ, ◌*◌, ◌^◌, ◌<◌, arith, length, get_or}
use Rattle.machine.specs.declared.Machine.{Machine}
use Rattle.image.specs.Reading.{restored}
use Rattle.image_header.specs.Fields.{ranges_found, machine_of}
use Rattle.image_check.specs.Parts.{runs_verdict}
use Rattle.image_header.proofs.HeadLaws.{HeadedOk}
use Rattle.image_header.proofs.HeadLaws.{head-sizes}
use Rattle.image_check.proofs.CheckLaws.{scan-ok, scan-verdict, scan-headed, scan-verdict-runs, done-headed}
use Rattle.image_read.proofs.ReadLaws.{they-stand, bytes-all, read-refused, read-unfit-is, read-done-is}
use Rattle.image_read.proofs.read_runs.Goals as goal
use Rattle.image_read.proofs.read_runs.Goals.{After-machine_of-machine}

-- the scan, and what it found: the header is whole, and the runs are sound
headed : (k : After-machine_of-machine) → k.scan-found.result.fields.next ≡ 12
headed k = done-headed k.scan-found.result (length k.args.image.now) (sym k.verdict_of.ensures ∙ k.in_ok-verdict_of.was)

head : (k : After-machine_of-machine) → let f = k.scan-found.result.fields in HeadedOk k.args.image.now (machine_of f) f.seals f.seals_at f.runs f.at
head k = let sc = k.scan-found in scan-headed k.args.image.now sc.result sc.ensures (headed k)

runs-are : (k : After-machine_of-machine) → let f = k.scan-found.result.fields in Ok tt ≡ runs_verdict k.args.image.now f.at f.runs 0 (2 * 2 ^ f.mlen)
runs-are k =
    let sc = k.scan-found in
    sym k.in_ok-verdict_of.was ∙ scan-verdict-runs k.args.image.now sc.result sc.ensures (headed k) k.verdict_of.result k.verdict_of.ensures

-- how many bytes the registers have
size_is : (k : After-machine_of-machine) → 2 * k.machine_of-machine.result.mlen ≡ 2 * 2 ^ k.scan-found.result.fields.mlen
size_is k = ap (λ (m : Machine). 2 * m.mlen) k.machine_of-machine.ensures

pub returns-in_err-verdict_of-clause-marks_after : goal.returns-in_err-verdict_of-clause-marks_after
returns-in_err-verdict_of-clause-marks_after c =
    let a = c.args in
    let sc = c.scan-found in
    let v = c.verdict_of in
    let p = err_from_is_err_and c.from_residual.result c.from_residual.ensures.1 in
    rw (p.1, p.2) (read-refused a.image.now a.registers.now a.marks.now _ (sym c.in_err-verdict_of.was ∙ scan-verdict a.image.now sc.result sc.ensures v.result v.ensures))

pub machine_of-machine-requires : goal.machine_of-machine-requires
machine_of-machine-requires c = let sc = c.scan-found in scan-ok c.args.image.now sc.result sc.ensures

pub overflow_mul-total : goal.overflow_mul-total
overflow_mul-total c =
    let k = (goal.at.overflow_mul-total c).After-machine_of-machine in
    let z = head-sizes _ _ _ _ _ _ (head k) in omega (arith, z.0, size_is k)

pub returns-then-registers-total-clause-marks_after : goal.returns-then-registers-total-clause-marks_after
returns-then-registers-total-clause-marks_after c =
    let k = (goal.at.returns-then-registers-total-clause-marks_after c).After-machine_of-machine in
    read-unfit-is _ _ _ _ _ _ (head k) (runs-are k) c.args.registers.now c.args.marks.now (λ w. c.if-registers-total.true (w.0 ∙ sym (size_is k)))

pub returns-then-marks-total-clause-marks_after : goal.returns-then-marks-total-clause-marks_after
returns-then-marks-total-clause-marks_after c =
    let k = (goal.at.returns-then-marks-total-clause-marks_after c).After-machine_of-machine in
    read-unfit-is _ _ _ _ _ _ (head k) (runs-are k) c.args.registers.now c.args.marks.now (λ w. c.if-marks-total.true (w.1 ∙ sym (size_is k)))

pub fill_runs-requires : goal.fill_runs-requires
fill_runs-requires c =
    let k = (goal.at.fill_runs-requires c).After-machine_of-machine in
    let a = c.args in
    let f = c.scan-found.result.fields in
    let z = head-sizes _ _ _ _ _ _ (head k) in
    let lr : length a.registers.now ≡ 2 * 2 ^ f.mlen = c.if-registers-total.false ∙ size_is k in
    let lm : length a.marks.now ≡ 2 * 2 ^ f.mlen = c.if-marks-total.false ∙ size_is k in
    record {
      start_in_bounds = z.2;
      count_in_bounds = omega (arith, lr, z.1);
      registers_len_bound = omega (arith, lr, z.0);
      marks_len = c.fill.ensures.len ∙ lm ∙ sym lr;
      registers_value = subst (λ (x : ℕ). runs_verdict a.image.now f.at f.runs 0 x ≡ Ok tt) (sym lr) (sym (runs-are k));
    }

pub returns : goal.returns
returns c =
    let k = (goal.at.returns c).After-machine_of-machine in
    let fr = c.fill_runs in
    let a = c.args in
    let f = c.scan-found.result.fields in
    let small : (x : ℕ) → get_or a.image.now x 0 < 256 = λ x. omega (arith, c.type_inv.image x) in
    let lr : length a.registers.now ≡ 2 * 2 ^ f.mlen = c.if-registers-total.false ∙ size_is k in
    let lm : length a.marks.now ≡ 2 * 2 ^ f.mlen = c.if-marks-total.false ∙ size_is k in
    record {
      marks_after = ap (λ (x : Machine). restored x (ranges_found a.image.now f.seals f.seals_at) fr.new.registers fr.new.marks) c.machine_of-machine.ensures
          ∙ read-done-is _ _ _ _ _ _ (head k) (runs-are k) (bytes-all a.image.now small) a.registers.now a.marks.now
          c.fill.new.self fr.new.registers fr.new.marks
          lr lm (c.fill.ensures.after (λ y e. e)) fr.ensures.registers_after fr.ensures.marks_after;
      stand = they-stand _ _ _ _ _ _ (head k);
    }
