use Rattle.numbers.proofs.Kit.{◌≡◌, [], subst, arith, Result, Ok}
use Rattle.machine.specs.declared.Machine.{Machine}
use Rattle.machine.specs.declared.Refusal.{Refusal}
use Rattle.machine.specs.Starting.{started, started_as, start_machine}
use Rattle.machine.specs.Geometry.{bench_of}
use Rattle.unit_ranges.specs.Ranges.{seals_in}
use Rattle.run.specs.declared.Finished.{Finished}
use Rattle.run.specs.Whole.{Delivers, finished_as}
use Rattle.product_answer.proofs.RunLaws.{zeros, none, starts, finishes, multiplied}
use Rattle.product_answer.proofs.multiply.Goals as goal

pub unwrap-machine-requires : goal.unwrap-machine-requires
unwrap-machine-requires c = starts c.start.result c.start.new.marks c.start.ensures

pub unwrap-finished-requires : goal.unwrap-finished-requires
unwrap-finished-requires c =
    let a = c.args in
    let p = a.product.now in
    let e = subst (λ (r : Result Machine Refusal). started_as (started r) [] zeros c.start.new.marks ≡ start_machine 64 256 32 0 [] zeros zeros) c.unwrap-machine.ensures c.start.ensures in
    finishes p.sew p.factor p.m p.k p.n p.formatted p.small.0 p.small.1.0 p.small.1.1 (started (Ok c.unwrap-machine.result)) c.start.new.marks a.memory.now e c.requires.memory_len.0
    c.plan-plan.result c.plan-plan.ensures c.whole.result (seals_in none) c.whole.new.registers c.whole.new.marks c.whole.new.memory c.whole.ensures.delivers

pub returns : goal.returns
returns c =
    let a = c.args in
    let p = a.product.now in
    let e = subst (λ (r : Result Machine Refusal). started_as (started r) [] zeros c.start.new.marks ≡ start_machine 64 256 32 0 [] zeros zeros) c.unwrap-machine.ensures c.start.ensures in
    let d = subst (λ (r : Result Finished Refusal). Delivers c.plan-plan.result (bench_of c.unwrap-machine.result (seals_in none) zeros c.start.new.marks a.memory.now) (finished_as c.unwrap-machine.result r (seals_in none) c.whole.new.registers c.whole.new.marks c.whole.new.memory)) c.unwrap-finished.ensures c.whole.ensures.delivers in
    let r = multiplied p.sew p.factor p.m p.k p.n p.formatted p.small.0 p.small.1.0 p.small.1.1 (started (Ok c.unwrap-machine.result)) c.start.new.marks a.memory.now e c.requires.memory_len.0
    c.plan-plan.result c.plan-plan.ensures (finished_as c.unwrap-machine.result (Ok c.unwrap-finished.result) (seals_in none) c.whole.new.registers c.whole.new.marks c.whole.new.memory) d
    c.read_elements.new.values (λ j l. rw c.wide-width.ensures.0 at (c.read_elements.ensures.by_index j (omega arith))) in record { value = r.0; by_index = r.1 }
