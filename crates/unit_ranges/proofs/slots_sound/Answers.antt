use Rattle.numbers.proofs.Kit.{◌≡◌, sym, ap, ◌∙◌, ℕ, arith}
use Rattle.machine.specs.Tests.{all}
use Rattle.machine.proofs.TestLaws.{all-false}
use Rattle.unit_address.proofs.TestLaws.{all-next, test-failed, test-passed}
use Rattle.unit_ranges.specs.Parts.{slot_sound}
use Rattle.numbers.proofs.Kit.{not}
use Rattle.unit_ranges.proofs.slots_sound.Goals as goal

pub returns-then-not-slot_sound : goal.returns-then-not-slot_sound
returns-then-not-slot_sound c =
    let a = c.args in
    let r = c.slot_sound in
    sym (all-false 8 (slot_sound a.block.now a.count) c.loop-i.i (omega (arith, c.loop-i-test.true)) (test-failed r.result _ r.ensures (ap not c.if-not-slot_sound.true)))

pub loop-i-preserved : goal.loop-i-preserved
loop-i-preserved c =
    let a = c.args in
    let l = c.loop-i in
    let r = c.slot_sound in
    all-next l.i (slot_sound a.block.now a.count) l.invariant (test-passed r.result _ r.ensures (ap not c.if-not-slot_sound.false))

pub returns : goal.returns
returns c =
    let a = c.args in
    let l = c.loop-i in
    let e : 8 ≡ l.i = omega arith in
    sym (ap (λ (n : ℕ). all n (slot_sound a.block.now a.count)) e ∙ l.invariant)
