use Rattle.numbers.proofs.Kit.{arith}
use Rattle.run_carry.proofs.CarriedLaws.{b-carried}
use Rattle.run_carry.proofs.load_b.Goals as goal

pub load-requires : goal.load-requires
load-requires c =
    record {
      marks_value = c.requires.marks_value;
      plan_value = c.requires.plan_value;
      row_bound = c.requires.term_bound;
      md_bound = omega arith;
    }

pub returns : goal.returns
returns c =
    let a = c.args in
    λ seals fit. b-carried a.plan c.requires.plan_value a.m seals a.registers.now a.marks.now a.memory.now c.requires.marks_value fit c.load.result a.term a.column _ _ c.load.ensures
