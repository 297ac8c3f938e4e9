use Rattle.numbers.proofs.Kit.{arith}
use Rattle.machine.specs.Geometry.{bench_of}
use Rattle.machine.specs.Step.{stepped}
use Rattle.machine.specs.Vectors.{vectors_of}
use Rattle.unit_ranges.specs.Ranges.{seals_in}
use Rattle.c_scalars.proofs.NamedScalars.{block-stepped}
use Rattle.c_scalars.proofs.step_block.Goals as goal

pub put_scalar-requires : goal.put_scalar-requires
put_scalar-requires c =
    record {
      scalars_len = c.requires;
      slot_bound = omega (arith, c.low_field-rd.ensures);
    }

pub returns : goal.returns
returns c =
    let z = c.args in
    block-stepped z.word z.scalars.now (vectors_of z.vectors.now z.group) (bench_of z.m (seals_in z.seals.now) z.registers.now z.marks.now z.memory.now) c.requires
    (λ i. omega (arith, c.slice_known-3-1.given i)) (stepped z.m c.step-stepped.result) (seals_in z.seals.now) _ _ _ _ _ _
    c.low_field-rd.result c.middle_field-rs1.result c.high_field-rs2.result c.read.result c.read-2.result c.read-3.result
    c.low_field-rd.ensures c.middle_field-rs1.ensures c.high_field-rs2.ensures c.read.ensures c.read-2.ensures c.read-3.ensures
    c.step-stepped.ensures c.put_scalar.ensures
