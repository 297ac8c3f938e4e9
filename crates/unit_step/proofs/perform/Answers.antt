use Rattle.numbers.proofs.Kit.{◌≡◌, refl, sym, ap, ap₂, ◌∙◌, subst, true, false, List, ℕ, ◌%◌, ◌^◌, arith, length, eqb-true, Err}
use Rattle.machine.specs.declared.Instruction.{Instruction}
use Rattle.machine.specs.declared.Machine.{Machine}
use Rattle.machine.specs.Step.{Stepped}
use Rattle.unit_settings.specs.Parts.{ours, with_type}
use Rattle.numbers.specs.Reduce.{signed}
use Rattle.machine.specs.declared.Refusal.{Refusal}
use Rattle.machine.specs.Answers.{reply, Done}
use Rattle.unit_ranges.specs.Ranges.{seals_in}
use Rattle.machine.specs.Geometry.{state_of, with_scalar, bench_of}
use Rattle.machine.specs.Setting.{sew, new_type}
use Rattle.machine.specs.Operation.{Operation, operation_in, operation, times}
use Rattle.machine.specs.Step.{Outcome, beside, outcome, destination, stepped, stepped_as}
use Rattle.machine.specs.Vectors.{vectors_of}
use Rattle.unit_moves.specs.Parts.{moved}
use Rattle.unit_step.specs.Parts.{Decoded, carried_beside}
use Rattle.unit_step.proofs.MoveOutcomes.{is_move, other-outcome, slice-outcome}
use Rattle.unit_settings.proofs.FaultLaws.{ready}
use Rattle.unit_settings.proofs.TypeLaws.{ready-elen}
use Rattle.unit_execute.proofs.OutcomeLaws.{illegal-outcome, type-outcome, size-outcome, tile-outcome, loads-outcome, stores-outcome}
use Rattle.unit_step.proofs.WordLaws.{type-small}
use Rattle.unit_step.proofs.perform.Goals as goal
use Rattle.unit_step.proofs.perform.Goals.{Start}

abbrev operation_of : Start → Instruction → Operation
operation_of s = let a = s.args in operation (ours a.m) (state_of a.m a.registers.now a.marks.now) a.scalars.now

-- what the caller has shown of the scalars and of the instruction, and what the instruction means
module _ (s : Start) where
  slots : length s.args.scalars.now ≡ 32
  slots = eqb-true (length s.args.scalars.now) 32 s.requires.scalars_value

  fields : (i : Instruction) → s.args.instruction ≡ i → Decoded i
  fields i e = subst Decoded e s.requires.decoded

  meant : (i : Instruction) → s.args.instruction ≡ i
      → operation_of s s.args.instruction ≡ operation_of s i
  meant i e = ap (operation_of s) e

-- an instruction that is no move leaves the vector file
other_arm : (s : Start) (i : Instruction) → s.args.instruction ≡ i → is_move i ≡ false → (o : Outcome)
    → let a = s.args in let B = bench_of a.m (seals_in a.seals.now) a.registers.now a.marks.now a.memory.now in
    o ≡ outcome (ours a.m) a.instruction a.scalars.now B
    → beside a.vectors.now o ≡ carried_beside (vectors_of a.vectors.now a.group) (ours a.m) a.instruction a.scalars.now B
other_arm s i e n o h =
    let a = s.args in
    let B = bench_of a.m (seals_in a.seals.now) a.registers.now a.marks.now a.memory.now in
    ap (beside a.vectors.now) h ∙ other-outcome (vectors_of a.vectors.now a.group) (ours a.m) a.scalars.now B a.instruction (ap is_move e ∙ n)

pub set_type-requires : goal.set_type-requires
set_type-requires c =
    record {
      elens_value = ready-elen c.args.m (ready c.args.m c.args.registers.now c.args.marks.now c.requires.marks_value);
      rd_in_bounds = omega (arith, fields (goal.at.set_type-requires c).Start _ c.in-SetTypeImmediate.is, slots (goal.at.set_type-requires c).Start);
    }

pub read_scalar-value-requires : goal.read_scalar-value-requires
read_scalar-value-requires c =
    omega (arith, (fields (goal.at.read_scalar-value-requires c).Start _ c.in-SetType.is).1, slots (goal.at.read_scalar-value-requires c).Start)

pub set_type-requires-in-SetType : goal.set_type-requires-in-SetType
set_type-requires-in-SetType c =
    record {
      elens_value = ready-elen c.args.m (ready c.args.m c.args.registers.now c.args.marks.now c.requires.marks_value);
      rd_in_bounds = omega (arith, (fields (goal.at.set_type-requires-in-SetType c).Start _ c.in-SetType.is).0, slots (goal.at.set_type-requires-in-SetType c).Start);
    }

pub set_size-requires : goal.set_size-requires
set_size-requires c =
    record {
      ready = ready c.args.m c.args.registers.now c.args.marks.now c.requires.marks_value;
      rd_in_bounds = omega (arith, fields (goal.at.set_size-requires c).Start _ c.in-SetTileImmediate.is, slots (goal.at.set_size-requires c).Start);
    }

pub set_tile-requires : goal.set_tile-requires
set_tile-requires c =
    record {
      ready = ready c.args.m c.args.registers.now c.args.marks.now c.requires.marks_value;
      rd_in_bounds = (omega (arith, (fields (goal.at.set_tile-requires c).Start _ c.in-SetTile.is).0, slots (goal.at.set_tile-requires c).Start), omega (arith, (fields (goal.at.set_tile-requires c).Start _ c.in-SetTile.is).1, slots (goal.at.set_tile-requires c).Start));
    }

pub read_scalar-base-requires : goal.read_scalar-base-requires
read_scalar-base-requires c =
    omega (arith, (fields (goal.at.read_scalar-base-requires c).Start _ c.in-Load.is).1.0, slots (goal.at.read_scalar-base-requires c).Start)

pub read_scalar-stride-requires : goal.read_scalar-stride-requires
read_scalar-stride-requires c =
    omega (arith, (fields (goal.at.read_scalar-stride-requires c).Start _ c.in-Load.is).1.1, slots (goal.at.read_scalar-stride-requires c).Start)

pub load-requires : goal.load-requires
load-requires c =
    record {
      marks_value = c.requires.marks_value;
      md_bound = (fields (goal.at.load-requires c).Start _ c.in-Load.is).0;
    }

pub read_scalar-base-requires-in-Store : goal.read_scalar-base-requires-in-Store
read_scalar-base-requires-in-Store c =
    omega (arith, (fields (goal.at.read_scalar-base-requires-in-Store c).Start _ c.in-Store.is).1.0, slots (goal.at.read_scalar-base-requires-in-Store c).Start)

pub read_scalar-stride-requires-in-Store : goal.read_scalar-stride-requires-in-Store
read_scalar-stride-requires-in-Store c =
    omega (arith, (fields (goal.at.read_scalar-stride-requires-in-Store c).Start _ c.in-Store.is).1.1, slots (goal.at.read_scalar-stride-requires-in-Store c).Start)

pub store-requires : goal.store-requires
store-requires c =
    record {
      marks_value = c.requires.marks_value;
      ms3_bound = (fields (goal.at.store-requires c).Start _ c.in-Store.is).0;
      seals_value = c.requires.seals_value;
    }

pub multiply-requires : goal.multiply-requires
multiply-requires c =
    record {
      marks_value = c.requires.marks_value;
      md_bound = fields (goal.at.multiply-requires c).Start _ c.in-Multiply.is;
    }

pub combine-requires : goal.combine-requires
combine-requires c =
    record {
      marks_value = c.requires.marks_value;
      md_bound = fields (goal.at.combine-requires c).Start _ c.in-Combine.is;
    }

pub read_scalar-requires : goal.read_scalar-requires
read_scalar-requires c =
    omega (arith, (fields (goal.at.read_scalar-requires c).Start _ c.in-Scale.is).1, slots (goal.at.read_scalar-requires c).Start)

pub multiplier-by-requires : goal.multiplier-by-requires
multiplier-by-requires c =
    let r = ready c.args.m c.args.registers.now c.args.marks.now c.requires.marks_value in
    type-small c.args.m.elen c.args.m.mtype (ready-elen c.args.m r) r.type-arises

pub scale-requires : goal.scale-requires
scale-requires c =
    record {
      marks_value = c.requires.marks_value;
      md_bound = (fields (goal.at.scale-requires c).Start _ c.in-Scale.is).0;
    }

pub sign_extend-by-requires : goal.sign_extend-by-requires
sign_extend-by-requires c =
    (omega (arith, (fields (goal.at.sign_extend-by-requires c).Start _ c.in-ScaleImmediate.is).1), omega arith)

pub scale-requires-in-ScaleImmediate : goal.scale-requires-in-ScaleImmediate
scale-requires-in-ScaleImmediate c =
    record {
      marks_value = c.requires.marks_value;
      md_bound = (fields (goal.at.scale-requires-in-ScaleImmediate c).Start _ c.in-ScaleImmediate.is).0;
    }

pub float_multiply-requires : goal.float_multiply-requires
float_multiply-requires c =
    record {
      marks_value = c.requires.marks_value;
      md_bound = fields (goal.at.float_multiply-requires c).Start _ c.in-FloatMultiply.is;
    }

pub returns-in-Illegal : goal.returns-in-Illegal
returns-in-Illegal c =
    let a = c.args in
    other_arm (goal.at.returns-in-Illegal c).Start _ c.in-Illegal.is refl _ (
    ap (λ (x : Refusal). stepped_as (stepped a.m (Err x)) (seals_in a.seals.now) a.registers.now a.marks.now a.scalars.now a.memory.now) c.word_answer.ensures
    ∙ illegal-outcome a.m (seals_in a.seals.now) a.instruction a.scalars.now a.registers.now a.marks.now a.memory.now c.requires.marks_value c.requires.seals_value c.requires.scalars_value _ (meant (goal.at.returns-in-Illegal c).Start _ c.in-Illegal.is))

pub returns-in-SetTypeImmediate : goal.returns-in-SetTypeImmediate
returns-in-SetTypeImmediate c =
    let a = c.args in
    other_arm (goal.at.returns-in-SetTypeImmediate c).Start _ c.in-SetTypeImmediate.is refl _ (
    ap₂ (λ (m : Machine) (x : List ℕ). record { answer = reply Done; bench = bench_of m (seals_in a.seals.now) a.registers.now a.marks.now a.memory.now; scalars = x }) c.set_type.ensures.value c.set_type.ensures.scalars_after
    ∙ type-outcome a.m (seals_in a.seals.now) a.instruction a.scalars.now a.registers.now a.marks.now a.memory.now c.requires.marks_value c.requires.seals_value c.requires.scalars_value _ _ (meant (goal.at.returns-in-SetTypeImmediate c).Start _ c.in-SetTypeImmediate.is) (ap destination c.in-SetTypeImmediate.is))

pub returns-in-SetType : goal.returns-in-SetType
returns-in-SetType c =
    let a = c.args in
    let v = c.read_scalar-value.ensures in
    other_arm (goal.at.returns-in-SetType c).Start _ c.in-SetType.is refl _ (
    ap₂ (λ (m : Machine) (x : List ℕ). record { answer = reply Done; bench = bench_of m (seals_in a.seals.now) a.registers.now a.marks.now a.memory.now; scalars = x }) (c.set_type-in-SetType.ensures.value ∙ ap (λ (v : ℕ). with_type a.m (new_type a.m.elen v)) v) (c.set_type-in-SetType.ensures.scalars_after ∙ ap (λ (v : ℕ). with_scalar a.scalars.now c.in-SetType.rd (new_type a.m.elen v)) v)
    ∙ type-outcome a.m (seals_in a.seals.now) a.instruction a.scalars.now a.registers.now a.marks.now a.memory.now c.requires.marks_value c.requires.seals_value c.requires.scalars_value _ _ (meant (goal.at.returns-in-SetType c).Start _ c.in-SetType.is) (ap destination c.in-SetType.is))

pub returns-in-SetTileImmediate : goal.returns-in-SetTileImmediate
returns-in-SetTileImmediate c =
    let a = c.args in
    other_arm (goal.at.returns-in-SetTileImmediate c).Start _ c.in-SetTileImmediate.is refl _ (
    ap₂ (λ (r : Stepped) (x : List ℕ). record { answer = reply r.answer; bench = bench_of r.machine (seals_in a.seals.now) a.registers.now a.marks.now a.memory.now; scalars = x }) c.set_size.ensures.value c.set_size.ensures.scalars_after
    ∙ size-outcome a.m (seals_in a.seals.now) a.instruction a.scalars.now a.registers.now a.marks.now a.memory.now c.requires.marks_value c.requires.seals_value c.requires.scalars_value _ _ _ (meant (goal.at.returns-in-SetTileImmediate c).Start _ c.in-SetTileImmediate.is) (ap destination c.in-SetTileImmediate.is))

pub returns-in-SetTile : goal.returns-in-SetTile
returns-in-SetTile c =
    let a = c.args in
    other_arm (goal.at.returns-in-SetTile c).Start _ c.in-SetTile.is refl _ (
    ap₂ (λ (r : Stepped) (x : List ℕ). record { answer = reply r.answer; bench = bench_of r.machine (seals_in a.seals.now) a.registers.now a.marks.now a.memory.now; scalars = x }) c.set_tile.ensures.value c.set_tile.ensures.scalars_after
    ∙ tile-outcome a.m (seals_in a.seals.now) a.instruction a.scalars.now a.registers.now a.marks.now a.memory.now c.requires.marks_value c.requires.seals_value c.requires.scalars_value c.in-SetTile.dimension c.in-SetTile.rd c.in-SetTile.rs1 (meant (goal.at.returns-in-SetTile c).Start _ c.in-SetTile.is) (ap destination c.in-SetTile.is))

pub returns-in-Load : goal.returns-in-Load
returns-in-Load c =
    let a = c.args in
    let base = c.read_scalar-base.ensures in
    let stride = c.read_scalar-stride.ensures in
    other_arm (goal.at.returns-in-Load c).Start _ c.in-Load.is refl _ (
    ap (λ (r : Stepped). stepped_as r (seals_in a.seals.now) c.load.new.registers c.load.new.marks a.scalars.now a.memory.now) c.leaving.ensures
    ∙ loads-outcome a.m (seals_in a.seals.now) a.instruction a.scalars.now a.registers.now a.marks.now a.memory.now c.requires.marks_value c.requires.seals_value c.requires.scalars_value _ (meant (goal.at.returns-in-Load c).Start _ c.in-Load.is ∙ ap₂ (λ (x y : ℕ). Operation.load c.in-Load.form c.in-Load.matrix c.in-Load.md c.in-Load.width x y) (sym base) (sym stride)) (ap destination c.in-Load.is) _ _ _ c.load.ensures refl refl)

pub returns-in-Store : goal.returns-in-Store
returns-in-Store c =
    let a = c.args in
    let base = c.read_scalar-base-in-Store.ensures in
    let stride = c.read_scalar-stride-in-Store.ensures in
    other_arm (goal.at.returns-in-Store c).Start _ c.in-Store.is refl _ (
    ap (λ (r : Stepped). stepped_as r (seals_in a.seals.now) a.registers.now a.marks.now a.scalars.now c.store.new.memory) c.leaving-in-Store.ensures
    ∙ stores-outcome a.m (seals_in a.seals.now) a.instruction a.scalars.now a.registers.now a.marks.now a.memory.now c.requires.marks_value c.requires.seals_value c.requires.scalars_value _ (meant (goal.at.returns-in-Store c).Start _ c.in-Store.is ∙ ap₂ (λ (x y : ℕ). Operation.store c.in-Store.form c.in-Store.matrix c.in-Store.ms3 c.in-Store.width x y) (sym base) (sym stride)) (ap destination c.in-Store.is) _ _ c.store.ensures refl)

pub returns-in-Multiply : goal.returns-in-Multiply
returns-in-Multiply c =
    let a = c.args in
    let l = c.multiply.ensures in
    other_arm (goal.at.returns-in-Multiply c).Start _ c.in-Multiply.is refl _ (
    ap (λ (r : Stepped). stepped_as r (seals_in a.seals.now) c.multiply.new.registers a.marks.now a.scalars.now a.memory.now) c.leaving-in-Multiply.ensures
    ∙ loads-outcome a.m (seals_in a.seals.now) a.instruction a.scalars.now a.registers.now a.marks.now a.memory.now c.requires.marks_value c.requires.seals_value c.requires.scalars_value _ (meant (goal.at.returns-in-Multiply c).Start _ c.in-Multiply.is) (ap destination c.in-Multiply.is) _ _ _ (record { answer-is = l.answer-is; registers-are = l.registers-are; marks-are = l.marks-are }) refl refl)

pub returns-in-Combine : goal.returns-in-Combine
returns-in-Combine c =
    let a = c.args in
    let l = c.combine.ensures in
    other_arm (goal.at.returns-in-Combine c).Start _ c.in-Combine.is refl _ (
    ap (λ (r : Stepped). stepped_as r (seals_in a.seals.now) c.combine.new.registers a.marks.now a.scalars.now a.memory.now) c.leaving-in-Combine.ensures
    ∙ loads-outcome a.m (seals_in a.seals.now) a.instruction a.scalars.now a.registers.now a.marks.now a.memory.now c.requires.marks_value c.requires.seals_value c.requires.scalars_value _ (meant (goal.at.returns-in-Combine c).Start _ c.in-Combine.is) (ap destination c.in-Combine.is) _ _ _ (record { answer-is = l.answer-is; registers-are = l.registers-are; marks-are = l.marks-are }) refl refl)

pub returns-in-Scale : goal.returns-in-Scale
returns-in-Scale c =
    let a = c.args in
    let k = c.multiplier-by.ensures in
    let v = c.read_scalar.ensures in
    let z = signed (256 ^ sew a.m.mtype) (c.read_scalar.result % 256 ^ sew a.m.mtype) in
    let l = c.scale.ensures z k.residue k.zero_is in
    other_arm (goal.at.returns-in-Scale c).Start _ c.in-Scale.is refl _ (
    ap (λ (r : Stepped). stepped_as r (seals_in a.seals.now) c.scale.new.registers c.scale.new.marks a.scalars.now a.memory.now) c.leaving-in-Scale.ensures
    ∙ loads-outcome a.m (seals_in a.seals.now) a.instruction a.scalars.now a.registers.now a.marks.now a.memory.now c.requires.marks_value c.requires.seals_value c.requires.scalars_value _ (meant (goal.at.returns-in-Scale c).Start _ c.in-Scale.is ∙ ap (λ (x : ℕ). Operation.scale (times c.in-Scale.factor) c.in-Scale.md c.in-Scale.ms1 (signed (256 ^ sew a.m.mtype) (x % 256 ^ sew a.m.mtype))) (sym v)) (ap destination c.in-Scale.is) _ _ _ (record { answer-is = l.answer-is; registers-are = l.registers-are; marks-are = l.marks-are }) refl refl)

pub returns-in-ScaleImmediate : goal.returns-in-ScaleImmediate
returns-in-ScaleImmediate c =
    let a = c.args in
    let k = c.sign_extend-by.ensures in
    let l = c.scale-in-ScaleImmediate.ensures (signed 32 c.in-ScaleImmediate.immediate) (sym k.0) k.1 in
    other_arm (goal.at.returns-in-ScaleImmediate c).Start _ c.in-ScaleImmediate.is refl _ (
    ap (λ (r : Stepped). stepped_as r (seals_in a.seals.now) c.scale-in-ScaleImmediate.new.registers c.scale-in-ScaleImmediate.new.marks a.scalars.now a.memory.now) c.leaving-in-ScaleImmediate.ensures
    ∙ loads-outcome a.m (seals_in a.seals.now) a.instruction a.scalars.now a.registers.now a.marks.now a.memory.now c.requires.marks_value c.requires.seals_value c.requires.scalars_value _ (meant (goal.at.returns-in-ScaleImmediate c).Start _ c.in-ScaleImmediate.is) (ap destination c.in-ScaleImmediate.is) _ _ _ (record { answer-is = l.answer-is; registers-are = l.registers-are; marks-are = l.marks-are }) refl refl)

pub returns-in-FloatMultiply : goal.returns-in-FloatMultiply
returns-in-FloatMultiply c =
    let a = c.args in
    let l = c.float_multiply.ensures in
    other_arm (goal.at.returns-in-FloatMultiply c).Start _ c.in-FloatMultiply.is refl _ (
    ap (λ (r : Stepped). stepped_as r (seals_in a.seals.now) c.float_multiply.new.registers a.marks.now a.scalars.now a.memory.now) c.leaving-in-FloatMultiply.ensures
    ∙ loads-outcome a.m (seals_in a.seals.now) a.instruction a.scalars.now a.registers.now a.marks.now a.memory.now c.requires.marks_value c.requires.seals_value c.requires.scalars_value _ (meant (goal.at.returns-in-FloatMultiply c).Start _ c.in-FloatMultiply.is) (ap destination c.in-FloatMultiply.is) _ _ _ (record { answer-is = l.answer-is; registers-are = l.registers-are; marks-are = l.marks-are }) refl refl)

pub read_scalar-first-requires : goal.read_scalar-first-requires
read_scalar-first-requires c =
    omega (arith, (fields (goal.at.read_scalar-first-requires c).Start _ c.in-MoveOut.is).1, slots (goal.at.read_scalar-first-requires c).Start)

pub move_slice-requires : goal.move_slice-requires
move_slice-requires c =
    record {
      marks_value = c.requires.marks_value;
      group_value = c.requires.group_value;
      r_bound = (fields (goal.at.move_slice-requires c).Start _ c.in-MoveOut.is).0;
    }

pub read_scalar-first-requires-in-MoveIn : goal.read_scalar-first-requires-in-MoveIn
read_scalar-first-requires-in-MoveIn c =
    omega (arith, (fields (goal.at.read_scalar-first-requires-in-MoveIn c).Start _ c.in-MoveIn.is).1, slots (goal.at.read_scalar-first-requires-in-MoveIn c).Start)

pub move_slice-requires-in-MoveIn : goal.move_slice-requires-in-MoveIn
move_slice-requires-in-MoveIn c =
    record {
      marks_value = c.requires.marks_value;
      group_value = c.requires.group_value;
      r_bound = (fields (goal.at.move_slice-requires-in-MoveIn c).Start _ c.in-MoveIn.is).0;
    }

-- what a move means
meant-in : (s : Start) (i : Instruction) → s.args.instruction ≡ i → let a = s.args in
    operation_in (vectors_of a.vectors.now a.group) (ours a.m) (state_of a.m a.registers.now a.marks.now) a.scalars.now a.instruction
    ≡ operation_in (vectors_of a.vectors.now a.group) (ours a.m) (state_of a.m a.registers.now a.marks.now) a.scalars.now i
meant-in s i e = let a = s.args in ap (operation_in (vectors_of a.vectors.now a.group) (ours a.m) (state_of a.m a.registers.now a.marks.now) a.scalars.now) e

pub returns-in-MoveOut : goal.returns-in-MoveOut
returns-in-MoveOut c =
    let a = c.args in
    let W = vectors_of a.vectors.now a.group in
    ap (λ (r : Stepped). beside c.move_slice.new.vectors (stepped_as r (seals_in a.seals.now) c.move_slice.new.registers c.move_slice.new.marks a.scalars.now a.memory.now)) c.leaving-in-MoveOut.ensures
    ∙ slice-outcome a.m (seals_in a.seals.now) a.instruction a.scalars.now a.registers.now a.marks.now a.memory.now W c.requires.marks_value c.requires.seals_value c.requires.scalars_value (ap destination c.in-MoveOut.is) false c.in-MoveOut.form c.in-MoveOut.ms1 c.in-MoveOut.vd c.read_scalar-first.result
    (meant-in (goal.at.returns-in-MoveOut c).Start _ c.in-MoveOut.is ∙ ap (λ (x : ℕ). moved false W c.in-MoveOut.form c.in-MoveOut.ms1 c.in-MoveOut.vd x) (sym c.read_scalar-first.ensures)) _ _ _ _ c.move_slice.ensures

pub returns-in-MoveIn : goal.returns-in-MoveIn
returns-in-MoveIn c =
    let a = c.args in
    let W = vectors_of a.vectors.now a.group in
    ap (λ (r : Stepped). beside c.move_slice-in-MoveIn.new.vectors (stepped_as r (seals_in a.seals.now) c.move_slice-in-MoveIn.new.registers c.move_slice-in-MoveIn.new.marks a.scalars.now a.memory.now)) c.leaving-in-MoveIn.ensures
    ∙ slice-outcome a.m (seals_in a.seals.now) a.instruction a.scalars.now a.registers.now a.marks.now a.memory.now W c.requires.marks_value c.requires.seals_value c.requires.scalars_value (ap destination c.in-MoveIn.is) true c.in-MoveIn.form c.in-MoveIn.md c.in-MoveIn.vs1 c.read_scalar-first-in-MoveIn.result
    (meant-in (goal.at.returns-in-MoveIn c).Start _ c.in-MoveIn.is ∙ ap (λ (x : ℕ). moved true W c.in-MoveIn.form c.in-MoveIn.md c.in-MoveIn.vs1 x) (sym c.read_scalar-first-in-MoveIn.ensures)) _ _ _ _ c.move_slice-in-MoveIn.ensures
