use Rattle.numbers.proofs.Kit.{sym, ap, ◌*◌, ◌/◌, ◌<◌, ◌≤◌, arith}
use Rattle.numbers.specs.Bounds.{most_pitch, most_size}
use Rattle.machine.specs.declared.Matrix.{Matrix}
use Rattle.unit_geometry.specs.Tiles.{placed_as}
use Rattle.unit_geometry.proofs.SizeLaws.{sizes-bounded, in-file}
use Rattle.unit_geometry.proofs.tile_of.Goals as goal
use Rattle.unit_geometry.proofs.tile_of.Goals.{After-struct_known-2-1}

-- the sizes of a register are small
small : (c : After-struct_known-2-1) → let m = c.args.m in (0 < m.rlen) × (m.rlen / 8 ≤ most_pitch) × (m.mlen / m.rlen * (m.rlen / 8) ≤ most_size)
small c = sizes-bounded c.args.m.rlen c.args.m.mlen c.args.m.elen c.requires.ready.lengths

pub nonzero_div-size : goal.nonzero_div-size
nonzero_div-size c = let b = small c in omega arith

pub overflow_mul-size : goal.overflow_mul-size
overflow_mul-size c = let b = small c in omega arith

pub overflow_mul-result : goal.overflow_mul-result
overflow_mul-result c =
    let b = small (goal.at.overflow_mul-result c).After-struct_known-2-1 in
    record { fits = (in-file c.args.matrix c.args.r (c.args.m.mlen / c.args.m.rlen * (c.args.m.rlen / 8)) c.requires.r_bound b.2).0 }

pub overflow_mul-result-in-MatrixB : goal.overflow_mul-result-in-MatrixB
overflow_mul-result-in-MatrixB c =
    let b = small (goal.at.overflow_mul-result-in-MatrixB c).After-struct_known-2-1 in
    record { fits = (in-file c.args.matrix c.args.r (c.args.m.mlen / c.args.m.rlen * (c.args.m.rlen / 8)) c.requires.r_bound b.2).0 }

pub overflow_mul-result-in-MatrixC : goal.overflow_mul-result-in-MatrixC
overflow_mul-result-in-MatrixC c =
    let b = in-file c.args.matrix c.args.r 0 c.requires.r_bound (omega arith) in
    omega arith

pub overflow_add-result : goal.overflow_add-result
overflow_add-result c =
    let b = in-file c.args.matrix c.args.r 0 c.requires.r_bound (omega arith) in
    omega arith

pub overflow_mul-result-in-MatrixC-2 : goal.overflow_mul-result-in-MatrixC-2
overflow_mul-result-in-MatrixC-2 c =
    let b = small (goal.at.overflow_mul-result-in-MatrixC-2 c).After-struct_known-2-1 in
    record { fits = (in-file c.args.matrix c.args.r (c.args.m.mlen / c.args.m.rlen * (c.args.m.rlen / 8)) c.requires.r_bound b.2).1 }

pub overflow_mul-result-in-MatrixC-3 : goal.overflow_mul-result-in-MatrixC-3
overflow_mul-result-in-MatrixC-3 c = let b = small (goal.at.overflow_mul-result-in-MatrixC-3 c).After-struct_known-2-1 in omega arith

pub returns-in-MatrixA : goal.returns-in-MatrixA
returns-in-MatrixA c = let a = c.args in ap (λ (k : Matrix). placed_as a.m k a.r) (sym c.in-MatrixA.is)

pub returns-in-MatrixB : goal.returns-in-MatrixB
returns-in-MatrixB c = let a = c.args in ap (λ (k : Matrix). placed_as a.m k a.r) (sym c.in-MatrixB.is)

pub returns-in-MatrixC : goal.returns-in-MatrixC
returns-in-MatrixC c = let a = c.args in ap (λ (k : Matrix). placed_as a.m k a.r) (sym c.in-MatrixC.is)
