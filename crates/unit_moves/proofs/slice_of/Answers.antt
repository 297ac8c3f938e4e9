use Rattle.numbers.proofs.Kit.{◌≡◌, sym, ap, ◌∙◌, subst, ◌+◌, ◌*◌, ◌^◌, ◌<◌, arith}
use Rattle.machine.specs.declared.Form.{Form}
use Rattle.machine.specs.declared.Form.TheVariants.{Plain, Transposed}
use Rattle.machine.specs.declared.Matrix.TheVariants.{MatrixC}
use Rattle.machine.specs.Geometry.{start_of, pitch_of}
use Rattle.machine.specs.MoveWords.{corner_of}
use Rattle.unit_geometry.specs.declared.Placed.{Placed}
use Rattle.unit_settings.specs.Parts.{ours}
use Rattle.unit_moves.specs.Parts.{slice_placed}
use Rattle.unit_moves.proofs.slice_of.Goals as goal
use Rattle.unit_moves.proofs.slice_of.Goals.{After-tile_of-c, Start}

-- where the slice starts is a number
corner : (s : Start) (f : Form) → s.args.form ≡ f → let a = s.args in corner_of (ours a.m) f a.r a.first a.w < 2 ^ 64
corner s f e = let a = s.args in subst (λ (f : Form). corner_of (ours a.m) f a.r a.first a.w < 2 ^ 64) e s.requires.w_bound

-- the accumulator
start_is : (c : After-tile_of-c) → let a = c.args in c.tile_of-c.result.start ≡ start_of (ours a.m) MatrixC a.r
start_is c = ap (λ (p : Placed). p.start) c.tile_of-c.ensures

product_is : (c : After-tile_of-c) → let a = c.args in a.first * c.tile_of-c.result.pitch ≡ a.first * pitch_of (ours a.m) MatrixC
product_is c = let a = c.args in ap (λ (p : Placed). a.first * p.pitch) c.tile_of-c.ensures

pub tile_of-c-requires : goal.tile_of-c-requires
tile_of-c-requires c =
    record {
      ready = c.requires.ready;
      r_bound = c.requires.r_bound;
    }

pub overflow_mul-result : goal.overflow_mul-result
overflow_mul-result c =
    let b = corner (goal.at.overflow_mul-result c).Start Plain c.in-Plain.is in
    let p = product_is (goal.at.overflow_mul-result c).After-tile_of-c in
    omega arith

pub overflow_add-result : goal.overflow_add-result
overflow_add-result c =
    let b = corner (goal.at.overflow_add-result c).Start Plain c.in-Plain.is in
    let p = product_is (goal.at.overflow_add-result c).After-tile_of-c in
    let q = start_is (goal.at.overflow_add-result c).After-tile_of-c in
    omega arith

pub overflow_mul-result-in-Transposed : goal.overflow_mul-result-in-Transposed
overflow_mul-result-in-Transposed c =
    let b = corner (goal.at.overflow_mul-result-in-Transposed c).Start Transposed c.in-Transposed.is in
    omega arith

pub overflow_add-result-in-Transposed : goal.overflow_add-result-in-Transposed
overflow_add-result-in-Transposed c =
    let b = corner (goal.at.overflow_add-result-in-Transposed c).Start Transposed c.in-Transposed.is in
    let q = start_is (goal.at.overflow_add-result-in-Transposed c).After-tile_of-c in
    omega arith

pub returns-in-Plain : goal.returns-in-Plain
returns-in-Plain c =
    let a = c.args in
    ap (λ (p : Placed). record { start = p.start + a.first * p.pitch; pitch = p.pitch; rows = a.count; columns = p.columns }) c.tile_of-c.ensures
    ∙ ap (λ (f : Form). slice_placed a.m f a.r a.first a.count a.w) (sym c.in-Plain.is)

pub returns-in-Transposed : goal.returns-in-Transposed
returns-in-Transposed c =
    let a = c.args in
    ap (λ (p : Placed). record { start = p.start + a.first * a.w; pitch = p.pitch; rows = p.rows; columns = a.count }) c.tile_of-c.ensures
    ∙ ap (λ (f : Form). slice_placed a.m f a.r a.first a.count a.w) (sym c.in-Transposed.is)
