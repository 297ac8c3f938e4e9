use Rattle.numbers.proofs.Kit.{ap, ap₂, ◌∙◌, ℕ, ◌+◌, ◌*◌, ◌^◌, get_or}
use Rattle.std.specs.Prelude.{map}
use Rattle.numbers.specs.Reduce.{signed, reduce}
use Rattle.numbers.specs.Tile.{get_le}
use Rattle.unit_sums.specs.Rows.{residue_at, plus_times}
use Rattle.unit_sums.proofs.RowLaws.{times_none, times_more}
use Rattle.unit_lanes.proofs.add_two.Goals as goal

pub loop-l-init : goal.loop-l-init
loop-l-init g c =
    let e = g.E.Element in
    let w = g.N.Element.BYTES in
    let a = c.args in (
      λ j h. times_none e.BYTES (get_or (map e.number a.sums.now) j 0) (λ t. residue_at e.BYTES a.s.now (a.a + t * w) w) (λ t. get_or (map e.number a.d.now) (t * g.row.L + j) 0) (c.requires.in_range.0 j h),
      λ j h. times_none e.BYTES (get_or (map e.number a.others.now) j 0) (λ t. residue_at e.BYTES a.s.now (a.e + t * w) w) (λ t. get_or (map e.number a.d.now) (t * g.row.L + j) 0) (c.requires.in_range.1 j h),
    )

pub loop-l-preserved : goal.loop-l-preserved
loop-l-preserved g c =
    let e = g.E.Element in
    let w = g.N.Element.BYTES in
    let a = c.args in
    let l = c.loop-l in
    let x = (c.from_signed-x.ensures ∙ ap (λ (v : ℕ). reduce (256 ^ e.BYTES) (signed (256 ^ w) v)) (c.read.ensures ∙ ap (λ (b : ℕ). get_le a.s.now (a.a + l.l * b) w) c.BYTES.ensures)) in
    let y = (c.from_signed-y.ensures ∙ ap (λ (v : ℕ). reduce (256 ^ e.BYTES) (signed (256 ^ w) v)) (c.read-in-loop-l.ensures ∙ ap (λ (b : ℕ). get_le a.s.now (a.e + l.l * b) w) c.BYTES-in-loop-l.ensures)) in (
      λ j h. c.mac_two.ensures.first j h
          ∙ ap₂ (λ (v x : ℕ). plus_times e.BYTES v x (get_or (map e.number a.d.now) (l.l * g.row.L + j) 0)) (l.invariant.0 j h) x
          ∙ times_more e.BYTES (get_or (map e.number a.sums.now) j 0) l.l (λ t. residue_at e.BYTES a.s.now (a.a + t * w) w) (λ t. get_or (map e.number a.d.now) (t * g.row.L + j) 0),
      λ j h. c.mac_two.ensures.second j h
          ∙ ap₂ (λ (v x : ℕ). plus_times e.BYTES v x (get_or (map e.number a.d.now) (l.l * g.row.L + j) 0)) (l.invariant.1 j h) y
          ∙ times_more e.BYTES (get_or (map e.number a.others.now) j 0) l.l (λ t. residue_at e.BYTES a.s.now (a.e + t * w) w) (λ t. get_or (map e.number a.d.now) (t * g.row.L + j) 0),
    )
