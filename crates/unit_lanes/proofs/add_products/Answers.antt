use Rattle.numbers.proofs.Kit.{◌≡◌, ap, ◌∙◌, ℕ, ◌+◌, ◌*◌, ◌^◌, ◌<◌, arith, get_or, min}
use Rattle.std.specs.Prelude.{map}
use Rattle.numbers.specs.Reduce.{signed, reduce}
use Rattle.numbers.specs.Tile.{get_le}
use Rattle.numbers.proofs.PutLaws.{row_fits}
use Rattle.machine.specs.ArithmeticWords.{product}
use Rattle.unit_sums.specs.Rows.{residue_at}
use Rattle.unit_sums.proofs.RowLaws.{times_none}
use Rattle.unit_lanes.proofs.LaneLaws.{terms-next}
use Rattle.unit_lanes.proofs.add_products.Goals as goal

pub loop-p-init : goal.loop-p-init
loop-p-init g c =
    let e = g.E.Element in
    let w = g.N.Element.BYTES in
    let a = c.args in
    let z : min 0 a.k ≡ 0 = omega arith in
    rw z (λ j h. times_none e.BYTES (get_or (map e.number a.sums.now) j 0) (λ t. residue_at e.BYTES a.s.now (a.a + t * w) w) (λ t. get_or (map e.number a.d.now) (t * g.row.L + j) 0) (c.requires.in_range j h))

pub mac_terms-requires : goal.mac_terms-requires
mac_terms-requires g c =
    let a = c.args in
    let l = 2 * c.loop-p.p in
    let n = c.min-next.result in
    let h : l < a.k = omega (arith, c.loop-p-test.true) in
    let i : n < a.k = omega (arith, c.min-next.ensures, h) in
    record { lanes_in_bounds = (omega (arith, c.requires.lanes_in_bounds, c.loop-p.auto.sums), (omega (arith, c.requires.lanes_in_bounds, row_fits l a.k g.row.L h), omega (arith, c.requires.lanes_in_bounds, row_fits n a.k g.row.L i))) }

pub loop-p-preserved : goal.loop-p-preserved
loop-p-preserved g c =
    let e = g.E.Element in
    let w = g.N.Element.BYTES in
    let a = c.args in
    let l = 2 * c.loop-p.p in
    let h : l < a.k = omega (arith, c.loop-p-test.true) in
    let z : min l a.k ≡ l = omega (arith, h) in
    let x = (c.from_signed-x.ensures ∙ ap (λ (v : ℕ). reduce (256 ^ e.BYTES) (signed (256 ^ w) v)) (c.read.ensures ∙ ap (λ (b : ℕ). get_le a.s.now (a.a + l * b) w) c.BYTES.ensures)) in
    let more : l + 2 ≡ 2 * (c.loop-p.p + 1) = omega arith in
    λ j i.
    let old = get_or (map e.number a.sums.now) j 0 in
    let f : ℕ → ℕ = λ t. residue_at e.BYTES a.s.now (a.a + t * w) w in
    let b : ℕ → ℕ = λ t. get_or (map e.number a.d.now) (t * g.row.L + j) 0 in
    terms-next e.BYTES old a.k l c.min-next.result (get_or (map e.number c.loop-p.sums) j 0) (e.number c.from_signed-x.result) (e.number c.term-y.result)
    (get_or (map e.number c.mac_terms.new.sums) j 0) f b h c.min-next.ensures (c.loop-p.invariant j i ∙ ap (λ (t : ℕ). product e.BYTES e.BYTES t old f b) z)
    x c.term-y.ensures.within c.term-y.ensures.behind (c.mac_terms.ensures j i)
    ∙ ap (λ (t : ℕ). product e.BYTES e.BYTES (min t a.k) old f b) more
