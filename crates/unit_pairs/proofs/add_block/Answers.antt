-- The loop: each sum, with the two pairs that are still to be added, has the first `p` pairs.
use Rattle.numbers.proofs.Kit.{◌≡◌, refl, ap, ◌∙◌, ℕ, ◌+◌, ◌*◌, ◌%◌, ◌<◌, arith}
use Rattle.numbers.specs.Tile.{get_le}
use Rattle.numbers.proofs.TileLaws.{le-lt}
use Rattle.numbers.proofs.ElementLaws.{put_row-cong}
use Rattle.unit_pairs.specs.declared.Block.{Block}
use Rattle.unit_pairs.specs.Pairs.{pair_places, lane, pairs_row}
use Rattle.unit_pairs.proofs.PairLaws.{each-of-four, no_pairs, pair-added}
use Rattle.unit_pairs.proofs.add_block.Goals as goal

pub loop-i-init : goal.loop-i-init
loop-i-init c =
    let none : Block = record { e0 = 0; e1 = 0; e2 = 0; e3 = 0 } in
    let a = c.args in
    let r = c.read_block-sum in
    λ q l. (let z : lane none q ≡ 0 = each-of-four (λ q. lane none q ≡ 0) refl refl refl refl q l in
    let v : ℕ = get_le a.s.now (a.c + q * 4) 4 in
    let e : lane r.result q ≡ v = r.ensures q l in
    let small : v < 0x1_0000_0000 = le-lt a.s.now (λ i. omega (arith, c.slice_known-1.given i)) (a.c + q * 4) 4 in
    let f : ((lane r.result q + lane none q) % 0x1_0000_0000 + lane none q) % 0x1_0000_0000 ≡ v = omega arith in
    f ∙ no_pairs v a.xs.now (2 * (q % 4)) a.b.now (a.o + 2 * q) small)

pub loop-i-preserved : goal.loop-i-preserved
loop-i-preserved c =
    let l = c.loop-i in
    let a = c.args in
    let at : ℕ = a.o + l.i * (2 * pair_places) in
    λ q h. (let row : ℕ → ℕ = λ p. pairs_row a.s.now a.c a.xs.now a.b.now a.o p q in
    let e : lane c.plus-sum.result q ≡ row (2 * l.i) =
    c.plus-sum.ensures q h ∙ ap (λ (v : ℕ). (v + lane l.u q) % 0x1_0000_0000) (c.plus.ensures q h) ∙ l.invariant q h in
    let add = pair-added (get_le a.s.now (a.c + q * 4) 4) a.xs.now (2 * (q % 4)) a.b.now (a.o + 2 * q) in
    let t = c.pairs_at-t in
    let u = c.pairs_at-u in
    let e1 = add (2 * l.i) (lane c.plus-sum.result q) (lane t.result q) (16 * l.i + 2 * q) (at + 2 * q) e (t.ensures q h) (omega arith) (omega arith) in
    let e2 = add (2 * l.i + 1) ((lane c.plus-sum.result q + lane t.result q) % 0x1_0000_0000) (lane u.result q) (16 * l.i + 8 + 2 * q) (at + pair_places + 2 * q)
    e1 (u.ensures q h) (omega arith) (omega arith) in
    let two : 2 * l.i + 1 + 1 ≡ 2 * (l.i + 1) = omega arith in
    e2 ∙ ap row two)

pub returns : goal.returns
returns c =
    let l = c.loop-i in
    let a = c.args in
    let x = c.plus-3 in
    let e : 2 * l.i ≡ a.pairs = omega (arith, c.requires.pairs_value) in
    let row : ℕ → ℕ → ℕ = pairs_row a.s.now a.c a.xs.now a.b.now a.o in
    c.write_block.ensures
    ∙ put_row-cong 4 a.c 4 (lane x.result) (row a.pairs) a.s.now
    (λ q h. x.ensures q h ∙ ap (λ (v : ℕ). (v + lane l.u q) % 0x1_0000_0000) (c.plus-2.ensures q h)
    ∙ l.invariant q h ∙ ap (λ (p : ℕ). row p q) e)
