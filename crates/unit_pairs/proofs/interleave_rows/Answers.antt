-- The loop: the first `l` rows, an even number.
use Rattle.numbers.proofs.Kit.{◌/◌, ◌≡◌, ap, ◌∙◌, ℕ, ◌+◌, ◌*◌, arith}
use Rattle.numbers.proofs.PutLaws.{row_fits}
use Rattle.unit_pairs.specs.Pairs.{half, pair_places}
use Rattle.unit_pairs.proofs.PairLaws.{row_more, rows_more}
use Rattle.unit_pairs.proofs.interleave_rows.Goals as goal

pub interleave-requires-clause-width_in_bounds : goal.interleave-requires-clause-width_in_bounds
interleave-requires-clause-width_in_bounds c =
    let e = row_fits (2 * c.loop-p.p + 1) c.args.k c.args.pitch (omega arith) in
    (omega (arith, e, c.requires.width_bound, c.requires.pitch_in_bounds), omega (arith, e, c.requires.width_bound, c.requires.pitch_in_bounds))

pub loop-p-preserved : goal.loop-p-preserved
loop-p-preserved c =
    let m = c.interleave in
    let l = c.loop-p in
    let a = c.args in
    let F : ℕ → ℕ → ℕ = λ r j. half a.s.now (a.b + r * a.pitch + j * a.width) a.width in
    let next : a.b + 2 * l.p * a.pitch + a.pitch ≡ a.b + (2 * l.p + 1) * a.pitch = omega arith in
    let more = rows_more F l.d m.new.d (2 * l.p) a.n (l.p * pair_places) c.requires.n_le_most_columns (omega arith) (omega arith) l.invariant m.ensures.by_index_2
    (λ j h. (m.ensures.by_index j h).0)
    (λ j h. (m.ensures.by_index j h).1 ∙ ap (λ (x : ℕ). half a.s.now (x + j * a.width) a.width) next) in
    λ r j h g. more r (omega arith) j g

pub returns-then-k-eq1 : goal.returns-then-k-eq1
returns-then-k-eq1 c =
    let m = c.interleave-then-k-eq1 in
    let l = c.loop-p in
    let a = c.args in
    let F : ℕ → ℕ → ℕ = λ r j. half a.s.now (a.b + r * a.pitch + j * a.width) a.width in
    let more = row_more F l.d m.new.d (2 * (a.k / 2)) a.n (a.k / 2 * pair_places) c.requires.n_le_most_columns (omega arith) (omega arith)
    (λ r j h g. l.invariant r j (omega arith) g) m.ensures.by_index_2 (λ j h. (m.ensures.by_index j h).0) in
    λ r j h g. more r (omega arith) j g
