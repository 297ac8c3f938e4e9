use Rattle.numbers.proofs.Kit.{◌≡◌, sym, ap, ℕ, suc, ◌<◌, arith, List·getD-eq-default}
use Rattle.run.specs.declared.Place.TheVariants.{AtEnd}
use Rattle.c_run_blocks.specs.declared.Spot.{Spot}
use Rattle.c_run_blocks.specs.RunBlocks.{spot, places, place_of}
use Rattle.c_run_blocks.proofs.place_of.Goals as goal

-- past n, and not n + 1
past : (n k : ℕ) → n < k → (k ≡ suc n → ⊥) → suc n < k
past n k l h = omega arith

of-kind : (s : Spot) (k : ℕ) → s.kind ≡ k → place_of (spot k s.row s.column s.term) ≡ place_of s
of-kind s k e = ap (λ (k : ℕ). place_of (spot k s.row s.column s.term)) (sym e)

pub returns-in-0 : goal.returns-in-0
unfolding place_of
returns-in-0 c = of-kind c.args.spot 0 c.in-0.is

pub returns-in-1 : goal.returns-in-1
unfolding place_of
returns-in-1 c = of-kind c.args.spot 1 c.in-1.is

pub returns-in-2 : goal.returns-in-2
unfolding place_of
returns-in-2 c = of-kind c.args.spot 2 c.in-2.is

pub returns-in-3 : goal.returns-in-3
unfolding place_of
returns-in-3 c = of-kind c.args.spot 3 c.in-3.is

pub returns-in-4 : goal.returns-in-4
unfolding place_of
returns-in-4 c = of-kind c.args.spot 4 c.in-4.is

pub returns-in-5 : goal.returns-in-5
unfolding place_of
returns-in-5 c = of-kind c.args.spot 5 c.in-5.is

pub returns-in-6 : goal.returns-in-6
unfolding place_of
returns-in-6 c = of-kind c.args.spot 6 c.in-6.is

pub returns-in-7 : goal.returns-in-7
unfolding place_of
returns-in-7 c = of-kind c.args.spot 7 c.in-7.is

pub returns-in-8 : goal.returns-in-8
unfolding place_of
returns-in-8 c = of-kind c.args.spot 8 c.in-8.is

pub returns-in_default : goal.returns-in_default
unfolding place_of
returns-in_default c =
    let s = c.args.spot in
    let k = s.kind in
    let r = c.in_default.in_default-own.rest in
    let h : 4 < k = past 3 k (past 2 k (past 1 k (past 0 k (omega (arith, r.0.0.0.0.0.0.0.0.1)) r.0.0.0.0.0.0.0.1) r.0.0.0.0.0.0.1) r.0.0.0.0.0.1) r.0.0.0.0.1 in
    sym (List·getD-eq-default (places s.row s.column s.term) AtEnd {n = k} (past 7 k (past 6 k (past 5 k (past 4 k h r.0.0.0.1) r.0.0.1) r.0.1) r.1))
