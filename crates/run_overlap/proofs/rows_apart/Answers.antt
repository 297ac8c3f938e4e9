use Rattle.numbers.proofs.Kit.{◌≡◌, sym, ap, ◌∙◌, ℕ, ◌+◌, ◌≤◌, arith}
use mir.Syntax.{w64}
use mir.Val.{to_z, of_z}
use Rattle.machine.specs.Memory.{row_at}
use Rattle.unit_address.proofs.TestLaws.{all-next, test-failed, test-passed}
use Rattle.unit_address.proofs.AddressLaws.{step, passed_on, row_inside, row-reached, row-starts}
use Rattle.run_overlap.proofs.OverlapLaws.{free_rows, against, apart-no-others, apart-not, apart-all}
use Rattle.numbers.proofs.Kit.{not}
use Rattle.run_overlap.proofs.rows_apart.Goals as goal
use Rattle.run_overlap.proofs.rows_apart.Goals.{After-as_signed, After-row_address-at}

pub returns-then-size-eq0 : goal.returns-then-size-eq0
returns-then-size-eq0 c = let a = c.args in apart-no-others (row_at a.base a.stride) a.rows a.bytes (row_at a.other a.pace) a.count a.size c.if-size-eq0.true

pub as_signed-requires : goal.as_signed-requires
as_signed-requires c = tt

-- in a turn: the stride, and that the row lies in memory
stride-is : (c : After-as_signed) → to_z w64 (of_z w64 c.as_signed.result) ≡ step c.args.pace
stride-is c = passed_on c.as_signed.result c.args.pace c.as_signed.type_inv c.as_signed.ensures

pub row_address-at-requires : goal.row_address-at-requires
row_address-at-requires c =
    let a = c.args in let r = row-reached a.len a.other a.pace a.count a.size c.requires.size_value (omega (arith, c.if-size-eq0.false)) c.ranges.pace.fits c.requires.len_bound
    (omega (arith, c.requires.count_bound)) c.loop-k.k (omega arith) (to_z w64 (of_z w64 c.as_signed.result)) (stride-is c) in record { row_bound = r.0; row_bound_2 = r.1.0; stride_value = r.1.1 }

-- where the row starts, and that it lies in memory
here : (c : After-row_address-at) →
    let a = c.args in
    (c.row_address-at.result ≡ row_at a.other a.pace c.loop-k.k) × (c.row_address-at.result + a.size ≤ a.len)
here c =
    let a = c.args in
    let i = c.loop-k.k in
    let e = row-starts a.len a.other a.pace a.count a.size i c.row_address-at.result (to_z w64 (of_z w64 c.as_signed.result)) (stride-is (goal.at.After-row_address-at c).After-as_signed) c.row_address-at.ensures in
    (e, omega (arith, e, (row_inside a.len a.other a.pace a.count a.size c.requires.size_value (omega (arith, c.if-size-eq0.false)) c.ranges.pace.fits i (omega arith)).1))

pub rows_miss-requires : goal.rows_miss-requires
rows_miss-requires c =
    let h = here c in
    record {
      bytes_value = c.requires.bytes_value;
      len_bound = c.requires.len_bound;
      rows_bound = c.requires.rows_bound;
      o_bound = omega (arith, h.1, c.requires.len_bound);
    }

pub returns-then-not-rows_miss : goal.returns-then-not-rows_miss
returns-then-not-rows_miss c =
    let a = c.args in
    apart-not (row_at a.base a.stride) a.rows a.bytes (row_at a.other a.pace) a.count a.size c.loop-k.k c.row_address-at.result (omega arith) (here (goal.at.returns-then-not-rows_miss c).After-row_address-at).0
    (test-failed c.rows_miss.result (free_rows (row_at a.base a.stride) a.rows a.bytes c.row_address-at.result a.size) c.rows_miss.ensures (ap not c.if-not-rows_miss.true))

pub loop-k-preserved : goal.loop-k-preserved
loop-k-preserved c =
    let a = c.args in
    let l = c.loop-k in
    let r = c.rows_miss in
    all-next l.k (against (row_at a.base a.stride) a.rows a.bytes (row_at a.other a.pace) a.count a.size) l.invariant
    (ap (λ (x : ℕ). free_rows (row_at a.base a.stride) a.rows a.bytes x a.size) (sym (here (goal.at.loop-k-preserved c).After-row_address-at).0) ∙ test-passed r.result (free_rows (row_at a.base a.stride) a.rows a.bytes c.row_address-at.result a.size) r.ensures (ap not c.if-not-rows_miss.false))

pub returns : goal.returns
returns c =
    let a = c.args in
    let l = c.loop-k in
    apart-all (row_at a.base a.stride) a.rows a.bytes (row_at a.other a.pace) a.count a.size l.k (omega arith) l.invariant
