-- `image_salvage::fresh::rescue` meets its contract.
use mathlib.Core.Path.{◌≡◌}
use Prim.Native.Nat.{ℕ, ◌*◌, ◌^◌, ◌≤◌, ◌<◌}
use native.Mathlib.Omega.{arith}
use lib.ListN.{length, get_or}
use Rattle.numbers_format.specs.Numbers.{encode, ByteString}
use Rattle.image_header.specs.Fields.{machine_of}
use Rattle.image_header.proofs.HeadLaws.{HeadedOk}
use Rattle.image_header.proofs.HeadLaws.{head-sizes}
use Rattle.image_check.proofs.CheckLaws.{scan-headed}
use Rattle.image_salvage.specs.Parts.{tally_at}
use Rattle.image_salvage.proofs.StepLaws.{bytes-all, tally-scan}
use Rattle.image_salvage.proofs.FreshLaws.{tally-sizes, tally-short, tally-done, count-before}
use Rattle.image_salvage.proofs.fresh.rescue.Goals as goal
use Rattle.image_salvage.proofs.fresh.rescue.Goals.{After-number_size}

-- the input's bytes
input : (k : After-number_size) → ByteString k.args.s.now
input k =
    let s = k.args.s.now in
    let small : (q : ℕ) → get_or s q 0 < 256 = λ q. omega (arith, k.type_inv.s q) in
    bytes-all s small

-- what was found in it
head : (k : After-number_size) → let f = k.args.found.fields in HeadedOk k.args.s.now (machine_of f) f.seals f.seals_at f.runs f.at
head k = scan-headed k.args.s.now k.args.found k.requires.found_value k.requires.next_value

tallied : (k : After-number_size) → let f = k.args.found in (record { runs = f.runs.kept; end = f.runs.at; place = f.runs.place }) ≡ tally_at k.args.s.now f.fields.at f.fields.runs (2 * 2 ^ f.fields.mlen)
tallied k = tally-scan k.args.s.now (input k) k.args.found k.requires.found_value k.requires.next_value

sizes : (k : After-number_size) → let f = k.args.found in
    (f.fields.at ≤ f.runs.at) × (f.runs.at ≤ length k.args.s.now) × (length (encode f.runs.kept) ≤ 10)
sizes k =
    let a = k.args in
    let f = a.found in
    let z = head-sizes _ _ _ _ _ _ (head k) in
    tally-sizes a.s.now f.fields.at f.fields.runs (2 * 2 ^ f.fields.mlen) (input k) z.2 (omega (arith, z.0, z.1)) (record { runs = f.runs.kept; end = f.runs.at; place = f.runs.place }) (tallied k)

before : (k : After-number_size) → length (encode k.args.found.fields.runs) ≤ k.args.found.fields.at
before k = count-before _ (input k) _ _ _ _ _ (head k)

pub overflow_sub-first : goal.overflow_sub-first
overflow_sub-first c = omega (arith, c.number_size.ensures, before (goal.at.overflow_sub-first c).After-number_size)

pub overflow_add-size : goal.overflow_add-size
overflow_add-size c = let z = sizes (goal.at.overflow_add-size c).After-number_size in omega (arith, z.0, z.1, z.2, c.number_size-2.ensures, c.number_size.ensures, before (goal.at.overflow_add-size c).After-number_size)

pub overflow_sub-n : goal.overflow_sub-n
overflow_sub-n c = (sizes (goal.at.overflow_sub-n c).After-number_size).0

pub overflow_add-size-2 : goal.overflow_add-size-2
overflow_add-size-2 c = let z = sizes (goal.at.overflow_add-size-2 c).After-number_size in omega (arith, z.0, z.1, z.2, c.number_size-2.ensures, c.number_size.ensures, before (goal.at.overflow_add-size-2 c).After-number_size)

pub returns-then-room-size : goal.returns-then-room-size
returns-then-room-size c =
    let a = c.args in
    let f = a.found in
    tally-short a.s.now f.fields.at f.fields.runs (2 * 2 ^ f.fields.mlen) (input (goal.at.returns-then-room-size c).After-number_size) (head-sizes _ _ _ _ _ _ (head (goal.at.returns-then-room-size c).After-number_size)).2 (record { runs = f.runs.kept; end = f.runs.at; place = f.runs.place }) (tallied (goal.at.returns-then-room-size c).After-number_size) c.number_size.result c.number_size-2.result
    c.number_size.ensures (omega (arith, c.number_size.ensures, before (goal.at.returns-then-room-size c).After-number_size)) c.number_size-2.ensures a.room.now c.if-room-size.true

pub put_fresh-requires : goal.put_fresh-requires
put_fresh-requires c =
    let z = sizes (goal.at.put_fresh-requires c).After-number_size in
    record {
      first_in_bounds = (omega (arith, z.0, z.1), omega (arith, z.0, z.1));
      n_in_bounds = omega (arith, c.if-room-size.false, c.number_size-2.ensures);
    }

pub returns : goal.returns
returns c =
    let a = c.args in
    let f = a.found in
    tally-done a.s.now f.fields.at f.fields.runs (2 * 2 ^ f.fields.mlen) (input (goal.at.returns c).After-number_size) (head-sizes _ _ _ _ _ _ (head (goal.at.returns c).After-number_size)).2 (record { runs = f.runs.kept; end = f.runs.at; place = f.runs.place }) (tallied (goal.at.returns c).After-number_size) c.number_size.result c.number_size-2.result
    c.number_size.ensures (omega (arith, c.number_size.ensures, before (goal.at.returns c).After-number_size)) c.number_size-2.ensures a.room.now (omega (arith, c.if-room-size.false)) c.put_fresh.new.room c.put_fresh.ensures
