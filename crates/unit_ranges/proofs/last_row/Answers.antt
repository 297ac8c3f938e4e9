use Rattle.numbers.proofs.Kit.{◌≡◌, ◌-◌, arith}
use mir.Syntax.{w64}
use mir.Val.{to_z, of_z}
use Rattle.unit_address.proofs.AddressLaws.{step, passed_on, row_inside, row-reached, row-starts}
use Rattle.unit_ranges.proofs.last_row.Goals as goal
use Rattle.unit_ranges.proofs.last_row.Goals.{After-as_signed}

-- the stride
stride-is : (c : After-as_signed) → to_z w64 (of_z w64 c.as_signed.result) ≡ step c.args.stride
stride-is c = passed_on c.as_signed.result c.args.stride c.as_signed.type_inv c.as_signed.ensures

pub row_address-requires : goal.row_address-requires
row_address-requires c =
    let a = c.args in let r = row-reached a.len a.base a.stride a.rows a.bytes c.requires.bytes_value c.requires.rows_nonzero.1 c.ranges.stride.fits c.requires.len_bound c.requires.rows_bound
    (a.rows - 1) (omega (arith, c.requires.rows_nonzero.0)) (to_z w64 (of_z w64 c.as_signed.result)) (stride-is c) in record { row_bound = r.0; row_bound_2 = r.1.0; stride_value = r.1.1 }

pub returns : goal.returns
returns c =
    let a = c.args in
    let e = row-starts a.len a.base a.stride a.rows a.bytes (a.rows - 1) c.row_address.result (to_z w64 (of_z w64 c.as_signed.result)) (stride-is (goal.at.returns c).After-as_signed) c.row_address.ensures in
    (e, omega (arith, e, (row_inside a.len a.base a.stride a.rows a.bytes c.requires.bytes_value c.requires.rows_nonzero.1 c.ranges.stride.fits (a.rows - 1) (omega (arith, c.requires.rows_nonzero.0))).1))
