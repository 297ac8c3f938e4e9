use Rattle.numbers.proofs.Kit.{◌≡◌, sym, ap, ◌∙◌, List, [], ℕ, arith, length, take, length-take}
use Rattle.numbers_format.specs.Numbers.{encode_all}
use Rattle.std.proofs.Common.{rules}
use Rattle.image_write.proofs.version_size.Goals as goal
use Rattle.image_write.proofs.version_size.Goals.{After-version_of-version}

-- three numbers, of which some are taken
long : (c : After-version_of-version) → length c.version_of-version.result.numbers ≡ 3
long c = search rules

taken : (c : After-version_of-version) → let v = c.version_of-version.result in length (take v.count v.numbers) ≡ v.count
taken c = let v = c.version_of-version in omega (arith, length-take v.result.count v.result.numbers, long c, v.ensures.0)

pub slice_bounds-numbers_size-end : goal.slice_bounds-numbers_size-end
slice_bounds-numbers_size-end c = sym (taken (goal.at.slice_bounds-numbers_size-end c).After-version_of-version)

pub numbers_size-requires : goal.numbers_size-requires
numbers_size-requires c = omega (arith, taken (goal.at.numbers_size-requires c).After-version_of-version, c.version_of-version.ensures.0)

pub returns : goal.returns
returns c =
    let v = c.version_of-version in (
      c.numbers_size.ensures.0 ∙ ap (λ (ns : List ℕ). length (encode_all ns [])) v.ensures.1,
      omega (arith, c.numbers_size.ensures.1, taken (goal.at.returns c).After-version_of-version, v.ensures.0),
    )
