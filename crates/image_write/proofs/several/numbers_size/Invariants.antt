-- `image_write::several::numbers_size` meets its contract.
use Rattle.numbers.proofs.Kit.{◌≡◌, [], ◌+◌, ◌*◌, ◌≤◌, length, drop}
use Rattle.numbers_format.specs.Numbers.{encode_all}
use Rattle.image_write.proofs.several.numbers_size.Given as goal

abbrev pub invariant-loop-n : goal.invariant-loop-n
invariant-loop-n l = (l.n-index ≤ length l.numbers) × (l.size ≤ 10 * l.n-index) × (l.size + length (encode_all (drop l.n-index l.numbers) []) ≡ length (encode_all l.numbers []))
