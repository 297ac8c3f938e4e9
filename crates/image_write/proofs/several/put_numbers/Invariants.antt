-- `image_write::several::put_numbers` meets its contract. The invariant: what is still to be put makes of the room what the whole makes.
use Rattle.numbers.proofs.Kit.{◌≡◌, [], ◌+◌, ◌≤◌, length, drop, sets}
use Rattle.numbers_format.specs.Numbers.{encode_all}
use Rattle.image_write.proofs.several.put_numbers.Given as goal

abbrev pub invariant-loop-n : goal.invariant-loop-n
invariant-loop-n l =
    (l.n-index ≤ length l.numbers) × (length l.room ≡ length l.initial.room)
    × (l.at + length (encode_all (drop l.n-index l.numbers) []) ≡ l.start + length (encode_all l.numbers []))
    × (sets l.room l.at (encode_all (drop l.n-index l.numbers) []) ≡ sets l.initial.room l.start (encode_all l.numbers []))
