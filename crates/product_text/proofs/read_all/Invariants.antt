-- The numbers of the words that were read stand in `out`.
use Rattle.numbers.proofs.Kit.{◌≡◌, ◌++◌, ◌≤◌, length, take, drop}
use Rattle.product_text.specs.Text.{words}
use Rattle.product_text.specs.Parts.{front_of, onto}
use Rattle.product_text.proofs.ReadLaws.{held_of}
use Rattle.product_text.proofs.read_all.Given as goal

abbrev pub invariant-loop-word : goal.invariant-loop-word
invariant-loop-word l =
    (l.n ≡ length l.yielded) × (l.n ≤ length l.out) × (held_of (words l.text) ≡ onto (take l.n l.out) (held_of (drop l.n (words l.text))))
    × (front_of (words l.text) ≡ take l.n l.out ++ front_of (drop l.n (words l.text))) × (drop l.n l.out ≡ drop l.n l.initial.out)
