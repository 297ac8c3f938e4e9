use Rattle.numbers.proofs.Kit.{◌≡◌, sym, ap, ◌∙◌, Bool, List, [], ◌∷◌, ℕ, ◌≤◌, arith, leb, eqb, length, eq-eqb, ne_eqb, le-leb, lt-leb}
use Rattle.machine.specs.Tests.{all}
use Rattle.machine.specs.Starting.{most_seals}
use Rattle.machine.specs.Faults.{seals_fit}
use Rattle.machine.proofs.TestLaws.{fails, last}
use Rattle.unit_ranges.specs.Ranges.{block_bytes, count_in, seals_in}
use Rattle.unit_ranges.specs.Parts.{slot_sound}
use Rattle.unit_ranges.proofs.RangeLaws.{fit-by}
use Rattle.unit_ranges.proofs.is_fit.Goals as goal

-- the three tests
abbrev long : List ℕ → Bool
long b = eqb (length b) block_bytes

abbrev few : List ℕ → Bool
few b = leb (count_in b) most_seals

abbrev slots : List ℕ → Bool
slots b = all most_seals (slot_sound b (count_in b))

pub returns-then-block-ne-BLOCK_BYTES : goal.returns-then-block-ne-BLOCK_BYTES
returns-then-block-ne-BLOCK_BYTES c = let b = c.args.block.now in fails [] tt (long b) (ne_eqb (length b) 200 c.if-block-ne-BLOCK_BYTES.true) (few b ∷ slots b ∷ []) ∙ fit-by b

-- the tests before the slots
before : (b : List ℕ) (n : ℕ) → length b ≡ 200 → n ≡ count_in b → n ≤ 8 → (t : Bool) → t ≡ all most_seals (slot_sound b n) → t ≡ seals_fit (seals_in b)
before b n l e k t h =
    h ∙ ap (λ (n : ℕ). all most_seals (slot_sound b n)) e ∙ last (long b ∷ few b ∷ []) (eq-eqb (length b) 200 l, (le-leb (count_in b) 8 (omega (arith, e, k)), tt)) (slots b) ∙ fit-by b

pub returns-then-count-eq1 : goal.returns-then-count-eq1
returns-then-count-eq1 c =
    let b = c.args.block.now in
    before b c.read-count.result c.if-block-ne-BLOCK_BYTES.false c.read-count.ensures (omega (arith, c.if-count-eq1.true)) c.one_sound.result
    (c.one_sound.ensures ∙ ap (λ (n : ℕ). all most_seals (slot_sound b n)) (sym c.if-count-eq1.true))

pub returns-then-count-eq0 : goal.returns-then-count-eq0
returns-then-count-eq0 c =
    let b = c.args.block.now in
    before b c.read-count.result c.if-block-ne-BLOCK_BYTES.false c.read-count.ensures (omega (arith, c.if-count-eq0.true)) c.none_sound.result
    (c.none_sound.ensures ∙ ap (λ (n : ℕ). all most_seals (slot_sound b n)) (sym c.if-count-eq0.true))

pub returns-then-count-gt8 : goal.returns-then-count-gt8
returns-then-count-gt8 c =
    let b = c.args.block.now in
    fails (long b ∷ []) (eq-eqb (length b) 200 c.if-block-ne-BLOCK_BYTES.false, tt) (few b) (lt-leb (count_in b) 8 (omega (arith, c.if-count-gt8.true, c.read-count.ensures))) (slots b ∷ []) ∙ fit-by b

pub returns : goal.returns
returns c =
    let b = c.args.block.now in
    before b c.read-count.result c.if-block-ne-BLOCK_BYTES.false c.read-count.ensures (omega (arith, c.if-count-gt8.false)) c.slots_sound.result c.slots_sound.ensures
