-- 01, "Numbers of the answers", and 02, One: the checks that instructions have in common. Each instruction lists its own in their order, which is
-- 10, 11, 1, 12, then 2 to 6, 13, 7: "sources go ms1, ms2, md".
use Rattle.std.specs.Prelude.{◌||◌, ◌+◌, ◌*◌}
use Rattle.numbers.specs.Kit.{Bool, not, List, ℕ, leb, eqb, get_or}
use Rattle.machine.specs.declared.Refusal.{Refusal}
use Rattle.machine.specs.declared.Refusal.TheVariants.{IllegalWord, IllegalType, TileTooLarge, Unwritten, WrongOpcode, LeftOutWord, WrongRegister}
use Rattle.machine.specs.declared.Wrong.{Wrong}
use Rattle.machine.specs.declared.Wrong.TheVariants.{Opcode, LeftOut, Unlisted, Register}
use Rattle.machine.specs.declared.Dimension.{Dimension}
use Rattle.machine.specs.Tests.{all, first}
use Rattle.machine.specs.Answers.{Check, ◌otherwise◌}
use Rattle.machine.specs.Geometry.{Parameters, State}
use Rattle.machine.specs.Setting.{mill, maximum, size_in}

-- 10, 11, 1, 12: a word that is refused for what it is
abbrev pub word_answer : Wrong → Refusal
word_answer Opcode = WrongOpcode
word_answer LeftOut = LeftOutWord
word_answer Unlisted = IllegalWord
word_answer Register = WrongRegister

-- 2: "mill is set and the word isn't msettype or msettypei"
abbrev pub typed : State → Check
typed st = not (mill st.mtype) otherwise IllegalType

-- 4: "a tile size the instruction uses exceeds its maximum under mtype"
abbrev pub fitting : Parameters → State → Dimension → Check
fitting M st d = leb (size_in d st) (maximum M st.mtype d) otherwise TileTooLarge

-- each byte of the rows has its mark
unfoldable pub marked : List ℕ → (ℕ → ℕ) → ℕ → ℕ → Bool
marked ms at rows n = all rows (λ i. all n (λ b. eqb (get_or ms (at i + b) 0) 1))

-- the first row that has a byte without a mark, and in it the first such element
abbrev pub first_row : List ℕ → (ℕ → ℕ) → ℕ → ℕ → ℕ
first_row ms at rows n = first rows (λ i. not (all n (λ b. eqb (get_or ms (at i + b) 0) 1)))

abbrev pub first_column : List ℕ → ℕ → ℕ → ℕ → ℕ
first_column ms p cols w = first cols (λ j. not (all w (λ b. eqb (get_or ms (p + j * w + b) 0) 1)))

-- 5: "a register element to be read has a byte without a mark", "names the row and column of the first such element, row by row";
-- nothing is read where `unless` holds
abbrev pub needs : Bool → List ℕ → (ℕ → ℕ) → (rows cols w : ℕ) → Check
needs unless ms at rows cols w =
    unless || marked ms at rows (cols * w) otherwise
    Unwritten (first_row ms at rows (cols * w)) (first_column ms (at (first_row ms at rows (cols * w))) cols w)
