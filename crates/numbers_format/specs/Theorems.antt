-- What is proved of these definitions. The proofs stand in proofs/.
use Rattle.std.specs.Prelude.{◌≡◌, List, ◌++◌, ℕ}
use Rattle.numbers_format.specs.Numbers.{encode, ByteString}
use Rattle.numbers_format.specs.Formats.{Ends, Format, Accepts, Accepted}
use Rattle.numbers_format.specs.Parser.{Live, Parsed, parse}
use Rattle.numbers_format.specs.Parser.Parsed.{whole, stopped}

-- no number's bytes begin another's
abbrev pub NumbersApart : Type 0
NumbersApart = (n m : ℕ) (t u : List ℕ) → encode n ++ t ≡ encode m ++ u → (n ≡ m) × (t ≡ u)

-- an input has one place at which it leaves what is accepted
abbrev pub OnePlace : Type 1
OnePlace = (L : List ℕ → Type 0) (s : List ℕ) (p q : ℕ) → Ends L s p → Ends L s q → p ≡ q

-- what the parser finds: an input that is accepted, or the place at which it leaves what is accepted
abbrev pub Right : {X : Type 0} → Format X → List ℕ → Parsed X → Type 0
Right f s (whole x) = Accepts f s x
Right f s (stopped p) = Ends (Accepted f) s p × ¬ Accepted f s

-- of every format without a dead end, and every byte string
abbrev pub ParserIsRight : Type 1
ParserIsRight = (X : Type 0) (f : Format X) → Live f → (s : List ℕ) → ByteString s → Right f s (parse f s)
