-- What is built of the runs of an image does not matter to reading them.
use Rattle.numbers.proofs.Kit.{◌≡◌, refl, ap, ◌∙◌, Bool, true, false, List, [], ◌∷◌, ℕ, zero, suc, ◌+◌, ◌-◌, ◌*◌, leb, length, take, drop}
use Rattle.numbers_format.specs.Numbers.{Interval, span}
use Rattle.numbers_format.specs.Formats.{Format}
use Rattle.numbers_format.specs.Formats.Format.{number, bytes}
use Rattle.numbers_format.specs.Parser.{Got, read_number, Parsed, later, parse, from}
use Rattle.numbers_format.specs.Parser.Got.{value, fault}
use Rattle.numbers_format.specs.Parser.Parsed.{whole, stopped}
use Rattle.image.specs.Cells.{Run}
use Rattle.image.specs.Cells.Run.{run}
use Rattle.image.specs.Images.{Header}
use Rattle.image.specs.ImageFormat.{Described, runs_format}
use Rattle.image_header.specs.Fields.{describe, no_header, runs_from}

abbrev pub mapped : (Described → Described) → Parsed Described → Parsed Described
mapped h (whole x) = whole (h x)
mapped h (stopped p) = stopped p

mapped-later : (h : Described → Described) (k : ℕ) (q : Parsed Described) → later k (mapped h q) ≡ mapped h (later k q)
mapped-later h k (whole x) = refl
mapped-later h k (stopped p) = refl

abbrev Maps : (Described → Described) → Format Described → Format Described → Type 0
Maps h f g = (s : List ℕ) → parse g s ≡ mapped h (parse f s)

number-maps : (h : Described → Described) (rs : List Interval) (k j : ℕ → Format Described) → ((n : ℕ) → Maps h (k n) (j n)) → Maps h (number rs k) (number rs j)
unfolding parse
number-maps h rs k j e s = go (read_number rs s)
  where
    go : (g : Got) → ◌≡◌ {A = Parsed Described} (elim g [ value n l ↦ later l (parse (j n) (drop l s)) | fault p ↦ stopped p ]) (mapped h (elim g [ value n l ↦ later l (parse (k n) (drop l s)) | fault p ↦ stopped p ]))
    go (value n l) = ap (later l) (e n (drop l s)) ∙ mapped-later h l (parse (k n) (drop l s))
    go (fault p) = refl

bytes-maps : (h : Described → Described) (m : ℕ) (k j : List ℕ → Format Described) → ((b : List ℕ) → Maps h (k b) (j b)) → Maps h (bytes m k) (bytes m j)
unfolding parse
bytes-maps h m k j e s = go (leb m (length s))
  where
    go : (t : Bool) → ◌≡◌ {A = Parsed Described} (elim t [ true ↦ later m (parse (j (take m s)) (drop m s)) | false ↦ stopped (length s) ]) (mapped h (elim t [ true ↦ later m (parse (k (take m s)) (drop m s)) | false ↦ stopped (length s) ]))
    go true = ap (later m) (e (take m s) (drop m s)) ∙ mapped-later h m (parse (k (take m s)) (drop m s))
    go false = refl

abbrev then₂ : (List Run → Described) → ℕ → ℕ → ℕ → ℕ → List ℕ → Format Described
then₂ f l room a n b = runs_format (λ rs. f (run a b ∷ rs)) l 1 (room - (a + n))

abbrev then₁ : (List Run → Described) → ℕ → ℕ → ℕ → ℕ → Format Described
then₁ f l room a n = bytes n (then₂ f l room a n)

abbrev then₀ : (List Run → Described) → ℕ → ℕ → ℕ → Format Described
then₀ f l room a = number (span 1 (room - (a + 2 * l))) (then₁ f l room a)

runs-maps : (h : Described → Described) (f : List Run → Described) (l least room : ℕ) → Maps h (runs_format f l least room) (runs_format (λ rs. h (f rs)) l least room)
unfolding runs_format parse
runs-maps h f zero least room [] = refl
runs-maps h f zero least room (b ∷ s) = refl
runs-maps h f (suc l) least room s =
    number-maps h (span least (room - (1 + 2 * l))) (then₀ f l room) (then₀ (λ rs. h (f rs)) l room) (λ a.
    number-maps h (span 1 (room - (a + 2 * l))) (then₁ f l room a) (then₁ (λ rs. h (f rs)) l room a) (λ n.
    bytes-maps h n (then₂ f l room a n) (then₂ (λ rs. h (f rs)) l room a n) (λ b. runs-maps h (λ rs. f (run a b ∷ rs)) l 1 (room - (a + n))))) s

pub from-maps : (h : Described → Described) (f : List Run → Described) (l least room : ℕ) (s : List ℕ) (at : ℕ)
    → from (runs_format (λ rs. h (f rs)) l least room) s at ≡ mapped h (from (runs_format f l least room) s at)
unfolding from
from-maps h f l least room s at =
    ap (later at) (runs-maps h f l least room (drop at s)) ∙ mapped-later h at (parse (runs_format f l least room) (drop at s))

-- runs behind a machine's numbers
pub runs-with : (h : Header) (l least room : ℕ) (s : List ℕ) (at : ℕ)
    → from (runs_format (describe h) l least room) s at ≡ mapped (λ d. describe h d.body) (runs_from s at l least room)
unfolding runs_from
runs-with h l least room s at = from-maps (λ d. describe h d.body) (describe no_header) l least room s at
