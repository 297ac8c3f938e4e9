-- What the functions of settings and faults give, each in the words of the definitions.
use Rattle.numbers.specs.Kit.{Err}
use Rattle.std.specs.Prelude.{◌≡◌, Bool, true, cond, List, [], ◌∷◌, ℕ, ◌/◌, min, leb, eqb}
use Rattle.machine.specs.declared.Machine.{Machine}
use Rattle.machine.specs.declared.Dimension.{Dimension}
use Rattle.machine.specs.declared.Dimension.TheVariants.{DimensionM, DimensionK, DimensionN}
use Rattle.machine.specs.declared.Refusal.TheVariants.{IllegalType}
use Rattle.machine.specs.Answers.{Done}
use Rattle.machine.specs.Step.{Stepped}
use Rattle.machine.specs.Tests.{every}
use Rattle.machine.specs.Geometry.{permitted, parameters, Parameters, state_of, machine_after, scalar, with_scalar}
use Rattle.machine.specs.Starting.{is_rule}
use Rattle.machine.specs.Setting.{new_type, mill, maximum, smaller, chosen, size_in}
use Rattle.machine.specs.SettingWords.{sized}

-- the machine's own parameters, under our choice of sizes
abbrev pub ours : Machine → Parameters
ours m = parameters chosen m

-- the tests of answer 8 that look at the machine's numbers alone
abbrev pub numbers_sound : Machine → Bool
numbers_sound m = every (
    permitted m.rlen m.mlen m.elen
    ∷ eqb (new_type m.elen m.mtype) m.mtype
    ∷ leb m.tile_m (m.mlen / m.rlen)
    ∷ leb m.tile_k (min (m.mlen / m.rlen) (m.rlen / 8))
    ∷ leb m.tile_n (m.rlen / 8)
    ∷ is_rule m.rule ∷ [])

-- the machine's numbers with another mtype, and with another size
abbrev pub with_type : Machine → ℕ → Machine
with_type m t = machine_after m (sized (state_of m [] []) t m.tile_m m.tile_k m.tile_n)

abbrev pub with_size : Machine → Dimension → ℕ → Machine
with_size m DimensionM a = machine_after m (sized (state_of m [] []) m.mtype a m.tile_k m.tile_n)
with_size m DimensionK a = machine_after m (sized (state_of m [] []) m.mtype m.tile_m a m.tile_n)
with_size m DimensionN a = machine_after m (sized (state_of m [] []) m.mtype m.tile_m m.tile_k a)

-- what a tile setting that asks for a size returns, and what it leaves in the scalars
abbrev pub granted : Machine → Dimension → ℕ → ℕ
granted m d a = chosen m.rule (maximum (ours m) m.mtype d) a

abbrev pub size_stepped : Machine → Dimension → ℕ → Stepped
size_stepped m d a = cond (mill m.mtype) (record { answer = Err IllegalType; machine = m }) (record { answer = Done; machine = with_size m d (granted m d a) })

abbrev pub size_scalars : Machine → Dimension → ℕ → ℕ → List ℕ → List ℕ
size_scalars m d a rd xs = cond (mill m.mtype) xs (with_scalar xs rd (granted m d a))

-- and one that asks for none
abbrev pub cut_stepped : Machine → Dimension → Stepped
cut_stepped m d =
    cond (mill m.mtype) (record { answer = Err IllegalType; machine = m }) (record {
      answer = Done;
      machine = with_size m d (smaller (maximum (ours m) m.mtype d) (size_in d (state_of m [] [])));
    })

-- and one with rs1
abbrev pub tile_stepped : Machine → Dimension → ℕ → ℕ → List ℕ → Stepped
tile_stepped m d rd rs1 xs =
    cond (eqb rs1 0) (cond (eqb rd 0) (cut_stepped m d) (size_stepped m d (maximum (ours m) m.mtype d))) (size_stepped m d (scalar xs rs1))

abbrev pub tile_scalars : Machine → Dimension → ℕ → ℕ → List ℕ → List ℕ
tile_scalars m d rd rs1 xs =
    cond (eqb rs1 0) (cond (eqb rd 0) xs (size_scalars m d (maximum (ours m) m.mtype d) rd xs)) (size_scalars m d (scalar xs rs1) rd xs)

-- the values of mtype that are legal where ELEN is 64, those that are where it is 32 among them
abbrev pub legal_types : List ℕ
legal_types = 0 ∷ 1 ∷ 2 ∷ 8 ∷ 3 ∷ 9 ∷ []

-- what holds of a machine that is not at fault
pub record Ready (m : Machine) : Type 0 where
  pub lengths : permitted m.rlen m.mlen m.elen ≡ true
  pub type-arises : new_type m.elen m.mtype ≡ m.mtype
