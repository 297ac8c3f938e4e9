-- 01, "Numbers of the answers": answer 8 of a step.
use Rattle.std.specs.Prelude.{◌&&◌, ◌∷◌, ◌/◌}
use Rattle.numbers.specs.Kit.{Bool, List, [], ℕ, min, leb, ltb, eqb, length}
use Rattle.machine.specs.declared.Machine.{Machine}
use Rattle.machine.specs.Tests.{all_of, every}
use Rattle.machine.specs.Geometry.{Range, permitted, register_bytes, Bench}
use Rattle.machine.specs.Starting.{is_rule, seals_end, most_seals}
use Rattle.machine.specs.Setting.{new_type}

-- "RLEN or MLEN not permitted, a buffer not of the size they demand, .. an mtype that can't arise, a tile size above its maximum
-- at SEW 8, .. or a mark that is neither value", or, 02, Eight, "an unknown rule", or, 02, Ten, "an ELEN other than
-- 32 or 64, or not below RLEN": none of these
unfoldable pub sound : Machine → List ℕ → List ℕ → Bool
sound m registers marks = every (
    permitted m.rlen m.mlen m.elen
    ∷ eqb (length registers) (register_bytes m.mlen)
    ∷ eqb (length marks) (register_bytes m.mlen)
    ∷ eqb (new_type m.elen m.mtype) m.mtype
    ∷ leb m.tile_m (m.mlen / m.rlen)
    ∷ leb m.tile_k (min (m.mlen / m.rlen) (m.rlen / 8))
    ∷ leb m.tile_n (m.rlen / 8)
    ∷ is_rule m.rule
    ∷ all_of (λ mark. ltb mark 2) marks ∷ [])

-- "a seal whose end exceeds 2^64 - 1"; 02, Twelve: "a state that holds more than eight gets 8": neither
unfoldable pub seals_fit : List Range → Bool
seals_fit seals = every (leb (length seals) most_seals ∷ seals_end seals ∷ [])

-- "not thirty-two scalars"
abbrev pub thirty_two : List ℕ → Bool
thirty_two scalars = eqb (length scalars) 32

-- a state that is not at fault
abbrev pub sound_bench : Bench → Bool
sound_bench B = sound B.machine B.registers B.marks && seals_fit B.seals
