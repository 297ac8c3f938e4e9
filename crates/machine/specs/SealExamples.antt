-- 02, Twelve: several sealed ranges, computed on the machine of Examples.
use Rattle.std.specs.Prelude.{◌≡◌, ◌∷◌, ◌++◌, ◌-◌, ◌^◌}
use Rattle.numbers.specs.Kit.{refl, List, [], map, ℕ, replicate}
use Rattle.machine.specs.Geometry.{Range, range, Bench, bench_of, permitted}
use Rattle.machine.specs.Setting.{sew, new_type, legal_type}
use Rattle.machine.specs.Starting.{start_machine, startable}
use Rattle.machine.specs.Memory.{inside, misses, rows_miss, distinct}
use Rattle.machine.specs.Refusals.{marked}
use Rattle.machine.specs.TransferWords.{width_of}
use Rattle.machine.specs.Listing.{decode, listing, others}
use Rattle.machine.specs.Faults.{sound, seals_fit}
use Rattle.machine.specs.Sealing.{add_seal}
use Rattle.machine.specs.Step.{step, step_by, outcome}
use Rattle.machine.specs.Examples.{word, scalars, bench}

-- with these ranges
pub holding : List Range → Bench
holding rs = let B = bench 0 2 2 2 0 0 1 in bench_of B.machine rs B.registers B.marks B.memory

-- so many ranges of length 0
pub empty : ℕ → List Range
empty n = replicate n (range 0 0)

-- a store of A, two rows of two bytes at 0 and 8: none sealed; the second of two ranges has byte 9; the eighth of eight; two that
-- overlap; eight of length 0; a ninth; an end beyond 2^64 - 1
pub stores : List ℕ
stores = map (λ rs. (step (word 0b0000011 11 10 0 0) (scalars 0 8) (holding rs)).answer.number) (
    []
    ∷ (range 16 4 ∷ range 9 1 ∷ [])
    ∷ (empty 7 ++ (range 9 1 ∷ []))
    ∷ (range 9 4 ∷ range 8 2 ∷ [])
    ∷ empty 8
    ∷ empty 9
    ∷ (range 16 4 ∷ range (2 ^ 64 - 1) 1 ∷ []) ∷ [])

pub stores-right : stores ≡ 0 ∷ 7 ∷ 7 ∷ 7 ∷ 0 ∷ 8 ∷ 8 ∷ []
unfolding stores holding empty word bench scalars permitted sew new_type legal_type width_of inside misses rows_miss distinct marked listing others decode sound seals_fit step_by outcome
stores-right = refl

-- a start: none, eight, nine ranges; an end at 2^64 - 1; an end beyond it in the second and in the tenth; a number too many, and seventeen
pub starts : List ℕ
starts = map (λ seals. (start_machine 64 128 32 0 seals (replicate 256 5) (replicate 256 1)).answer.number) (
    []
    ∷ replicate 16 0
    ∷ replicate 18 0
    ∷ ((2 ^ 64 - 2) ∷ 1 ∷ [])
    ∷ (0 ∷ 0 ∷ (2 ^ 64 - 1) ∷ 1 ∷ [])
    ∷ (replicate 18 0 ++ ((2 ^ 64 - 1) ∷ 1 ∷ []))
    ∷ (0 ∷ 0 ∷ 0 ∷ [])
    ∷ replicate 17 0 ∷ [])

pub starts-right : starts ≡ 0 ∷ 0 ∷ 16 ∷ 0 ∷ 8 ∷ 8 ∷ 8 ∷ 8 ∷ []
unfolding starts start_machine startable permitted
starts-right = refl

-- adding one: to none, to seven, to eight, of which an end beyond 2^64 - 1 is told first; to nine, a state at fault
pub adds : List ℕ
adds = map (λ rs. (add_seal 9 1 (holding rs)).answer.number) ([] ∷ empty 7 ∷ empty 8 ∷ empty 9 ∷ [])
    ++ ((add_seal (2 ^ 64 - 1) 1 (holding (empty 8))).answer.number ∷ [])

pub adds-right : adds ≡ 0 ∷ 0 ∷ 16 ∷ 8 ∷ 8 ∷ []
unfolding adds holding empty bench add_seal permitted new_type legal_type sew sound seals_fit
adds-right = refl

-- it enters behind the others
pub order-right : (add_seal 9 1 (holding (range 16 4 ∷ []))).bench.seals ≡ range 16 4 ∷ range 9 1 ∷ []
unfolding holding bench add_seal permitted new_type legal_type sew sound seals_fit
order-right = refl
