-- No sealed byte changes, from a machine that was started or that an image made.
use Rattle.numbers.proofs.Kit.{◌≡◌, sym, ap, ◌∙◌, subst, Bool, cond, List, [], ◌∷◌, ◌++◌, ℕ}
use Rattle.numbers.specs.Blocks.{Choice}
use Rattle.machine.specs.Geometry.{Range, range, Bench}
use Rattle.machine.specs.Starting.{ranges, StartOutcome}
use Rattle.machine.proofs.StartLaws.{accepted}
use Rattle.run.specs.Acts.{Act, Session, lent_last, after_acts}
use Rattle.run.specs.Theorems.{SealKept}
use Rattle.machine.specs.Sealing.{add_seal}
use Rattle.run.proofs.RefusalLaws.{number-done}
use Rattle.unit_sealing.proofs.AddedRange.{sealed-ranges}
use Rattle.run.proofs.Demand2.{seal-holds-over-acts}
use Rattle.unit_ranges.specs.Ranges.{seals_in}
use Rattle.image.specs.Reading.{read_image}
use Rattle.theorem_calls.specs.Calls.{Buffers, Call, called}
use Rattle.theorem_calls.specs.Composed.{after_calls, bench_in, EachSparesSeal}
use Rattle.theorem_calls.proofs.Seal.{seal-holds-from-start-call, seal-holds-from-read-call}
use Rattle.theorem_calls.proofs.Ranges.{seal-holds-from-seal-call}
use Rattle.demands.specs.Demand2.{Made, SealedBytesStay, MadeInC, SealedBytesStayInC}

-- from any moment on, with the ranges that are held then
kept : (grant : Choice) (acts : List Act) (S : Session) → SealKept S.bench.seals (lent_last acts S.bench.memory) (after_acts grant acts S).bench
kept grant acts S = let u = seal-holds-over-acts grant acts S in record { ranges-stay = u.ranges-stay; same_bytes = u.same_bytes }

pub sealed-bytes-stay : SealedBytesStay
sealed-bytes-stay grant acts S seals m = subst (λ (rs : List Range). SealKept rs (lent_last acts S.bench.memory) (after_acts grant acts S).bench) (held m) (kept grant acts S)
  where
    held : Made seals S.bench → S.bench.seals ≡ seals
    held (Made.started rlen mlen elen rule given registers marks h e s) = ap (λ (B : Bench). B.seals) e ∙ ap (λ (o : StartOutcome). o.seals) (accepted rlen mlen elen rule given registers marks h).leaves ∙ sym s
    held (Made.read image registers marks b h e s) = ap (λ (B : Bench). B.seals) e ∙ sym s
    held (Made.added start size A h e s) =
        ap (λ (B : Bench). B.seals) e ∙ sealed-ranges start size A
        ∙ ap (λ (t : Bool). A.seals ++ cond t (range start size ∷ []) []) (number-done (add_seal start size A).answer h) ∙ sym s

-- from a call on
abbrev StayFrom : Buffers → List Range → Call → Type 0
StayFrom b seals c = (called c b).result ≡ 0 → (cs : List Call) → EachSparesSeal cs (called c b).after → SealKept seals b.memory (bench_in (after_calls cs (called c b).after))

from : (b : Buffers) (seals rs : List Range) (c d : Call) → c ≡ d → seals ≡ rs → StayFrom b rs d → StayFrom b seals c
from b seals rs c d e s h = subst (StayFrom b seals) (sym e) (subst (λ (x : List Range). StayFrom b x d) (sym s) h)

pub sealed-bytes-stay-in-c : SealedBytesStayInC
sealed-bytes-stay-in-c c b seals (MadeInC.started rlen mlen elen rule given e s) =
    from b seals (ranges given) c (Call.start rlen mlen elen rule given) e s (seal-holds-from-start-call rlen mlen elen rule given b)
sealed-bytes-stay-in-c c b seals (MadeInC.read image bytes e s) =
    from b seals (read_image image b.registers b.marks).seals c (Call.image_read image) e s (seal-holds-from-read-call image b bytes)
sealed-bytes-stay-in-c c b seals (MadeInC.added start size small e s) =
    from b seals (seals_in b.machine ++ (range start size ∷ [])) c (Call.seal start size) e s (seal-holds-from-seal-call start size b small)
