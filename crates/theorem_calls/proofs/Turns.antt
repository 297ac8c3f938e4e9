-- bodlarina_run_turns as calls of bodlarina_run_turn: what a call writes to the blocks is what the next one reads.
use Rattle.numbers.proofs.Kit.{◌≡◌, refl, sym, ap, ap₂, ◌∙◌, Bool, true, false, cond, List, [], ◌∷◌, ℕ, zero, suc, ◌+◌, ◌%◌, ◌*◌, ◌^◌, arith, eqb, length}
use Rattle.numbers.proofs.Kit.{replicate, eqb-true, ne_eqb, Err}
use Rattle.machine.specs.declared.Machine.{Machine}
use Rattle.machine.specs.declared.Refusal.TheVariants.{BadArguments}
use Rattle.machine.specs.declared.Reply.{Reply}
use Rattle.machine.specs.Answers.{reply, done, Done}
use Rattle.machine.specs.Geometry.{Range, bench_of}
use Rattle.unit_ranges.specs.Ranges.{seals_in}
use Rattle.machine.specs.Setting.{chosen}
use Rattle.machine.proofs.TestLaws.{false-true, every-each}
use Rattle.run.specs.declared.Run.{Run}
use Rattle.run.specs.Turn.{Running, running, turn, after_turns, answered_done, turn_outcome, turns}
use Rattle.run.proofs.RefusalLaws.{number-done}
use Rattle.run_turn.proofs.TurnLaws.{turn-zero}
use Rattle.c_blocks.specs.Blocks.{machine_bytes, packed}
use Rattle.c_run_blocks.specs.RunBlocks.{run_bytes, run_fit}
use Rattle.c_blocks.proofs.BlockLaws.{machine_of-put_machine, put_machine-same, length-put_machine, put_machine-seals}
use Rattle.c_run_blocks.proofs.RunBlockLaws.{fit_length, run_of-put_run, run_fit-put_run, put_run-same}
use Rattle.c_turn.specs.TurnCalls.{turn_blocks, held_running, turned_out, shown_turn, host_turn, shown_turns, host_turns}
use Rattle.c_turn.proofs.TurnLaws.{blocks-fit}
use Rattle.theorem_calls.specs.Calls.{Buffers, buffers, Call, Called, after_turn, called, calls}
use Rattle.theorem_calls.specs.Composed.{after_calls, turn_calls, zeros, with, TurnsAreTurnCalls}
use Rattle.theorem_calls.proofs.Written.{put_machine-over, put_run-over}
use Rattle.theorem_calls.proofs.Numbers.{machine-words, run-words, Wordy, turns-wordy}
use Rattle.unit_sealing.proofs.AddedRange.{turns-seals}

-- ---- results

-- of an answer that is as `Done`'s where its number is 0: the result is 0 exactly there
first-zero : (x y z : ℕ) → x + y + z ≡ 0 → x ≡ 0
first-zero x y z e = omega arith

pub zero-is-done : (a : Reply) → (done a ≡ true → a ≡ reply Done) → eqb (packed a) 0 ≡ done a
zero-is-done a zero_is = go (done a) refl
  where
    go : (t : Bool) → done a ≡ t → eqb (packed a) 0 ≡ t
    go true e = ap (λ (a : Reply). eqb (packed a) 0) (zero_is e)
    go false e =
        ne_eqb (packed a) 0 (λ z. false-true (sym e ∙ number-done a (first-zero a.number (a.row % 2 ^ 16 * 2 ^ 16) (a.column % 2 ^ 16 * 2 ^ 32) z)))

-- ---- one call after another: the last apart

after_last : (c : Call) (t : ℕ) (b : Buffers) → after_calls (replicate (suc t) c) b ≡ (called c (after_calls (replicate t c) b)).after
after_last c zero b = refl
after_last c (suc t) b = after_last c t (called c b).after

abbrev one : Called → ℕ
one o = cond (eqb o.result 0) 1 0

add-last : (x y z : ℕ) → x + (y + z) ≡ x + y + z
add-last x y z = omega arith

zero-last : (x : ℕ) → x + 0 ≡ 0 + x
zero-last x = omega arith

zeros-last : (c : Call) (t : ℕ) (b : Buffers)
    → zeros (calls (replicate (suc t) c) b) ≡ zeros (calls (replicate t c) b) + one (called c (after_calls (replicate t c) b))
zeros-last c zero b = zero-last (one (called c b))
zeros-last c (suc t) b =
    let d : Buffers = (called c b).after in
    ap (λ (k : ℕ). one (called c b) + k) (zeros-last c t d)
    ∙ add-last (one (called c b)) (zeros (calls (replicate t c) d)) (one (called c (after_calls (replicate t c) d)))

-- ---- calls of bodlarina_run_turn

-- the run and the machine in the buffers
abbrev pub running_in : Buffers → Running
running_in b = held_running b.run b.machine b.registers b.marks b.memory

abbrev pub left : ℕ → Buffers → Called
left result after = record { result = result; after = after }

abbrev turn_on : Buffers → Bool → Called
turn_on b t =
    after_turn b (cond t (shown_turn b.run b.machine (turn_outcome chosen (running_in b)))
    (turned_out (packed (reply (Err BadArguments))) b.run b.machine b.registers b.marks b.memory))

turn-call : (b : Buffers) (t : Bool) → turn_blocks b.run b.machine ≡ t → called Call.run_turn b ≡ turn_on b t
unfolding host_turn
turn-call b t h = ap (turn_on b) h

-- on blocks that are refused
module _ (b : Buffers) (unfit : turn_blocks b.run b.machine ≡ false) where
  refused-call : called Call.run_turn b ≡ left 8 b
  refused-call = turn-call b false unfit

  idle : (t : ℕ) → after_calls (turn_calls t) b ≡ b
  idle zero = refl
  idle (suc t) = ap (λ (o : Called). after_calls (turn_calls t) o.after) refused-call ∙ idle t

  idle-count : (t : ℕ) → zeros (calls (turn_calls t) b) ≡ 0
  idle-count zero = refl
  idle-count (suc t) = ap (λ (o : Called). one o + zeros (calls (turn_calls t) o.after)) refused-call ∙ ap (λ (k : ℕ). 0 + k) (idle-count t)

-- on blocks that fit
module _ (b : Buffers) (fit : turn_blocks b.run b.machine ≡ true) where
  run_fits : run_fit b.run ≡ true
  run_fits = (every-each (run_fit b.run ∷ eqb (length b.machine) machine_bytes ∷ []) fit).0

  run_length : length b.run ≡ run_bytes
  run_length = fit_length b.run run_fits

  machine-length : length b.machine ≡ machine_bytes
  machine-length = eqb-true (length b.machine) machine_bytes (every-each (run_fit b.run ∷ eqb (length b.machine) machine_bytes ∷ []) fit).1.0

  module _ (r : Running) (w : Wordy r) (k : r.bench.seals ≡ seals_in b.machine) where
    back : running_in (with r b) ≡ r
    back =
        ap₂ (λ (R : Run) (m : Machine). running R (bench_of m (seals_in (with r b).machine) r.bench.registers r.bench.marks r.bench.memory))
        (run_of-put_run r.run b.run w.run run_length) (machine_of-put_machine r.bench.machine b.machine w.machine machine-length)
        ∙ ap (λ (rs : List Range). running r.run (bench_of r.bench.machine rs r.bench.registers r.bench.marks r.bench.memory))
        (put_machine-seals r.bench.machine b.machine ∙ sym k)

    fits : turn_blocks (with r b).run (with r b).machine ≡ true
    fits =
        blocks-fit (with r b).run (with r b).machine (run_fit-put_run r.run b.run w.run run_length)
        (length-put_machine r.bench.machine b.machine ∙ machine-length)

    over : (s : Running) → with s (with r b) ≡ with s b
    over s =
        ap₂ (λ (m R : List ℕ). buffers m s.bench.registers s.bench.marks b.scalars s.bench.memory R b.step b.steps b.file)
        (put_machine-over s.bench.machine r.bench.machine b.machine machine-length) (put_run-over s.run r.run b.run run_length)

    pub on : called Call.run_turn (with r b) ≡ left (packed (turn chosen r).answer) (with (turn chosen r).after b)
    on =
        turn-call (with r b) true fits
        ∙ ap (λ (q : Running). left (packed (turn chosen q).answer) (with (turn chosen q).after (with r b))) back
        ∙ ap (left (packed (turn chosen r).answer)) (over (turn chosen r).after)

  module _ (w : Wordy (running_in b)) (same : with (running_in b) b ≡ b) where
    abbrev r : ℕ → Running
    r t = after_turns chosen (running_in b) t

    pub holds : (t : ℕ) → after_calls (turn_calls t) b ≡ with (r t) b
    holds zero = sym same
    holds (suc t) =
        after_last Call.run_turn t b ∙ ap (λ (c : Buffers). (called Call.run_turn c).after) (holds t)
        ∙ ap (λ (o : Called). o.after) (on (r t) (turns-wordy (running_in b) w t) (turns-seals chosen (running_in b) t))

    next : (t : ℕ) → called Call.run_turn (after_calls (turn_calls t) b) ≡ left (packed (turn chosen (r t)).answer) (with (r (suc t)) b)
    next t = ap (called Call.run_turn) (holds t) ∙ on (r t) (turns-wordy (running_in b) w t) (turns-seals chosen (running_in b) t)

    counts : (t : ℕ) → zeros (calls (turn_calls t) b) ≡ answered_done chosen (running_in b) t
    counts zero = refl
    counts (suc t) =
        zeros-last Call.run_turn t b
        ∙ ap₂ (λ (n k : ℕ). n + k) (counts t) (ap one (next t) ∙ ap (λ (u : Bool). cond u 1 0) (zero-is-done (turn chosen (r t)).answer (turn-zero (r t))))

-- ---- bodlarina_run_turns

pub turns-are-turn-calls : TurnsAreTurnCalls
unfolding host_turns
turns-are-turn-calls limit b small small' = go (turn_blocks b.run b.machine) refl
  where
    out : Bool → Called
    out t =
        after_turn b (cond t (shown_turns b.run b.machine (turns chosen (running_in b) limit))
        (turned_out 0 b.run b.machine b.registers b.marks b.memory))

    go : (t : Bool) → turn_blocks b.run b.machine ≡ t
        → ((out t).after ≡ after_calls (turn_calls limit) b) × ((out t).result ≡ zeros (calls (turn_calls limit) b))
    go true fit =
        let w : Wordy (running_in b) = record { run = run-words b.run small (run_fits b fit); machine = machine-words b.machine small' } in
        let same : with (running_in b) b ≡ b =
        ap₂ (λ (m R : List ℕ). buffers m b.registers b.marks b.scalars b.memory R b.step b.steps b.file)
        (put_machine-same b.machine small') (put_run-same b.run small (run_fits b fit)) in
        (sym (holds b fit w same limit), sym (counts b fit w same limit))
    go false unfit = (sym (idle b unfit limit), sym (idle-count b unfit limit))
