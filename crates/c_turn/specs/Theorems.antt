-- What is proved of these definitions. The proofs stand in proofs/.
use Rattle.std.specs.Prelude.{◌≡◌}
use Rattle.numbers.specs.Kit.{List, ℕ}
use Rattle.run.specs.declared.Plan.{Plan}
use Rattle.c_blocks.specs.Blocks.{Bytes}
use Rattle.c_turn.specs.TurnCalls.{turned_out, host_turn, host_turns, ran_out, host_run}

-- "A refusal changes no byte of any buffer."
abbrev pub TurnRefusalChangesNoByte : Type 0
TurnRefusalChangesNoByte = (run machine registers marks memory : List ℕ) → Bytes run → Bytes machine
    → let o = host_turn run machine registers marks memory in
    ¬ (o.result ≡ 0) → o ≡ turned_out o.result run machine registers marks memory

-- turns of which none is answered 0
abbrev pub NoTurnChangesNoByte : Type 0
NoTurnChangesNoByte = (limit : ℕ) (run machine registers marks memory : List ℕ) → Bytes run → Bytes machine
    → let o = host_turns limit run machine registers marks memory in
    o.result ≡ 0 → o ≡ turned_out 0 run machine registers marks memory

abbrev pub RunRefusalChangesNoByte : Type 0
RunRefusalChangesNoByte = (P : Plan) (machine registers marks memory steps : List ℕ)
    → let o = host_run P machine registers marks memory steps in
    ¬ (o.result ≡ 0) → o ≡ ran_out o.result machine registers marks memory steps
