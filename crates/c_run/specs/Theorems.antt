-- What is proved of these definitions. The proofs stand in proofs/.
use Rattle.std.specs.Prelude.{◌≡◌, List, ℕ}
use Rattle.run.specs.declared.Plan.{Plan}
use Rattle.c_run.specs.RunCalls.{run_started_out, host_run_start, next_out, host_next}

-- "A refusal changes no byte of any buffer."
abbrev pub RunStartRefusalChangesNoByte : Type 0
RunStartRefusalChangesNoByte = (P : Plan) (machine registers marks memory run : List ℕ)
    → let o = host_run_start P machine registers marks memory run in
    ¬ (o.result ≡ 0) → o ≡ run_started_out o.result machine registers marks memory run

abbrev pub NextRefusalChangesNoByte : Type 0
NextRefusalChangesNoByte = (run step : List ℕ)
    → let o = host_next run step in
    ¬ (o.result ≡ 0) → o ≡ next_out o.result run step
