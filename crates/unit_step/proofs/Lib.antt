-- Laws for the proofs of the functions.
pub mod WordLaws
pub mod MoveOutcomes
pub mod FaultLaws
