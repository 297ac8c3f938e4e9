-- Laws for the proofs of the functions.
pub mod TurnLaws
pub mod ProgressLaws
pub mod StepLaws
