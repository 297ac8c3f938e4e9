-- Laws for the proofs of the functions.
pub mod TypeLaws
pub mod FaultLaws
