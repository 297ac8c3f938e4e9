-- Laws for the proofs of the functions, and what they require from the checks.
pub mod FormLaws
pub mod WalkLaws
pub mod Room
