-- Laws for the proofs of the functions.
pub mod CheckLaws
pub mod ArithmeticLaws
