-- Laws for the proofs of the functions.
pub mod CarriedLaws
pub mod SumsLaws
