-- Laws for the proofs of the functions.
pub mod SliceLaws
pub mod MoveLaws
