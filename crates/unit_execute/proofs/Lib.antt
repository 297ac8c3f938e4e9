-- Laws for the proofs of the functions.
pub mod TransferLaws
pub mod EffectLaws
pub mod OutcomeLaws
pub mod SumLaws
