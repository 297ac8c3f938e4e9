-- Laws for the proofs of the functions.
pub mod RunPlaceLaws
pub mod CountLaws
