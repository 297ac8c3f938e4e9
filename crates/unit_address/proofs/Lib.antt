-- Laws that the proofs of the functions use, here and in the crates above.
pub mod TestLaws
pub mod AddressLaws
pub mod SealLaws
pub mod DistinctLaws
