-- Numbers in pairs.
pub mod Pairs
