-- Blocks that are written over again, and numbers that stay of 64 bits.
pub mod Slots
pub mod Written
pub mod Numbers
-- The theorems of specs/Composed.antt.
pub mod Turns
pub mod Runs
pub mod Seal
pub mod Ranges
