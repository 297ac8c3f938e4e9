-- The theorems of specs/Calls.antt.
pub mod Calls
