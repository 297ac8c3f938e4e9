-- What a reader must believe, in the order of 01.
pub mod Tests
pub mod Answers
pub mod Geometry
pub mod Starting
pub mod Setting
pub mod Listing
pub mod Memory
pub mod Vectors
pub mod Operation
pub mod Refusals
pub mod Meaning
pub mod SettingWords
pub mod TransferWords
pub mod ArithmeticWords
pub mod MoveWords
pub mod Meanings
pub mod Faults
pub mod Sealing
pub mod Step
-- Machines that differ at most in unmarked register bytes, of which 02 speaks.
pub mod Alike
-- Statements of theorems about these definitions, and computed examples.
pub mod Theorems
pub mod WordTheorems
pub mod Examples
pub mod MoveExamples
pub mod SealExamples
