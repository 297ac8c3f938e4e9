-- Laws of the definitions.
pub mod TestLaws
pub mod CheckLaws
pub mod MemoryLaws
pub mod StoreLaws
pub mod ListingLaws
pub mod StepLaws
pub mod SizeLaws
-- For code.
pub mod MatchLaws
pub mod StartLaws
pub mod AnswerLaws
pub mod CodeLaws
-- The theorems of specs/Theorems.antt and specs/WordTheorems.antt.
pub mod Refused
pub mod NoFault
pub mod Sealing
pub mod Stores
pub mod WordRefusals
