-- Laws of the definitions.
pub mod NumberLaws
pub mod FormLaws
pub mod HandedLaws
pub mod PlaceLaws
pub mod BeginLaws
pub mod Invariant
pub mod WordLaws
pub mod StartLaws
pub mod RefusalLaws
pub mod Turns
-- The demands, and the bench sheet.
pub mod Demand1
pub mod Demand2
pub mod Demand3
pub mod Whole
pub mod Sheet
