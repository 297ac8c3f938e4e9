-- Laws of numbers and of formats; the theorems of specs/Theorems.antt.
pub mod NumberLaws
pub mod FormatLaws
