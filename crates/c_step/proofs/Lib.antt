-- For code: what each return has to show.
pub mod BenchLaws
-- The theorems of specs/Theorems.antt.
pub mod Refusal
pub mod Packing
