-- For code: what each return has to show.
pub mod SalvageLaws
-- The theorems of specs/Theorems.antt.
pub mod Refusal
pub mod Packing
pub mod Report
