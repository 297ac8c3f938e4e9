-- For code: what each return has to show.
pub mod RunLaws
-- The theorems of specs/Theorems.antt.
pub mod Refusal
