-- For code: what each return has to show.
pub mod TurnLaws
-- The theorems of specs/Theorems.antt.
pub mod Refusal
