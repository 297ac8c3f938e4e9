-- For code: what each return has to show.
pub mod ImageLaws
-- How long images are.
pub mod Bounds
-- The theorems of specs/Theorems.antt.
pub mod Refusal
pub mod Packing
