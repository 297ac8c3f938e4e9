-- What is read at the front of an input, and what is kept of it.
pub mod FrontLaws
pub mod KeepLaws
-- For code: what each turn and each return has to show.
pub mod StepLaws
pub mod FreshLaws
-- The theorems of specs/Theorems.antt.
pub mod Keeps
pub mod Cut
pub mod Room
