-- What a reader must believe, in the order of 01, "The product run".
pub mod Words
pub mod Plan
pub mod Encoding
pub mod Start
pub mod Places
pub mod Turn
-- Demand 3, and a whole run; demands 1 and 2 over any mix of acts.
pub mod Statement
pub mod Whole
pub mod Acts
pub mod Theorems
-- The bench sheet; computed examples.
pub mod Sheet
pub mod Examples
