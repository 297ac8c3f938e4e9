-- What a reader must believe: numbers as bytes, formats and what they accept.
pub mod Numbers
pub mod Formats
-- A parser of any format.
pub mod Parser
-- Statements of theorems about these definitions, and computed examples.
pub mod Theorems
pub mod Examples
