-- What a reader must believe, in the order of 02, Six.
pub mod Answers
pub mod Cells
pub mod Images
pub mod ImageFormat
pub mod Writing
pub mod Reading
-- Statements of theorems about these definitions, and computed examples.
pub mod Theorems
pub mod Examples
