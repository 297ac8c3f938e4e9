-- What a reader must believe: the line of a word, reading a line.
pub mod Answers
pub mod Bytes
pub mod Lines
pub mod Reading
pub mod Words
pub mod Programs
-- Statements of theorems about these definitions, and computed examples.
pub mod Theorems
pub mod Examples
