-- A host's buffers and its calls, one after another.
pub mod Calls
-- Statements of theorems over lists of calls.
pub mod Composed
