-- Whole numbers as binary32, and the theorems.
pub mod WholeLaws
pub mod Exact
-- An example.
pub mod Examples
