-- The statement, and computed examples.
pub mod Exact
pub mod Examples
