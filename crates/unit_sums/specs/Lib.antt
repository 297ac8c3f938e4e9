-- What the rows of the code hold.
pub mod Rows
