-- Statement of a theorem.
pub mod MovedBack
