-- What the functions of this crate read, for its own contracts and those of functions that other crates call; no contract of an entry point names it.
pub mod Fields
