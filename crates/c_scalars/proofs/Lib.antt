-- Only the scalars that a word names count.
pub mod NamedScalars
