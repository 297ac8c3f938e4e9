-- Laws that the proofs of the functions use.
pub mod MarkLaws
pub mod CopyLaws
-- For callers: from a sound machine to what the functions require, and from what they ensure to the definitions.
pub mod Room
