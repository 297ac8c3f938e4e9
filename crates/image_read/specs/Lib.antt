-- What a reader must believe, after image/specs/ and unit_ranges/specs/: what reading leaves in a machine's block.
pub mod Blocks
-- What the private functions of this crate leave. No contract of an entry point names it.
pub mod Parts
