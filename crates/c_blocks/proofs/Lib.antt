-- Laws of the blocks.
pub mod BlockLaws
