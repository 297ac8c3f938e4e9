-- The columns of a block.
pub mod Lanes
