-- The kit's names.
pub mod Kit
-- What a reader must believe, in the order of reading.
pub mod Upto
pub mod Tile
pub mod Reduce
pub mod Binary32
pub mod Blocks
-- Computed examples.
pub mod Examples
-- For contracts of inner functions: the bounds of the largest machine, and the block of the kernels.
pub mod Bounds
