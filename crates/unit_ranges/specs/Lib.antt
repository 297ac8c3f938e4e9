-- What a reader must believe: how a machine's ranges lie in its block.
pub mod Ranges
-- For the contracts of private functions.
pub mod Parts
