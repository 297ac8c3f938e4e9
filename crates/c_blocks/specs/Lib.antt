-- What a reader must believe: how numbers lie in the host's blocks.
pub mod Blocks
