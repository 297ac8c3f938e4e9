-- What a reader must believe: how a run and a step lie in the host's blocks.
pub mod RunBlocks
