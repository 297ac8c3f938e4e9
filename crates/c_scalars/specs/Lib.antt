-- What a reader must believe: a step on the scalars' block.
pub mod ScalarBlock
