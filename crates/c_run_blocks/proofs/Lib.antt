-- Laws of a run's block.
pub mod RunBlockLaws
