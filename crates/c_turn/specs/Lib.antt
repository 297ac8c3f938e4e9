-- What a reader must believe, after c_blocks/specs/: what each call answers and leaves.
pub mod TurnCalls
-- Statements of theorems about these definitions.
pub mod Theorems
