-- What a reader must believe, after c_blocks/specs/ and image_salvage/specs/: what a call answers and leaves.
pub mod SalvageCalls
-- Statements of theorems about these definitions.
pub mod Theorems
