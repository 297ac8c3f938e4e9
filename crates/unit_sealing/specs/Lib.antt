-- What a reader must believe, after machine/specs/Sealing.antt: what a sealing leaves of a machine's block.
pub mod SealBlock
-- Statements of theorems about these definitions.
pub mod Theorems
