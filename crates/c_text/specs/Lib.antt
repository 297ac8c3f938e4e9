-- What a reader must believe, after text_assembly/specs/: what each call answers and leaves.
pub mod TextCalls
-- Statements of theorems about these definitions.
pub mod Theorems
