-- Laws of runs, of the format, of the numbers and of the cells.
pub mod RunLaws
pub mod ImageLaws
pub mod HeaderLaws
pub mod CellLaws
-- The theorems of specs/Theorems.antt.
pub mod Images
