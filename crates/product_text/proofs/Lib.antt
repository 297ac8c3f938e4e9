-- For code.
pub mod ListLaws
pub mod ReadLaws
pub mod ProblemLaws
-- What is written is what Output.antt says; computed examples.
pub mod OutputLaws
pub mod Examples
