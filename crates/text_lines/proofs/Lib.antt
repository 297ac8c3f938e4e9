-- For code.
pub mod ListLaws
pub mod WriteLaws
