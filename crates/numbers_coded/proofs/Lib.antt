-- For code.
pub mod AtLaws
pub mod PutLaws
pub mod SizeLaws
pub mod CopyLaws
pub mod FromLaws
