pub mod CodeLaws
pub mod ShapeLaws
