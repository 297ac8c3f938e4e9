pub mod RunLaws
pub mod SolveLaws
