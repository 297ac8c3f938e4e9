-- The number at a place, as the code answers it.
pub mod At
