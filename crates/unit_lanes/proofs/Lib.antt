-- Laws of the code's loops.
pub mod LaneLaws
