-- Laws of the code's loops.
pub mod LoopLaws
pub mod RowLaws
pub mod KernelLaws
pub mod TurnLaws
pub mod LaneLaws
