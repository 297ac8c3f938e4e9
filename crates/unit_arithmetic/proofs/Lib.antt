-- Laws of the code's loops; and what the checks of a step give.
pub mod RoomLaws
pub mod BlockLaws
pub mod WeightLaws
pub mod Arms
