-- The effect of the instructions; products and parts of them; what the weighted sums leave, and how their two rows may lie.
pub mod Effect
pub mod Products
pub mod Tiles
pub mod Weights
