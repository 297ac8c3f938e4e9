-- What a reader must believe, in the order of 01's paragraph on the program `product`.
pub mod Text
pub mod Problem
pub mod Output
-- For the contracts of inner functions.
pub mod Parts
