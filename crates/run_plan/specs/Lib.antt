-- For the contracts of functions that other crates call; what a plan means is defined in run/specs/.
pub mod Parts
