-- For the contracts of inner functions, and of functions that other crates call; what a place means is defined in run/specs/.
pub mod Parts
