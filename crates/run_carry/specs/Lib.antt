-- For the contracts of inner functions, and of functions that other crates call; what a word does is defined in machine/specs/ and run/specs/.
pub mod Parts
