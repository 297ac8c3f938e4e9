-- For the contracts of inner functions; what asking means is defined in run/specs/.
pub mod Parts
