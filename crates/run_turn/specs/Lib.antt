-- For the contracts of inner functions; those of the public ones cite run/specs/.
pub mod Parts
