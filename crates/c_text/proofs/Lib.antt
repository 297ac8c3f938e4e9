pub mod CallLaws
pub mod Refusal
pub mod Packing
