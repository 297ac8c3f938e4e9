-- Laws of values and bits.
pub mod Laws
