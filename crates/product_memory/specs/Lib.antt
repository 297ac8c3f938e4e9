-- Where the matrices of the program `product` lie.
pub mod Memory
