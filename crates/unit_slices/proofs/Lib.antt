-- Laws of tiles that other crates use, and the theorem.
pub mod TileLaws
pub mod GroupLaws
pub mod MovedBack
