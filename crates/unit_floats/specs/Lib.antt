-- What float rows and tiles hold.
pub mod Rows
