-- Request Nine of document 02, "power-up contents never matter", of the C interface.
pub mod Calls
