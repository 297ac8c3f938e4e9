-- What a reader must believe: the lines that the program `product` writes.
pub mod Lines
-- For the contracts of writers.
pub mod Parts
