-- The kit's names.
pub mod Kit
-- Laws of the definitions, each once over the width or the modulus.
pub mod UptoLaws
pub mod TileLaws
pub mod ReduceLaws
pub mod Binary32Laws
pub mod BlockLaws
-- For code: a row writer that is lent a part, one turn more of a loop, elements, and sums kept at a width.
pub mod PartLaws
pub mod PutLaws
pub mod ElementLaws
pub mod SumLaws
pub mod WordLaws
