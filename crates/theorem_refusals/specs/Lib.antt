-- Codes, values of mtype and the registers' bytes.
pub mod Listed
-- When each answer is given: of a step, of a start and of adding a range, of sizing and writing an image.
pub mod Given
pub mod Faults
pub mod Starts
pub mod Images
