-- What a return of `seal` has to show.
pub mod SealLaws
-- The theorem of specs/Theorems.antt.
pub mod AddedRange
