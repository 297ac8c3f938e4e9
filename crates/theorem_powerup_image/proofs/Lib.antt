-- The theorems of specs/ImagesStay.antt.
pub mod ImagesStay
