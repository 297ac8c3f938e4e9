-- Laws for the code: what follows the header, its numbers, its fields one after the other, and what stays permitted meanwhile.
pub mod BodyLaws
pub mod HeadLaws
pub mod FieldLaws
pub mod ReadyLaws
