-- Laws for the code: setting marks, filling the runs in, and the entry point.
pub mod FillLaws
pub mod ReadLaws
pub mod SealLaws
pub mod BlockLaws
