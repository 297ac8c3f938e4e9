-- Laws for code on a block's ranges.
pub mod RangeLaws
pub mod PutLaws
