-- Laws for the code: the runs of an image, the scan of header and runs, and the entry point.
pub mod RunsLaws
pub mod ScanLaws
pub mod CheckLaws
