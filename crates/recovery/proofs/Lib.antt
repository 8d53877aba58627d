pub mod Reading
pub mod Filling
pub mod Verdicts
pub mod Cutting
pub mod Tested
