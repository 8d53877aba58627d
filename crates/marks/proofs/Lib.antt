pub mod Folds
pub mod Steps
pub mod Filling
pub mod Numbering
pub mod Adding
pub mod Rounds
