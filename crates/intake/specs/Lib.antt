pub mod Outcomes
pub mod Taken
pub mod Texts
