pub mod Outcome
pub mod Means
pub mod Reading
pub mod Laws
pub mod Verdicts
