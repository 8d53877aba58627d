pub mod Back
pub mod Ways
pub mod Said
