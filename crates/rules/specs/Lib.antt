pub mod Limits
pub mod Forms
pub mod Statements
pub mod Refusals
pub mod Fits
pub mod Places
pub mod Formed
