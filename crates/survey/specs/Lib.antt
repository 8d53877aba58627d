pub mod Facts
pub mod Surveys
