pub mod Searching
pub mod Finds
pub mod Judging
pub mod Deciding
