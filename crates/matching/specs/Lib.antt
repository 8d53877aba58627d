pub mod Complete
pub mod Entries
pub mod Going
pub mod Matched
