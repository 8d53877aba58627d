pub mod Begun
pub mod Recovery
pub mod Entries
pub mod EntryCuts
pub mod Tested
