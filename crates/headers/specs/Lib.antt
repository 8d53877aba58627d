pub mod Bytes
pub mod Names
pub mod Records
pub mod Header
pub mod Theorems
pub mod Views
pub mod Output
