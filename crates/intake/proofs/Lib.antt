pub mod One
pub mod Judged
pub mod Turning
