pub mod Shorts
pub mod Told
pub mod Goods
pub mod Holding
pub mod Judging
pub mod Turns
pub mod Kept
pub mod Only
