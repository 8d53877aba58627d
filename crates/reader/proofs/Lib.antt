pub mod Cuts
pub mod Rejoined
pub mod Walks
