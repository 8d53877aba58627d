pub mod Text
pub mod Cut
pub mod Reading
