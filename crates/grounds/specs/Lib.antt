pub mod Given
pub mod Rules
