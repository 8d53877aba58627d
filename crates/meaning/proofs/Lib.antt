pub mod RoleSteps
pub mod Tests
pub mod Spelling
pub mod Preserved
pub mod Counter
pub mod Answered
