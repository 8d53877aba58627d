pub mod Roles
pub mod RoleNumbers
pub mod Over
