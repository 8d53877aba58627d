pub mod Sets
pub mod Puts
pub mod Trees
pub mod Marking
pub mod Rows
pub mod SetLaws
pub mod Numbers
