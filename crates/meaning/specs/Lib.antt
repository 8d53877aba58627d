pub mod Interpretations
pub mod Meanings
pub mod Theorems
pub mod Answers
