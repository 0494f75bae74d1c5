pub mod Answers
pub mod Exactly
pub mod LineNumbers
pub mod Known
