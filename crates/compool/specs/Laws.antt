pub mod Blocks
pub mod Words
pub mod Rows
