pub mod Kept
pub mod File
pub mod Written
pub mod Laws
