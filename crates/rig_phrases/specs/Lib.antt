pub mod Phrases
pub mod Writing
pub mod Counts
