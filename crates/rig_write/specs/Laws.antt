pub mod Kept
pub mod Chain
pub mod Lines
pub mod Sized
pub mod Fits
pub mod Answers
