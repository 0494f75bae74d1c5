pub mod Ready
pub mod Feed
pub mod Fits
pub mod Cutting
