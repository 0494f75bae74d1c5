pub mod Split
pub mod Parts
