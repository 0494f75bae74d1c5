pub mod Tick
pub mod Blocks
