pub mod Blocking
pub mod Flags
