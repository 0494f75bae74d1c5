pub mod Waking
pub mod Due
