pub mod Runs
pub mod Demands
pub mod Starred
