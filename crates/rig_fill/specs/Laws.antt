pub mod Snoc
pub mod Tables
