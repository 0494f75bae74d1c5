pub mod Wrote
pub mod Text
