pub mod Each
pub mod Lines
