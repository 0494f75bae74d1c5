pub mod Signal
pub mod Reading
