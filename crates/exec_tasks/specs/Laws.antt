pub mod Tasks
pub mod Starting
