pub mod Unique
pub mod Made
pub mod Meeting
pub mod Starting
pub mod Promises
