pub mod Saying
pub mod Laws
