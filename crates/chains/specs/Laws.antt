pub mod Front
pub mod Check
pub mod Unique
pub mod Chains
pub mod Held
pub mod Link
pub mod Ops
pub mod Read
