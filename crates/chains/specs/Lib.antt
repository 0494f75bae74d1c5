pub mod Link
pub mod Chains
pub mod Ops
pub mod Held
pub mod Read
pub mod Laws
