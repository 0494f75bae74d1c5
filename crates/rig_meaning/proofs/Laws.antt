pub mod Computed
pub mod Read
