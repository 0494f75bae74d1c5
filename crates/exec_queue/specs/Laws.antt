pub mod Queued
pub mod Cycles
pub mod Found
