pub mod Meeting
pub mod Tables
pub mod Settling
