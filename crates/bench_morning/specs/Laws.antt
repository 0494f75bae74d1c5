pub mod Cases
pub mod Desk
pub mod Whole
pub mod Steps
pub mod Start
pub mod Open
