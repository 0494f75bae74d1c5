pub mod Judging
pub mod Cases
