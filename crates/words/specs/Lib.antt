pub mod Cases
pub mod Agree
