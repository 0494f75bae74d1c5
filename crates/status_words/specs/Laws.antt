pub mod Status
pub mod Cases
