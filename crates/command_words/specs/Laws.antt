pub mod Command
pub mod Cases
