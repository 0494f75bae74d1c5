pub mod Driving
pub mod Tests
