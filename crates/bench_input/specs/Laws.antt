pub mod Scanning
pub mod Line
pub mod RigEnd
