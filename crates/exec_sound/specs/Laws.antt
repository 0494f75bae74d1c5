pub mod RightRig
pub mod Check
