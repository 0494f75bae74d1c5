pub mod Full
pub mod FullRig
