pub mod NextWaking
pub mod Overruns
