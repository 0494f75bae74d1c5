pub mod Inv
