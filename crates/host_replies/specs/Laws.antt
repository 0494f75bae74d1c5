pub mod Beginning
pub mod Same
pub mod Promises
