pub mod Answers
pub mod Judging
pub mod Laws
