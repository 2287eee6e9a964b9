pub mod Grants
pub mod Answers
pub mod inner
