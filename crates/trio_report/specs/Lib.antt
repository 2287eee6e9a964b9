pub mod Report
pub mod Answers
pub mod Replies
pub mod Octal
pub mod Json
pub mod Seen
pub mod inner
