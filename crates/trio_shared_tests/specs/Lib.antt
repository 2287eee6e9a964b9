pub mod Sits
pub mod Seen
