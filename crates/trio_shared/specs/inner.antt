pub mod Found
pub mod Underway
