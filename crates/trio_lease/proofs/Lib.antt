pub mod Places
pub mod Numbered
pub mod OtherBytes
pub mod Untouched
mod Words
