pub mod Entries
pub mod Open
pub mod Belonging
pub mod Covers
pub mod inner
