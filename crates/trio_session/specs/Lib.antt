pub mod Layout
pub mod Seen
pub mod Asked
pub mod Deeds
pub mod inner
