pub mod Slots
pub mod Places
pub mod Directory
pub mod Laws
pub mod inner
