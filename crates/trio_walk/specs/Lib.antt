pub mod Needs
pub mod Walks
pub mod Asks
pub mod Tries
pub mod inner
