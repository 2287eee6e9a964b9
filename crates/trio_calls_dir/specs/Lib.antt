pub mod Asks
pub mod Chmods
pub mod Dir
pub mod inner
