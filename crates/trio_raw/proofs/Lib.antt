pub mod Places
pub mod Once
pub mod Names
pub mod Standing
pub mod Leases
pub mod Kept
pub mod Backing
pub mod Asking
mod Words
