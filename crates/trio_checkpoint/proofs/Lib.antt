pub mod Bodies
pub mod Chains
pub mod Copies
pub mod Restoring
mod Words
