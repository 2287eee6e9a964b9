pub mod Cuts
pub mod Escapes
pub mod Forms
pub mod Libraries
pub mod Limits
pub mod Numbers
pub mod Numerals
pub mod Paths
mod Words
