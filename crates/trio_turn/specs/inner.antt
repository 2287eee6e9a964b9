pub mod Steps
pub mod Resting
pub mod Gathered
