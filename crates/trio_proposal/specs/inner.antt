pub mod Proposes
pub mod Steps
