pub mod Files
pub mod Putting
pub mod Tables
