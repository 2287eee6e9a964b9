pub mod Ready
pub mod Threads
