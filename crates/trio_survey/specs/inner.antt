pub mod Again
pub mod Compared
pub mod Blocks
pub mod Files
pub mod Kept
pub mod Steps
pub mod Walk
pub mod Old
