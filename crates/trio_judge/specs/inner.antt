pub mod Walk
pub mod Again
pub mod WalkMemory
