pub mod Given
pub mod Places
pub mod Counts
pub mod LendLemmas
pub mod Fullness
pub mod ClosingFacts
pub mod PartedHolds
mod Words
