pub mod Shelf
pub mod Names
pub mod Kept
pub mod Plan
