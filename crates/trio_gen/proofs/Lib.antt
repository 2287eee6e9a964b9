pub mod PathFacts
pub mod LineFacts
pub mod Scripts
pub mod Summaries
mod Words
