pub mod Reading
pub mod Finding
pub mod Adding
pub mod FileLemmas
pub mod EntryLemmas
pub mod LentLemmas
pub mod Turns
pub mod Judged
pub mod OneOrder
pub mod ToldOnce
pub mod Few
pub mod FlatPlaces
pub mod Outlined
pub mod Unlisted
pub mod Sizes
mod Words
