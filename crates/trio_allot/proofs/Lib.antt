pub mod FreeLemmas
pub mod OutLemmas
pub mod Taking
mod Words
