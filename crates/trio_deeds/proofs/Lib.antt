mod Wanting
pub mod Reading
mod Listing
mod Moving
mod NewFiles
mod Links
