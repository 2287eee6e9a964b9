pub mod Pages
pub mod FileParts
pub mod Loads
pub mod Superblocks
pub mod Images
pub mod Refused
pub mod NodeParts
pub mod NoteParts
pub mod Storing
pub mod Made
mod Words
