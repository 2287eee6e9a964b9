pub mod NodeFacts
pub mod LibraryFacts
mod PathFacts
mod Blocks
pub mod HandedPages
