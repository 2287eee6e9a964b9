pub mod Trees
pub mod HeldContent
pub mod Headlines
pub mod Ends
pub mod Causes
pub mod Tells
pub mod MigrateDecided
pub mod Decided
pub mod Names
pub mod Limits
pub mod Gens
pub mod Requests
mod Words
