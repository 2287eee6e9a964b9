pub mod NameFacts
mod Paths
mod Storing
mod Visible
