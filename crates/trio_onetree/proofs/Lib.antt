pub mod PathFacts
mod WalkFacts
mod Setting
mod Outcomes
mod Listing
pub mod Children
pub mod TreePut
pub mod CallCases
pub mod TreeStays
mod Changes
pub mod Lengths
mod Words
