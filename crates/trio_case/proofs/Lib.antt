mod Knowing
mod Asked
pub mod Parts
pub mod OtherBytes
mod OwnPages
pub mod Sorted
pub mod Distinct
pub mod Listings
pub mod Unstable
pub mod Gathers
pub mod Ordered
pub mod Counted
pub mod Keeping
pub mod IndexOnce
pub mod Chains
pub mod Naming
pub mod Files
pub mod Opening
pub mod Making
pub mod CaseRows
pub mod CopiedCount
pub mod Copying
mod Words
