pub mod SlotLists
pub mod Gaps
pub mod Sought
pub mod Indexes
pub mod Kept
pub mod PageSlots
pub mod Scans
pub mod Counted
mod Words
