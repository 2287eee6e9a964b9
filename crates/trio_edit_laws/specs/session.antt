pub mod FileEdits
pub mod Chains
pub mod Fresh
pub mod Listed
pub mod Named
pub mod SlotEdits
pub mod JudgedEdits
