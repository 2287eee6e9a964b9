pub mod session
pub mod Written
pub mod EditLaws
pub mod TakingLaws
pub mod Calls
pub mod Allotting
pub mod DirLaws
