pub mod Finding
pub mod Once
pub mod Outlined
pub mod Placed
pub mod Slots
pub mod Sources
