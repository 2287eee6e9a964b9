pub mod Row
pub mod Tables
pub mod Stored
pub mod Out
pub mod Free
pub mod inner
