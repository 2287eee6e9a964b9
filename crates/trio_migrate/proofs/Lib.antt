pub mod SamePages
pub mod Migrating
pub mod OldRefused
