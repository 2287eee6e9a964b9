pub mod Migrated
pub mod OldImage
pub mod OldLoad
pub mod inner
