pub mod Drafts
pub mod Handed
pub mod Telling
pub mod inner
