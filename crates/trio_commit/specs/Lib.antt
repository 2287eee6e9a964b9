pub mod Store
pub mod Handed
pub mod Bodies
pub mod Listed
pub mod Commits
pub mod inner
