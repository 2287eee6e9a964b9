pub mod Verdicts
pub mod Judging
pub mod Memory
pub mod Laws
pub mod inner
