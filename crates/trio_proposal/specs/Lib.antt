pub mod inner
pub mod Judgement
