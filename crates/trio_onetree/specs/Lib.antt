pub mod inner
pub mod CallLaws
