pub mod Has
pub mod Asked
pub mod inner
