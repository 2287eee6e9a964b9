pub mod Out
pub mod Free
