pub mod NewTables
pub mod Reading
