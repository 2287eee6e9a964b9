pub mod Joins
pub mod Texts
pub mod ByName
pub mod Trees
