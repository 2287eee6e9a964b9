pub mod Standing
pub mod Again
pub mod Redone
pub mod Courses
pub mod Orders
pub mod Growing
mod Words
