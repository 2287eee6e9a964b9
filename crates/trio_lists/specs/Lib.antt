pub mod Lists
pub mod Marked
pub mod Counting
pub mod Sorting
