pub mod Outs
pub mod Cells
pub mod Naming
pub mod Bringing
pub mod PutBack
pub mod Rolling
pub mod Placing
mod Words
