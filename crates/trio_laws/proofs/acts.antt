pub mod Outlines
pub mod Underways
pub mod TwoMoves
pub mod Awaited
