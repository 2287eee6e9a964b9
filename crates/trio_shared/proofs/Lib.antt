mod Credentials
mod Left
mod Grown
mod Standing
mod Seats
mod Belongs
mod TwoMoves
mod Finish
mod Releases
mod Mailed
pub mod Sends
mod Words
