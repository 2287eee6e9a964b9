mod Desks
mod Saw
mod Sends
mod Sitting
mod TwoMoves
mod Writing
mod Words
