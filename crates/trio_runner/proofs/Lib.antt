pub mod CallLeaves
mod Sessions
mod Plain
pub mod Moves
mod Noting
mod Left
mod CallKinds
mod Entries
mod Batches
mod Spelled
pub mod Plays
pub mod Logs
pub mod History
pub mod Outs
pub mod Held
pub mod Orders
pub mod EndFree
pub mod SameAnswers
pub mod SameNodes
pub mod OneTry
pub mod OneCall
pub mod OneReply
pub mod OneFile
pub mod OneDir
pub mod OneMode
pub mod OnePlay
pub mod Alone
pub mod Calling
pub mod Seats
mod Printing
mod Leaving
mod Going
mod Beginning
mod Closing
pub mod Hands
pub mod Sends
mod PoolSends
pub mod Printed
pub mod Keeping
pub mod RanOrder
pub mod RanPrinted
pub mod RanAlone
pub mod RanFree
pub mod SeatHas
pub mod OneAsked
pub mod OneSequence
mod Words
