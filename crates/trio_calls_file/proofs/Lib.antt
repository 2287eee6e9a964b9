pub mod Alike
pub mod Looked
pub mod AfterTaking
pub mod Checking
pub mod Noted
pub mod Walkable
pub mod Walked
pub mod Contents
pub mod Rooms
pub mod Writes
pub mod AtFile
pub mod AtTaken
pub mod OwnReads
pub mod WholeTries
pub mod Ends
pub mod Guards
mod Words
