pub mod Stands
pub mod Entries
pub mod Replays
pub mod Recorded
pub mod HistoryLaws
pub mod ToldLaws
