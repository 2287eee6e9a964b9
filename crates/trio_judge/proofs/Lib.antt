mod Faults
pub mod Noting
pub mod Listings
pub mod OtherBytes
mod Owned
mod FileNoted
mod Visiting
mod Ending
pub mod Starting
mod FoundAgain
mod Words
