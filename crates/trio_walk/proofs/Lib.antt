pub mod Possible
pub mod Then
pub mod Opened
pub mod Leased
pub mod Slots
mod SlotFields
pub mod Listing
pub mod Lent
pub mod Denials
pub mod Looking
pub mod Taking
pub mod Meeting
pub mod Entering
pub mod Stepping
pub mod Agreeing
pub mod Walking
pub mod Retrying
pub mod OwnBusy
pub mod Ways
pub mod Asking
pub mod Stops
mod Words
