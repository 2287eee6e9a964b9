pub mod AtHome
pub mod Wholes
pub mod Views
pub mod Told
pub mod DeskLists
pub mod DeskOuts
pub mod DeskGiven
pub mod WellLent
pub mod DeskFresh
mod DeskRising
pub mod DeskClosed
pub mod DeskSteps
pub mod LeasesBack
pub mod Starting
pub mod Storing
pub mod Moving
pub mod StoredFacts
pub mod Granting
pub mod Outs
pub mod Allotting
pub mod RollingBack
pub mod Children
pub mod AcceptedBundle
pub mod PagesPut
pub mod Committing
pub mod Looks
pub mod Concluding
pub mod Judging
pub mod ChildRows
pub mod Cases
pub mod Given
pub mod GivingBack
pub mod Moding
pub mod Belonging
pub mod PartedHolds
pub mod Bodies
pub mod Awaiting
pub mod Beginnings
pub mod Rooms
pub mod Extents
pub mod Sames
mod SamePages
pub mod Underways
mod Recording
pub mod HandedBundles
mod RecordedReleases
pub mod Ends
mod Ending
mod DeskLogs
mod ModeCalls
pub mod Settling
mod DeskCauses
pub mod Sends
pub mod Serving
pub mod Spending
pub mod Keeping
mod Words
mod Seen
