pub mod Stops
pub mod Ends
pub mod Told
pub mod OldStops
