pub mod Puts
pub mod Leases
pub mod Keeping
pub mod Allowing
pub mod Placing
pub mod Judging
pub mod Fitting
mod Words
