pub mod Leases
pub mod Outs
