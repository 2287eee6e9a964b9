pub mod Given
pub mod Lending
pub mod Modes
pub mod Numbers
pub mod Parting
pub mod Reads
pub mod Room
