pub mod Goes
pub mod Lists
pub mod Removes
pub mod Moves
pub mod Rooms
pub mod Chmods
