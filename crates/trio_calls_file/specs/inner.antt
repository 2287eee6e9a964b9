pub mod Goes
pub mod Rooms
