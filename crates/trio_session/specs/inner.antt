pub mod Places
pub mod Inside
pub mod Giving
pub mod Indexes
pub mod Made
pub mod Found
