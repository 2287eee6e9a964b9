pub mod Origins
pub mod Logs
pub mod Marks
pub mod Views
pub mod Rule
pub mod Seats
pub mod inner
