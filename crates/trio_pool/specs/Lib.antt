pub mod Jobs
pub mod Views
pub mod Rule
pub mod Passes
pub mod inner
pub mod Mails
pub mod Laws
