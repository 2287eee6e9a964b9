pub mod Script
pub mod Said
pub mod Honest
pub mod Within
pub mod Words
pub mod Laws
pub mod inner
