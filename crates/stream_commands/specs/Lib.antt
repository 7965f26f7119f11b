pub mod Statuses
pub mod Lines
pub mod Listings
pub mod Running
pub mod Words
