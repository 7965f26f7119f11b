pub mod Calls
pub mod Stories
pub mod Views
