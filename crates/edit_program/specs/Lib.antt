pub mod Words
pub mod Dials
pub mod Ends
pub mod Files
