pub mod Words
pub mod Stories
pub mod Edits
