pub mod Editing
pub mod Saying
pub mod Steps
