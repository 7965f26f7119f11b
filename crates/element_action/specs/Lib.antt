pub mod Levels
pub mod Targets
pub mod Answers
