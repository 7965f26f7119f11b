pub mod Matching
pub mod Steps
pub mod Commanding
pub mod Playing
pub mod Worlds
pub mod Stages
pub mod Saying
