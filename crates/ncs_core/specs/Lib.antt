pub mod State
pub mod Answers
pub mod Accepting
pub mod Commands
pub mod Starting
pub mod Listed
pub mod Looks
