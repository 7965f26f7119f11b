pub mod Lines
pub mod Queues
pub mod ReadableLines
pub mod Telling
pub mod ReadSteps
pub mod ShownTimes
