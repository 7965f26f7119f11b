pub mod Reading
pub mod Messages
pub mod UpperSteps
pub mod Held
pub mod DeckLists
pub mod Answers
pub mod Ready
pub mod Said
mod Examples
