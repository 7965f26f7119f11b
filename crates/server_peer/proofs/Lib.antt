pub mod DueLemmas
pub mod ViewRows
pub mod Outcomes
pub mod StatusTexts
pub mod SendSteps
pub mod LookLemmas
mod NumberLemmas
pub mod LookLaws
