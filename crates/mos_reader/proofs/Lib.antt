pub mod RawNames
pub mod TokenLemmas
pub mod UnitForms
pub mod HeldRuns
pub mod RunForms
pub mod Starts
pub mod AnswerLemmas
pub mod MoreLemmas
