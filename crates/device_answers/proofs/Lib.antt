pub mod AnswerLemmas
pub mod WideLemmas
