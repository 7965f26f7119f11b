pub mod UnitLemmas
pub mod EscapeLemmas
pub mod LawLemmas
pub mod ReadingLemmas
