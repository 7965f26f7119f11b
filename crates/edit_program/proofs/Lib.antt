pub mod ColonLemmas
pub mod WordLemmas
pub mod ProgramLemmas
pub mod FileLemmas
