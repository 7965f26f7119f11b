pub mod AmongLemmas
pub mod TableLemmas
pub mod GivesLemmas
pub mod DeviceLemmas
