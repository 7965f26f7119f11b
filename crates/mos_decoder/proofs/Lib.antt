pub mod StreamLemmas
pub mod PairLemmas
pub mod TellingLemmas
