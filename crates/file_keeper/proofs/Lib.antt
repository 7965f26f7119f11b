pub mod ReadingLemmas
pub mod TailLemmas
