pub mod ActLemmas
pub mod DistinctLemmas
pub mod NumberLemmas
