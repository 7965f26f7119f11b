pub mod EncodedLemmas
