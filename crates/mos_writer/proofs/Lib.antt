pub mod EncodedLemmas
pub mod AsciiLemmas
