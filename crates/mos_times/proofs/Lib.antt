pub mod PatternLemmas
pub mod PlainLemmas
pub mod TextLemmas
