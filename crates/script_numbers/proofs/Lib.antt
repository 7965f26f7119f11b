pub mod RowLemmas
pub mod JournalNumbers
pub mod NumbersOnce
