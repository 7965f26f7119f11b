pub mod PositionLemmas
pub mod PlaceRows
pub mod HeldLists
pub mod HeldJournals
