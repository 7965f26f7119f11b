pub mod Labels
pub mod MessageEnds
pub mod Exchanges
pub mod Given
