pub mod Played
pub mod Counted
pub mod Endings
pub mod States
