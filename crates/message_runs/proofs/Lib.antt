pub mod Exchanged
pub mod Givings
pub mod Halves
