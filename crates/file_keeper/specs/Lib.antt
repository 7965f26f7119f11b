pub mod Causes
pub mod Reading
pub mod Keepers
pub mod Tails
pub mod Zeros
