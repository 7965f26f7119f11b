pub mod Aims
pub mod Identifiers
pub mod Parts
