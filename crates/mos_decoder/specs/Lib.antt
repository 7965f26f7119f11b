pub mod Inputs
pub mod Bytes
