pub mod Goings
pub mod Inputs
