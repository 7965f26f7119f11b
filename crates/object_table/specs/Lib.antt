pub mod Objects
pub mod Sizes
pub mod Tables
