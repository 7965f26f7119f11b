pub mod Counted
pub mod Pauses
pub mod Sides
