pub mod Parts
pub mod Accepted
pub mod Taking
pub mod Slots
pub mod Inner
