pub mod World
pub mod Outcomes
pub mod Machines
pub mod Safe
pub mod Reached
