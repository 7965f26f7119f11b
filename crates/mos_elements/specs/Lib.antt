pub mod Parts
pub mod Opened
pub mod Roles
pub mod Texts
pub mod States
pub mod Standing
pub mod Keys
pub mod Ahead
