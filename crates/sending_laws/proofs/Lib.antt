pub mod Effects
pub mod Sending
pub mod Editing
pub mod Owing
pub mod Examples
