pub mod Told
pub mod Applying
pub mod Sending
pub mod Hearing
pub mod Carrying
pub mod Matching
pub mod Places
