pub mod Places
pub mod Sums
pub mod After
pub mod Kept
