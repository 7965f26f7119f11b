pub mod Resting
pub mod Streams
pub mod Going
