pub mod ByteLemmas
pub mod Sound
pub mod First
pub mod Taken
pub mod Pinning
pub mod Handed
pub mod Words
